mod Nodes
mod Parts
mod Units
mod Verdicts
