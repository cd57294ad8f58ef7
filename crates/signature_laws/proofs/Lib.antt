mod Texts
mod Names
pub mod Numbered
pub mod Tables
mod Canonical
mod Fronts
mod Wholes
mod Heads
mod Parameters
pub mod Read
