mod Scalars
mod Counts
mod Sizing
mod Names
mod Keeping
