pub mod Counts
pub mod Specified
pub mod Written
