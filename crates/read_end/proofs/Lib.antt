pub mod Pointers
pub mod Rest
