pub mod Parted
pub mod Integers
