pub mod Parting
pub mod Constants
