pub mod Stands
pub mod State
