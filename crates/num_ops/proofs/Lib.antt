pub mod Bounds
pub mod Converting
pub mod Outcomes
