pub mod Steps
pub mod Live
pub mod Ever
pub mod Halves
pub mod Determined
pub mod Unique
