pub mod Measuring
pub mod Steps
