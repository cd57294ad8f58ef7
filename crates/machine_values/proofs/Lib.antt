pub mod Outcomes
pub mod Codes
pub mod Small
