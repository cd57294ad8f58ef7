pub mod Rest
pub mod Statements
