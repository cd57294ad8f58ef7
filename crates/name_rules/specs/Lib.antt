pub mod Introducing
pub mod Names
