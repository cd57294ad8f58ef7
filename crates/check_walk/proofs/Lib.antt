pub mod Alone
pub mod Chaining
pub mod Gathering
pub mod Growing
pub mod Lone
pub mod Names
pub mod Parts
pub mod Sequencing
