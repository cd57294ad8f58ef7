pub mod Inferred
pub mod Walked
pub mod Untagged
pub mod Sites
pub mod Adds
