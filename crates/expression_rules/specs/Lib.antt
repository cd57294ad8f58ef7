pub mod Typed
pub mod Arguments
pub mod Steps
