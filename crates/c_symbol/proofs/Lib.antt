pub mod Chunks
pub mod Index
