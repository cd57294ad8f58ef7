pub mod Seen
pub mod Chunks
pub mod Shown
pub mod Index
pub mod Nodes
pub mod Made
