pub mod Blocks
pub mod History
pub mod Sound
pub mod Seen
pub mod Ranges
pub mod Steps
pub mod Laws
pub mod Plain
