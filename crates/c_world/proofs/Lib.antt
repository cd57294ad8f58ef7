pub mod Growth
pub mod Heads
mod Leaving
mod Listed
mod Numbering
mod Sound
mod Tagged
mod Starting
