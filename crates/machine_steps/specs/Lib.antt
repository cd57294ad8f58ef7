pub mod Frames
pub mod Steps
pub mod Rests
pub mod Laws
pub mod Measure
