pub mod Decay
