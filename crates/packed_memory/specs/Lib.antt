pub mod Packed
pub mod Form
