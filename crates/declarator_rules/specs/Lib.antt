pub mod Built
pub mod Layers
pub mod Layering
pub mod Lengths
pub mod Members
pub mod Used
