pub mod Layers
pub mod Members
pub mod Parameters
pub mod Records
pub mod Types
