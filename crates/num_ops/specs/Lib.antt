pub mod Arithmetic
pub mod Constants
pub mod Conversions
pub mod Kinds
pub mod Numbers
pub mod Rows
