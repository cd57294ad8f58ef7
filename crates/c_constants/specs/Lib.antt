pub mod Integers
pub mod Laws
pub mod Literals
pub mod Rows
