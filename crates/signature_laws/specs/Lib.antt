pub mod Named
pub mod Told
pub mod Laws
pub mod Tables
pub mod Rows
