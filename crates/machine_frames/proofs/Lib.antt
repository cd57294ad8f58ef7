pub mod Locals
pub mod Pays
pub mod Pushes
