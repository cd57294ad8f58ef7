pub mod Addresses
pub mod Constants
pub mod Forms
