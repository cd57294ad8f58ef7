pub mod Named
pub mod Signatures
pub mod Entries
