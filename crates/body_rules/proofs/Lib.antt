mod Either
mod Enums
pub mod Known
pub mod Calls
pub mod Lists
pub mod Qualifiers
pub mod Literals
pub mod Texts
