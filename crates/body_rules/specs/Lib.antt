pub mod Known
pub mod Lengths
pub mod Calls
pub mod Lists
pub mod Sizes
