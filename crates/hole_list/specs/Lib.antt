pub mod Units
pub mod Shape
pub mod Tags
