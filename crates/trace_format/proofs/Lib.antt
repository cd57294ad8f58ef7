pub mod Splits
pub mod Values
pub mod Notes
pub mod Texts
pub mod Computed
pub mod Cutting
