pub mod Rows
pub mod Packing
pub mod Standing
pub mod RowSteps
pub mod Whole
