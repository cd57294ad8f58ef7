pub mod Reaching
pub mod Keeping
pub mod Steps
pub mod Cells
pub mod Numbers
