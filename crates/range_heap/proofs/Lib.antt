pub mod Clear
pub mod Histories
pub mod Keeping
pub mod Apart
pub mod Noting
pub mod Slow
