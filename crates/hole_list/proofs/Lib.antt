pub mod Gaps
pub mod Changes
pub mod Calls
pub mod Free
pub mod Taking
pub mod Giving
