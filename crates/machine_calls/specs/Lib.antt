pub mod Callees
pub mod Found
pub mod Arguments
