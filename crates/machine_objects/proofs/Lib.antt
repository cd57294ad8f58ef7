pub mod Region
pub mod Standing
pub mod Making
pub mod Dying
pub mod Arguments
pub mod Filling
