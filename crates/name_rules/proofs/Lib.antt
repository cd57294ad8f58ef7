pub mod Declaring
pub mod Made
pub mod Params
