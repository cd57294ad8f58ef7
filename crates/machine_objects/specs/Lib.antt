pub mod Made
pub mod Fixed
