pub mod Found
pub mod Plans
pub mod Units
pub mod Refused
pub mod Told
pub mod Laws
