pub mod Args
pub mod Converting
pub mod Texts
pub mod Giving
pub mod Places
pub mod Parameters
