pub mod Leading
pub mod Quiet
pub mod Asking
pub mod Granting
pub mod Requesting
