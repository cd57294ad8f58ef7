pub mod Due
pub mod Going
pub mod Replayed
pub mod Report
pub mod Tables
pub mod Laws
