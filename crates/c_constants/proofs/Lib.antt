pub mod Held
pub mod Parted
pub mod Reading
pub mod Spelled
