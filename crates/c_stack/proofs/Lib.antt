pub mod Empty
pub mod Rest
pub mod Words
