pub mod Exists
pub mod Told
pub mod Numbers
pub mod Retag
pub mod Tagged
pub mod Spans
