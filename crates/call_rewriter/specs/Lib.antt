pub mod Examples
pub mod Laws
pub mod Mentions
pub mod Plans
pub mod Survey
pub mod Tagged
pub mod Tagger
