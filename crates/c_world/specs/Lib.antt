pub mod Names
pub mod Sets
pub mod Tags
pub mod Inner
pub mod Seen
pub mod Extends
pub mod Start
pub mod Findings
