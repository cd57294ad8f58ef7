pub mod Tokens
pub mod EntryPoints
pub mod Renumbered
pub mod Tagged
pub mod Refusals
pub mod Edits
pub mod Lines
pub mod Laws
