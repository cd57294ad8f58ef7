pub mod Lexemes
pub mod Views
pub mod Examples
pub mod Pieces
pub mod Appended
pub mod Valid
mod Nodes
mod Spelling
