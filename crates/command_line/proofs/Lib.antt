pub mod Drafts
pub mod OptionExamples
pub mod Ranges
