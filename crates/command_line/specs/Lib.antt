pub mod Words
pub mod Options
pub mod OptionExamples
pub mod Draft
pub mod Arguments
