pub mod Answered
pub mod Depths
pub mod Sorted
pub mod SortedLibrary
pub mod SortedExprs
pub mod SortedCalls
pub mod Unique
pub mod WorkedRuns
