pub mod Lists
pub mod Blocks
pub mod Free
pub mod Objects
pub mod Heap
pub mod Begin
pub mod Sound
