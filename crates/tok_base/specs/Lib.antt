pub mod Fault
pub mod Files
pub mod Memory
pub mod Room
pub mod Sink
pub mod Source
pub mod Status
pub mod Words
