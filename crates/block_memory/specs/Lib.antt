pub mod Given
pub mod Rooms
pub mod Shape
pub mod CellForm
