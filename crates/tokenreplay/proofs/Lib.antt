pub mod Courses
pub mod Served
