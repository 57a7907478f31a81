pub mod Weaving
pub mod Scheduling
pub mod Courses
pub mod Passes
