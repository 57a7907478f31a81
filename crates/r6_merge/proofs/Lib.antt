pub mod Same
pub mod Weaving
pub mod Scheduling
pub mod Below
pub mod Later
pub mod Courses
pub mod Passes
