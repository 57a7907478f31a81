pub mod Seen
pub mod Courses
pub mod Ledgers
pub mod Steps
pub mod Ends
pub mod Witness
