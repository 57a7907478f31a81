pub mod Making
pub mod Lengths
pub mod Questions
