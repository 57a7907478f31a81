pub mod Lines
pub mod Remotes
pub mod Props
