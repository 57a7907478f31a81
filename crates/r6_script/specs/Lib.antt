pub mod RunScript
pub mod Script
pub mod Texts
