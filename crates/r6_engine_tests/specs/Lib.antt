pub mod Asks
pub mod Passes
