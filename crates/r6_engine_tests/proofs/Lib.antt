pub mod Passes
pub mod Waits
mod Queued
