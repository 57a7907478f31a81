pub mod Shards
pub mod Heard
