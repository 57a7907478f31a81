pub mod AtShards
pub mod Beginnings
pub mod Devices
pub mod Lines
pub mod Plays
pub mod Shards
