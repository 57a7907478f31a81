pub mod Crashes
pub mod Caches
pub mod Holes
pub mod Replays
pub mod Journals
pub mod Cores
pub mod Witness
pub mod Volatile
