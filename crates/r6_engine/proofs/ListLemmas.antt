pub mod Elements
pub mod Entries
pub mod Queues
pub mod Rising
pub mod Sharing
pub mod Tasks
