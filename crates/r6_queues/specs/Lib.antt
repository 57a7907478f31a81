pub mod Queues
pub mod Relays
