pub mod Entries
pub mod Events
pub mod Laws
pub mod Lists
pub mod Queues
