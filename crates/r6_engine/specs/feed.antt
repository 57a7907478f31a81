pub mod Events
pub mod Feeds
