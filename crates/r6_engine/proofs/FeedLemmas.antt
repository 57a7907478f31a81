pub mod Putting
pub mod Asked
pub mod Counts
pub mod Requests
pub mod Scrubs
pub mod Promised
pub mod Told
