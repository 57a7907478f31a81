pub mod Ends
pub mod Meeting
pub mod Backs
pub mod Collected
pub mod Whole
pub mod Labels
