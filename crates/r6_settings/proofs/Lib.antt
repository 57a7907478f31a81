pub mod DocumentLemmas
pub mod Deciding
