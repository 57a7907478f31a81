pub mod Built
pub mod GrammarLemmas
pub mod Walks
pub mod Taken
