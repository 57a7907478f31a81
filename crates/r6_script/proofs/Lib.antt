pub mod ScriptLemmas
pub mod RunLemmas
