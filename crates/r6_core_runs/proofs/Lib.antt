pub mod Alone
pub mod FixRuns
pub mod LossRuns
pub mod MoveRuns
pub mod OneRuns
pub mod RebuildRuns
pub mod ReplacementRuns
