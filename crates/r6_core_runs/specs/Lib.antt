pub mod Fixes
pub mod Losses
pub mod Rebuilds
pub mod Replacements
pub mod Moves
