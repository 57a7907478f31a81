pub mod ListLemmas
pub mod FeedLemmas
pub mod RunnerLemmas
pub mod RemoteLemmas
pub mod JoiningLemmas
mod NewParts
mod Crews
mod EachShard
mod NewQueues
mod Numbers
mod Stops
mod Passes
mod Rows
mod Reasons
mod InOrder
mod Named
mod Saying
mod Known
mod Numbered
mod Says
mod Answered
mod Replied
mod Told
mod InSync
mod Popped
mod Stands
mod Explains
mod ServedShard
mod Unskipped
mod OneRuns
mod ServedArray
mod Alike
