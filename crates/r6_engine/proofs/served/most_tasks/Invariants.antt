use Rattle.std.proofs.Common.{◌≤◌, ◌<◌, ℕ, length}
use Rattle.r6_engine.specs.lists.Events.{tasks_of}
use Rattle.r6_engine.specs.feed.Events.{events_of}
use Rattle.r6_engine.proofs.served.most_tasks.Given as goal

abbrev pub invariant-loop-shard : goal.invariant-loop-shard
invariant-loop-shard g l =
    (k : ℕ) → k < l.shard → length (tasks_of l.geometry k (events_of g.D.BlockDevice.told l.events)) ≤ l.most
