use Rattle.std.proofs.Common.{◌≡◌, length}
use Rattle.r6_engine.specs.feed.Events.{events_of}
use Rattle.r6_engine.specs.feed.Feeds.{tasks_before}
use Rattle.r6_engine.proofs.feed.making.count_tasks.Given as goal

abbrev pub invariant-loop-event : goal.invariant-loop-event
invariant-loop-event g l =
    l.count ≡ length (tasks_before l.fn.geometry l.fn.shard (events_of g.D.BlockDevice.told l.fn.events) l.event-index)
