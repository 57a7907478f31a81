use Rattle.std.proofs.Common.{length}
use Rattle.r6_engine.proofs.feed.shards.+await_each.Given as goal

abbrev pub decreases-await_each : goal.decreases-await_each
decreases-await_each g l = length l.rests.now

abbrev pub invariant-loop : goal.invariant-loop
invariant-loop g l =
    (goal.iterator-loop g).can_next l.iterator' × (goal.iterator-loop g).is_finite l.iterator'
