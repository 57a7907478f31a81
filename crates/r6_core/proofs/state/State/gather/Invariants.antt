use Rattle.std.proofs.Common.{◌≡◌, [], length}
use Rattle.std.specs.List.{AllByRecursion}
use Rattle.r6_waiters.specs.Line.{entries_of}
use Rattle.r6_core.specs.Inside.{anything}
use Rattle.r6_core.proofs.Lined.{IsFor}
use Rattle.r6_core.proofs.Gathering.{IsGathering}
use Rattle.r6_core.proofs.state.State.gather.Given as goal
use Rattle.r6_core.specs.Shards.{waiting_of}

abbrev pub invariant-loop-queued : goal.invariant-loop-queued
invariant-loop-queued l = IsGathering l.fn.self l.self 0 × AllByRecursion (IsFor anything) (entries_of l.self.waiting)

abbrev pub decreases-loop-queued : goal.decreases-loop-queued
decreases-loop-queued l = length (waiting_of l.self)

abbrev pub invariant-loop-frame : goal.invariant-loop-frame
invariant-loop-frame l =
    record {
      gathering : IsGathering l.fn.self l.self l.frame;
      none_waiting : waiting_of l.self ≡ [];
    }
