use Rattle.std.proofs.Common.{◌≡◌}
use Rattle.r6_waiters.specs.Line.{entries_of, with_entries}
use Rattle.r6_waiters.proofs.Gathered.{gathered_below}
use Rattle.r6_waiters.proofs.waiters.Waiters.gather.Given as goal

abbrev pub invariant-loop-from : goal.invariant-loop-from
invariant-loop-from g l = l.self ≡ with_entries l.initial.self (gathered_below l.from l.cause (entries_of l.initial.self))
