use Rattle.std.proofs.Common.{◌≡◌, ◌+◌, ◌/◌, replicate}
use Rattle.r6_waiters.proofs.waiters.empty_sets.Given as goal

abbrev pub invariant-loop : goal.invariant-loop
invariant-loop l = l.sets.items ≡ replicate l.counter (replicate (l.limit / 64 + 1) 0)
