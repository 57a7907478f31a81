use Rattle.std.proofs.Common.{ℕ, ◌<◌}
use Rattle.r6_shard.specs.New.{HasNew, HasNewHere}
use Rattle.r6_shard.proofs.readiness.has_all.Given as goal

abbrev pub invariant-loop-slot : goal.invariant-loop-slot
invariant-loop-slot g l =
    (other : ℕ) → other < l.slot
    → HasNewHere (g.P.Performs.performer l.fn.parts).labels l.fn.snapshot other × HasNew (g.P.Performs.performer l.fn.parts).tells l.fn.snapshot other
