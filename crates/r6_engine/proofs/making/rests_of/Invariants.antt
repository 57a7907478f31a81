use Rattle.std.proofs.Common.{◌≡◌, ◌≤◌, length, vec_capacity}
use Rattle.r6_engine.proofs.making.rests_of.Given as goal

abbrev pub invariant-loop-crew : goal.invariant-loop-crew
invariant-loop-crew g l = (length l.rests.items ≡ l.crew-index) × (length l.fn.crews ≤ vec_capacity l.rests)
