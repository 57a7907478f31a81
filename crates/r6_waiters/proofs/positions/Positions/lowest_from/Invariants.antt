use Rattle.std.proofs.Common.{◌≡◌, ℕ, ◌<◌, ◌≤◌, ◌/◌, false}
use Rattle.r6_waiters.specs.Positions.{has}
use Rattle.r6_waiters.proofs.positions.Positions.lowest_from.Given as goal

abbrev pub invariant-loop-index : goal.invariant-loop-index
invariant-loop-index l = (q : ℕ) → l.from ≤ q → q / 64 < l.index → has l.self-inside.words.items q ≡ false
