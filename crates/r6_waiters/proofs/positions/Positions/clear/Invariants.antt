use Rattle.std.proofs.Common.{◌≡◌, ℕ, ◌<◌, get_or, length}
use Rattle.r6_waiters.proofs.positions.Positions.clear.Given as goal

abbrev pub invariant-loop-index : goal.invariant-loop-index
invariant-loop-index l = record { as_long : length l.self-inside.words.items ≡ length l.initial.self-inside.words.items; zero : (k : ℕ) → k < l.index → get_or l.self-inside.words.items k 0 ≡ 0 }
