use Rattle.std.proofs.Common.{◌≡◌, ℕ, ◌+◌, ◌<◌, ◌≤◌, get_or, length}
use Rattle.r6_waiters.proofs.positions.Positions.move_down.Given as goal

abbrev pub invariant-loop-index : goal.invariant-loop-index
invariant-loop-index l = record { as_long : length l.self-inside.words.items ≡ length l.initial.self-inside.words.items; moved : (k : ℕ) → k < l.index → get_or l.self-inside.words.items k 0 ≡ get_or l.initial.self-inside.words.items (k + l.words) 0; left : (k : ℕ) → l.index ≤ k → get_or l.self-inside.words.items k 0 ≡ get_or l.initial.self-inside.words.items k 0 }

abbrev pub invariant-loop-index-2 : goal.invariant-loop-index-2
invariant-loop-index-2 l = record { as_long : length l.self-inside.words.items ≡ length l.initial.self-inside.words.items; moved : (k : ℕ) → k < l.left → get_or l.self-inside.words.items k 0 ≡ get_or l.initial.self-inside.words.items k 0; none : (k : ℕ) → l.left ≤ k → k < l.index → get_or l.self-inside.words.items k 0 ≡ 0 }
