use Rattle.std.proofs.Common.{◌≡◌, ℕ, ◌<◌, ◌≤◌, get_or, length, bit_or}
use Rattle.r6_waiters.proofs.positions.Positions.take_all.Given as goal

abbrev pub invariant-loop-index : goal.invariant-loop-index
invariant-loop-index l = record { as_long : length l.self-inside.words.items ≡ length l.initial.self-inside.words.items; other_as_long : length l.other-inside.words.items ≡ length l.initial.other-inside.words.items; taken : (k : ℕ) → k < l.index → get_or l.self-inside.words.items k 0 ≡ bit_or (get_or l.initial.self-inside.words.items k 0) (get_or l.initial.other-inside.words.items k 0); left : (k : ℕ) → l.index ≤ k → get_or l.self-inside.words.items k 0 ≡ get_or l.initial.self-inside.words.items k 0; given : (k : ℕ) → k < l.index → get_or l.other-inside.words.items k 0 ≡ 0; kept : (k : ℕ) → l.index ≤ k → get_or l.other-inside.words.items k 0 ≡ get_or l.initial.other-inside.words.items k 0 }
