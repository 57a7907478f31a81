use Rattle.std.proofs.Common.{◌≡◌, ℕ, ◌+◌, ◌*◌, ◌<◌, ◌≤◌}
use Rattle.r6_waiters.specs.Sets.{is_marked, AreAsWide}
use Rattle.r6_waiters.proofs.front.move_all_down.Given as goal

abbrev pub invariant-loop-index : goal.invariant-loop-index
invariant-loop-index l = record { sets : AreAsWide l.initial.sets l.sets; moved : (set i : ℕ) → set < l.index → is_marked l.sets set i ≡ is_marked l.initial.sets set (64 * l.words + i); left : (set i : ℕ) → l.index ≤ set → is_marked l.sets set i ≡ is_marked l.initial.sets set i }
