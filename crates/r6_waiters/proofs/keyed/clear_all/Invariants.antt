use Rattle.std.proofs.Common.{◌≡◌, ◌<◌, ℕ, false}
use Rattle.r6_waiters.specs.Sets.{is_marked, AreAsWide}
use Rattle.r6_waiters.proofs.keyed.clear_all.Given as goal

abbrev pub invariant-loop-index : goal.invariant-loop-index
invariant-loop-index l = record { sets : AreAsWide l.initial.sets l.sets; none : (set i : ℕ) → set < l.index → is_marked l.sets set i ≡ false }
