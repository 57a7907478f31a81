use Rattle.std.proofs.Common.{◌≡◌, ℕ}
use Rattle.std.specs.Prelude.{◌==◌, ◌&&◌, nat_lt}
use Rattle.r6_waiters.specs.Sets.{place_at, is_marked, AreAsWide}
use Rattle.r6_waiters.proofs.waiters.mark.Given as goal

abbrev pub invariant-loop-position : goal.invariant-loop-position
invariant-loop-position g l = record { sets : AreAsWide l.initial.sets l.sets; marks : (cause i : ℕ) → is_marked l.sets cause i ≡ (nat_lt i l.position && ((place_at l.places i).0 == cause)) }
