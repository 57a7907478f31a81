use Rattle.std.proofs.Common.{◌≡◌, ◌<◌, ◌≤◌, ℕ, true, false}
use Rattle.r6_waiters.specs.Sets.{place_at, is_marked, AreAsWide}
use Rattle.r6_waiters.proofs.waiters.name_causes.Given as goal

abbrev pub invariant-loop-cause : goal.invariant-loop-cause
invariant-loop-cause g l = record { sets : AreAsWide l.initial.sets l.sets; none : (cause i : ℕ) → cause < l.cause → is_marked l.sets cause i ≡ false; left : (cause i : ℕ) → l.cause ≤ cause → is_marked l.sets cause i ≡ is_marked l.initial.sets cause i; values : (i : ℕ) → (place_at l.places i).1 ≡ (place_at l.initial.places i).1; named : (cause i : ℕ) → cause < l.cause → is_marked l.initial.sets cause i ≡ true → (place_at l.places i).0 ≡ cause }
