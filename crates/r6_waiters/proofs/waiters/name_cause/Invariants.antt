use Rattle.std.proofs.Common.{◌≡◌, ℕ, true, length}
use Rattle.std.specs.Prelude.{sum, if◌then◌else◌}
use Rattle.r6_waiters.specs.Positions.{has}
use Rattle.r6_waiters.specs.Sets.{place_at}
use Rattle.r6_waiters.proofs.waiters.name_cause.Given as goal

abbrev pub decreases-loop-position : goal.decreases-loop-position
decreases-loop-position g l = sum l.set

abbrev pub invariant-loop-position : goal.invariant-loop-position
invariant-loop-position g l = record { left : (i : ℕ) → has l.set i ≡ true → has l.initial.set i ≡ true; as_long : length l.set ≡ length l.initial.set; named : (i : ℕ) → place_at l.places i ≡ ((if has l.set i then (place_at l.initial.places i).0 else (if has l.initial.set i then l.cause else (place_at l.initial.places i).0)), (place_at l.initial.places i).1) }
