use Rattle.std.proofs.Common.{◌≡◌, ◌-◌, ℕ, ◌<◌, ◌≤◌, false, length}
use Rattle.r6_waiters.specs.Keys.{is_keyed}
use Rattle.r6_waiters.proofs.keyed.find.Given as goal

abbrev pub invariant-loop-position : goal.invariant-loop-position
invariant-loop-position g l = record { below : l.from ≤ length l.places; none : (i : ℕ) → i < l.from → is_keyed g.K.KeyOf.key_of l.key l.places i ≡ false }

abbrev pub decreases-loop-position : goal.decreases-loop-position
decreases-loop-position g l = length l.places - l.from
