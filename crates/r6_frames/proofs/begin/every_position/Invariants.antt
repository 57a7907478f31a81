use Rattle.std.proofs.Common.{◌≡◌, ℕ, ◌<◌, true}
use Rattle.r6_stripe.specs.Masks.{has}
use Rattle.r6_frames.proofs.begin.every_position.Given as goal

abbrev pub invariant-loop-position : goal.invariant-loop-position
invariant-loop-position l = (position : ℕ) → position < l.position → has l.every position ≡ true
