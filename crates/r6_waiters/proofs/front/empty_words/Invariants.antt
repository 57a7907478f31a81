use Rattle.std.proofs.Common.{◌≡◌, ℕ, ◌<◌, false}
use Rattle.r6_waiters.specs.Sets.{is_there}
use Rattle.r6_waiters.proofs.front.empty_words.Given as goal

abbrev pub invariant-loop-position : goal.invariant-loop-position
invariant-loop-position g l = (i : ℕ) → i < l.position → is_there l.places i ≡ false
