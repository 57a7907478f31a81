use Rattle.std.proofs.Common.{◌≡◌, ℕ, ◌<◌, false}
use Rattle.r6_waiters.specs.Sets.{is_marked}
use Rattle.r6_waiters.proofs.waiters.cause_of.Given as goal

abbrev pub invariant-loop-cause : goal.invariant-loop-cause
invariant-loop-cause l = (cause : ℕ) → cause < l.cause → is_marked l.sets cause l.position ≡ false
