use Rattle.r6_waiters.specs.Sets.{AreAsWide}
use Rattle.r6_waiters.proofs.ByKey.{AreMarkedBelow}
use Rattle.r6_waiters.proofs.keyed.mark_keys.Given as goal

abbrev pub invariant-loop-position : goal.invariant-loop-position
invariant-loop-position g l = record { sets : AreAsWide l.initial.keyed l.keyed; marks : AreMarkedBelow g.K.KeyOf.key_of l.keyed l.places l.position }
