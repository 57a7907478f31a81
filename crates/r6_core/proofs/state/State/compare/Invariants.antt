use Rattle.r6_core.proofs.Comparing.{HasOther, HasReplaced}
use Rattle.r6_core.proofs.state.State.compare.Given as goal

abbrev pub invariant-loop-slot : goal.invariant-loop-slot
invariant-loop-slot l = HasReplaced l.snapshot l.slot l.replaced × HasOther l.self l.snapshot l.slot l.differs
