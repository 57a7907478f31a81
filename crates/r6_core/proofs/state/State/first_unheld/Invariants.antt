use Rattle.r6_core.specs.Inside.{NoneUnheld}
use Rattle.r6_core.proofs.state.State.first_unheld.Given as goal

abbrev pub invariant-loop-number : goal.invariant-loop-number
invariant-loop-number l = NoneUnheld l.self.frames l.rebuilt l.number
