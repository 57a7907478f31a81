use Rattle.r6_core.proofs.Adopting.{IsAdopting, IsReplacedIn, IsUnreplaced}
use Rattle.r6_core.proofs.state.State.adopt_slots.Given as goal

abbrev pub invariant-loop-slot : goal.invariant-loop-slot
invariant-loop-slot l = IsAdopting l.initial.self l.self l.snapshot (IsUnreplaced l.snapshot l.slot) × IsReplacedIn l.snapshot l.slot l.replaced
