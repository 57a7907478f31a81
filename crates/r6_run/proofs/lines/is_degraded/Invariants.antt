use Rattle.std.proofs.Common.{◌≡◌}
use Rattle.r6_run.specs.Lines.{is_degraded}
use Rattle.r6_run.proofs.lines.is_degraded.Given as goal

abbrev pub invariant-loop-slot : goal.invariant-loop-slot
invariant-loop-slot l = l.degraded ≡ is_degraded l.slot l.snapshot
