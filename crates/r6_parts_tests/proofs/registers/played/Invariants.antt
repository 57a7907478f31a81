use Rattle.r6_health.specs.Passes.{IsPassOf}
use Rattle.r6_parts_tests.proofs.registers.played.Given as goal

abbrev pub invariant-loop-index : goal.invariant-loop-index
invariant-loop-index g l = IsPassOf l.register l.pass
