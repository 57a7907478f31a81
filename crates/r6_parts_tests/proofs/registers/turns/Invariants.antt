use Rattle.r6_health.specs.Passes.{IsPassOf}
use Rattle.r6_parts_tests.proofs.registers.turns.Given as goal

abbrev pub invariant-loop-turn : goal.invariant-loop-turn
invariant-loop-turn g l = IsPassOf l.register l.pass
