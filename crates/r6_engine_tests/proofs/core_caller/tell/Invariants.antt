use Rattle.r6_health.specs.Passes.{IsPassOf}
use Rattle.r6_engine_tests.proofs.core_caller.tell.Given as goal

abbrev pub invariant-loop : goal.invariant-loop
invariant-loop g l = IsPassOf l.register l.pass
