use Rattle.r6_health.specs.Passes.{IsPassOf}
use Rattle.r6_engine_tests.proofs.runner_bench.prepare.Given as goal

abbrev pub invariant-loop-slot : goal.invariant-loop-slot
invariant-loop-slot g l = IsPassOf l.fn.register l.caller

abbrev pub invariant-loop-slot-2 : goal.invariant-loop-slot-2
invariant-loop-slot-2 g l = IsPassOf l.fn.register l.caller
