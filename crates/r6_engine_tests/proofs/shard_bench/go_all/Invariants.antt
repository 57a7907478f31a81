use Rattle.r6_health.specs.Passes.{IsPassOf}
use Rattle.r6_engine_tests.proofs.shard_bench.go_all.Given as goal

abbrev pub invariant-loop-number : goal.invariant-loop-number
invariant-loop-number g l = IsPassOf l.register l.shard.pass × IsPassOf l.register l.caller
