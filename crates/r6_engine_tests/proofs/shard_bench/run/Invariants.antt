use Rattle.r6_health.specs.Passes.{IsPassOf}
use Rattle.r6_engine_tests.proofs.shard_bench.run.Given as goal

abbrev pub invariant-loop : goal.invariant-loop
invariant-loop g l =
    (goal.iterator-loop g).can_next l.iterator' × (goal.iterator-loop g).is_finite l.iterator' × IsPassOf l.register l.shard.pass
