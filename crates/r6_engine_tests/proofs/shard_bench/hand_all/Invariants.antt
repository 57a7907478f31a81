use Rattle.std.proofs.Common.{◌≡◌}
use Rattle.r6_engine_tests.proofs.shard_bench.hand_all.Given as goal

abbrev pub invariant-loop-event : goal.invariant-loop-event
invariant-loop-event g l = l.shard.pass ≡ l.fn.shard.pass
