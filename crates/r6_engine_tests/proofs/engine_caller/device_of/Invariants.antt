use Rattle.std.proofs.Common.{◌≡◌, length}
use Rattle.r6_engine_tests.proofs.engine_caller.device_of.Given as goal

abbrev pub invariant-loop-shard : goal.invariant-loop-shard
invariant-loop-shard l = length l.parts.items ≡ l.shard
