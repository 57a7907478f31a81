use Rattle.std.proofs.Common.{◌≡◌, length}
use Rattle.r6_engine_tests.proofs.array.device_of.Given as goal

abbrev pub invariant-loop-shard : goal.invariant-loop-shard
invariant-loop-shard g l = length l.parts.items ≡ l.shard
