use Rattle.std.proofs.Common.{◌≡◌, length}
use Rattle.r6_engine_tests.proofs.engine_caller.parts_of.Given as goal

abbrev pub invariant-loop-shard : goal.invariant-loop-shard
invariant-loop-shard l = length l.shards.items ≡ l.shard
