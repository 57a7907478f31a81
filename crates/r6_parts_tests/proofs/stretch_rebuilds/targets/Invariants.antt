use Rattle.std.proofs.Common.{◌≡◌, length}
use Rattle.r6_parts_tests.proofs.stretch_rebuilds.targets.Given as goal

abbrev pub invariant-loop-shard : goal.invariant-loop-shard
invariant-loop-shard l = length l.targets.items ≡ l.shard
