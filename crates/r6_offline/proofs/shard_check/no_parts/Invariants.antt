use Rattle.std.proofs.Common.{◌≡◌, length}
use Rattle.r6_offline.proofs.shard_check.no_parts.Given as goal

abbrev pub invariant-loop : goal.invariant-loop
invariant-loop g l = length l.parts.items ≡ l.counter
