use Rattle.std.proofs.Common.{◌≡◌, ℕ, length}
use Rattle.r6_simulate.specs.Devices.{IsAt}
use Rattle.r6_simulate.specs.Beginnings.{IsFirstShard}
use Rattle.r6_simulate.specs.declared.shard.Shard.{Shard}
use Rattle.r6_simulate.proofs.array.shards_of.Given as goal

abbrev pub invariant-loop-number : goal.invariant-loop-number
invariant-loop-number l = record {
  count : length l.shards.items ≡ l.number;
  each : (number : ℕ) (shard : Shard) → IsAt l.shards.items number shard → IsFirstShard l.geometry number shard;
}
