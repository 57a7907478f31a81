use Rattle.std.proofs.Common.{◌≡◌, length}
use Rattle.r6_array.specs.Members.{unsettled}
use Rattle.r6_array.proofs.Changes.{map_first}
use Rattle.r6_array.proofs.array.Array.unsettle.Given as goal

abbrev pub invariant-loop-shard : goal.invariant-loop-shard
invariant-loop-shard l = record {
  so_far : l.self ≡ record l.fn.self { shards = map_first unsettled l.shard l.fn.self.shards };
  end : l.shard-end ≡ length l.fn.self.shards;
}
