use Rattle.std.proofs.Common.{◌≡◌, ◌<◌, ◌≤◌, ℕ, length}
use Rattle.r6_array.specs.Arrays.{ShardView, Has}
use Rattle.r6_array.specs.Members.{AllAreTaken}
use Rattle.r6_array.proofs.array.Array.next_command.Given as goal

abbrev pub invariant-loop-shard : goal.invariant-loop-shard
invariant-loop-shard l = record {
  same : l.self ≡ l.fn.self;
  end : l.shard-end ≡ length l.fn.self.shards;
  none : (n : ℕ) (s : ShardView) → n < l.shard → Has l.fn.self n s → AllAreTaken s.core;
}
