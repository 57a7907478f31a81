use Rattle.std.proofs.Common.{◌≡◌, ◌<◌, ℕ, List, []}
use Rattle.r6_core.specs.Shards.{world_shard}
use Rattle.r6_array.specs.Arrays.{ShardView, Has}
use Rattle.r6_array.proofs.array.Array.next_change.Given as goal

abbrev pub invariant-loop-shard : goal.invariant-loop-shard
invariant-loop-shard l = (n : ℕ) (s : ShardView) → n < l.shard → Has l.self n s → (world_shard s.core).calls ≡ []
