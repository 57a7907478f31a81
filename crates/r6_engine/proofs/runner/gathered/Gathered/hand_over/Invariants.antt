use Rattle.std.proofs.Common.{◌≡◌, length, vec_capacity}
use Rattle.r6_engine.proofs.RunnerLemmas.Together.{IsHanding}
use Rattle.r6_engine.proofs.runner.gathered.Gathered.hand_over.Given as goal

abbrev pub invariant-loop-shard : goal.invariant-loop-shard
invariant-loop-shard g l = record {
  handing : IsHanding l.fn.self.events.items l.fn.self.ops.items l.fn.shard l.fn.refused.items l.self.events.items l.self.ops.items l.shard l.refused.items;
  room : vec_capacity l.refused ≡ vec_capacity l.fn.refused;
}

abbrev pub decreases-loop-shard : goal.decreases-loop-shard
decreases-loop-shard g l = length l.self.ops.items
