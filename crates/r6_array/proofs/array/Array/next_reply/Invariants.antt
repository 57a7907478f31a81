use Rattle.std.proofs.Common.{◌≡◌, length}
use Rattle.r6_array.specs.Effects.{PassesOver}
use Rattle.r6_array.proofs.Replies.{Looked}
use Rattle.r6_array.proofs.array.Array.next_reply.Given as goal

abbrev pub invariant-loop-shard : goal.invariant-loop-shard
invariant-loop-shard l = record {
  passes : PassesOver l.fn.self l.shard l.self;
  looked : Looked l.fn.self l.self;
  count : length l.self.shards ≡ length l.fn.self.shards;
  end : l.shard-end ≡ length l.fn.self.shards;
}
