use Rattle.std.proofs.Common.{◌≡◌, ◌++◌, take, vec_capacity}
use Rattle.r6_shard.specs.Together.{all_asked}
use Rattle.r6_shard.proofs.submitting.ask_all.Given as goal

abbrev pub invariant-loop-place : goal.invariant-loop-place
invariant-loop-place l = record {
  asked : l.asked.items ≡ l.fn.asked.items ++ all_asked l.answered l.events.items (take l.place l.ops.items);
  room : vec_capacity l.asked ≡ vec_capacity l.fn.asked;
}
