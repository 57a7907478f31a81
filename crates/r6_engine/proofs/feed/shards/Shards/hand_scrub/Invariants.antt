use Rattle.std.proofs.Common.{◌≡◌, length}
use Rattle.r6_engine.specs.feed.Feeds.{HasPut}
use Rattle.r6_engine.proofs.FeedLemmas.Putting.{Each, next_below}
use Rattle.r6_engine.proofs.feed.shards.Shards.hand_scrub.Given as goal

abbrev pub invariant-loop-shard : goal.invariant-loop-shard
invariant-loop-shard g l = record {
  shards : length l.producers ≡ g.L.Events.shape.shards;
  each : Each (HasPut g.L.Events.shape g.L.Events.events l.self.queues.now) l.producers (next_below l.shard l.fn.at.number);
}
