use Rattle.std.proofs.Common.{◌≡◌, length}
use Rattle.r6_engine.specs.feed.Feeds.{HasPut}
use Rattle.r6_engine.proofs.FeedLemmas.Putting.{Each, next_below}
use Rattle.r6_engine.proofs.feed.shards.Shards.hand_parts.Given as goal

abbrev pub invariant-loop-part : goal.invariant-loop-part
invariant-loop-part g l =
    (goal.iterator-loop-part g).can_next l.part-iterator × (goal.iterator-loop-part g).is_finite l.part-iterator × record {
      shard_is : l.shard ≡ length l.yielded;
      shards : length l.producers ≡ g.L.Events.shape.shards;
      each : Each (HasPut g.L.Events.shape g.L.Events.events l.self.queues.now) l.producers (next_below l.shard l.fn.at.number);
    }
