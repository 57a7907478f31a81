use Rattle.std.proofs.Common.{◌≡◌, false}
use Rattle.r6_engine.specs.lists.Queues.{IsProducerOf, has_ended, put_by}
use Rattle.r6_engine.proofs.feed.shards.Shards.end.Given as goal

abbrev pub invariant-loop : goal.invariant-loop
invariant-loop g l =
    (goal.iterator-loop g).can_next l.iterator' × (goal.iterator-loop g).is_finite l.iterator' × record {
      producer : IsProducerOf g.L.Events.shape g.L.Events.events l.queue l.producer;
      put : put_by l.producer ≡ put_by l.fn.producer;
      of_shard : l.producer.shard ≡ l.fn.producer.shard;
      open_yet : has_ended l.producer ≡ false;
    }
