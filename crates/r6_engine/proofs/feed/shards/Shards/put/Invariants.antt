use Rattle.std.proofs.Common.{◌≡◌}
use Rattle.r6_engine.specs.lists.Queues.{IsProducerOf, put_by}
use Rattle.r6_engine.proofs.feed.shards.Shards.put.Given as goal

abbrev pub invariant-loop : goal.invariant-loop
invariant-loop g l =
    (goal.iterator-loop g).can_next l.iterator' × (goal.iterator-loop g).is_finite l.iterator' × record {
      item : l.item ≡ l.fn.item;
      producer : IsProducerOf g.L.Events.shape g.L.Events.events l.queue l.producer;
      put : put_by l.producer ≡ put_by l.fn.producer;
      of_shard : l.producer.shard ≡ l.fn.producer.shard;
    }
