use Rattle.std.proofs.Common.{◌≡◌}
use Rattle.r6_engine.specs.lists.Queues.{IsConsumerOf}
use Rattle.r6_engine_tests.proofs.lists.take_all.Given as goal

abbrev pub invariant-loop : goal.invariant-loop
invariant-loop g l =
    (goal.iterator-loop g).can_next l.iterator' × (goal.iterator-loop g).is_finite l.iterator'
    × IsConsumerOf l.queue l.consumer × (l.consumer.shard ≡ l.fn.consumer.shard)
