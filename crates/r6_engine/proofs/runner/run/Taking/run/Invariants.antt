use Rattle.std.proofs.Common.{◌≡◌}
use Rattle.r6_engine.specs.lists.Queues.{IsConsumerOf}
use Rattle.r6_health.specs.Passes.{IsPassOf}
use Rattle.r6_engine.specs.runner.Going.{TakesOn}
use Rattle.r6_engine.proofs.runner.run.Taking.run.Given as goal

abbrev pub invariant-loop : goal.invariant-loop
invariant-loop g l =
    (goal.iterator-loop g).can_next l.iterator' × (goal.iterator-loop g).is_finite l.iterator' × record {
      pass : IsPassOf l.register l.self.runner.shard.pass;
      consumer : IsConsumerOf l.queue l.self.consumer;
      took : TakesOn g.L.Events.shape g.L.Events.events g.L.Events.sound l.fn.self.consumer.shard l.fn.self.consumer.numbers.items
          l.self.consumer.numbers.items l.fn.self.runner l.self.runner;
      shard : l.self.consumer.shard ≡ l.fn.self.consumer.shard;
      place : l.self.runner.shard.core.shard ≡ l.fn.self.runner.shard.core.shard;
    }
