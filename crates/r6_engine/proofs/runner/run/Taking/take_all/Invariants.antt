use Rattle.std.proofs.Common.{◌≡◌, true}
use Rattle.r6_engine.specs.lists.Queues.{IsConsumerOf}
use Rattle.r6_engine.specs.runner.Going.{TakesOn}
use Rattle.r6_engine.specs.runner.Runners.{KeepsSelf}
use Rattle.r6_engine.proofs.runner.run.Taking.take_all.Given as goal

abbrev pub invariant-loop : goal.invariant-loop
invariant-loop g l =
    (goal.iterator-loop g).can_next l.iterator' × (goal.iterator-loop g).is_finite l.iterator' × record {
      took : TakesOn g.L.Events.shape g.L.Events.events g.L.Events.sound l.fn.self.consumer.shard l.fn.self.consumer.numbers.items
          l.self.consumer.numbers.items l.fn.self.runner l.self.runner;
      same : KeepsSelf l.fn.self.runner l.self.runner;
      shard : l.self.consumer.shard ≡ l.fn.self.consumer.shard;
      consumer : IsConsumerOf l.queue l.self.consumer;
      finished : l.fn.self.consumer.finished ≡ true → l.self.consumer.finished ≡ true;
    }
