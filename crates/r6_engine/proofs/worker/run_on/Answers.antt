use Rattle.r6_engine.specs.lists.Queues.{IsConsumerOf}
use Rattle.r6_engine.proofs.NewQueues.{some-at}
use Rattle.r6_engine.proofs.worker.run_on.Goals as goal

pub run-requires-clause-consumer : goal.run-requires-clause-consumer
run-requires-clause-consumer g c =
    some-at c.args.shards.now.queues.now c.args.taking.now.consumer.shard c.index-shards-shard.result
    (λ queue. IsConsumerOf queue c.args.taking.now.consumer) c.requires.1
