use Rattle.r6_queues.proofs.Queues.{notes}
use Rattle.r6_queues.proofs.relay.Relay.acknowledge.Goals as goal

pub another-requires-clause-rule : goal.another-requires-clause-rule
another-requires-clause-rule g c = notes g.G.Rule.admits _ _
