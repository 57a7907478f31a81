use Rattle.r6_queues.proofs.Queues.{gets}
use Rattle.r6_queues.proofs.relay.Relay.pop.Goals as goal

pub pop_as-requires-clause-rule : goal.pop_as-requires-clause-rule
pop_as-requires-clause-rule g c = (gets g.G.Rule.admits c.requires.lawful.prefix _ _ c.requires.reader, λ _ _ _ _. tt)
