use Rattle.r6_queues.proofs.Queues.{begin}
use Rattle.r6_queues.proofs.relay.Relay.new.Goals as goal

pub ruled-requires-clause-rule : goal.ruled-requires-clause-rule
ruled-requires-clause-rule g c = begin g.G.Rule.admits g.G.Rule.start (c.requires.lawful.empty g.G.Rule.start)
