use Rattle.r6_queues.proofs.Queues.{sends, holds-last, full-of}
use Rattle.r6_queues.proofs.relay.Relay.push.Goals as goal

pub push_as-requires-clause-rule : goal.push_as-requires-clause-rule
push_as-requires-clause-rule g c =
    (sends g.G.Rule.admits _ _ _ _ c.requires.writer c.requires.admitted, holds-last g.G.Rule.admits _ _ c.requires.writer)

pub returns-clause-full : goal.returns-clause-full
returns-clause-full g c = full-of _ _ _ _ _ c.push_as.ensures.rule
