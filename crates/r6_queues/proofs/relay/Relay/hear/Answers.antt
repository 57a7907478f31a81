use Rattle.std.proofs.Common.{◌≡◌, true, sym, subst}
use Rattle.r6_queues.specs.declared.ends.Ends.{Ends}
use Rattle.r6_queues.proofs.Queues.{hears, learns}
use Rattle.r6_queues.proofs.relay.Relay.hear.Goals as goal

pub absorb-requires-clause-rule : goal.absorb-requires-clause-rule
absorb-requires-clause-rule g c = hears g.G.Rule.admits _ _ _ _ g.G.Rule.start

pub learn_as-requires-clause-rule : goal.learn_as-requires-clause-rule
learn_as-requires-clause-rule g c =
    learns g.G.Rule.admits _ _
    (subst (λ (v : Ends _ _). v.pushes ≡ true) (sym c.absorb.ensures.rule) c.requires.writer)
