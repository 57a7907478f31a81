use Rattle.std.proofs.Common.{true, [], sym, ap, ◌∙◌}
use Rattle.r6_queues.specs.declared.ends.Ends.{Ends}
use Rattle.r6_queues.specs.Queues.{ends}
use Rattle.r6_queues.proofs.Queues.{appoints}
use Rattle.r6_queues.proofs.relay.both_ends.Goals as goal

pub another-requires-clause-rule : goal.another-requires-clause-rule
another-requires-clause-rule g c =
    appoints g.G.Rule.admits c.requires.lawful.empty _ _ _
    (c.requires.first ∙ ap (λ k. ends true true [] [] [] k) (sym (ap (λ (v : Ends _ _). v.about) c.requires.first)))
