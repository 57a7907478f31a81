use Rattle.std.proofs.Common.{ap, ◌∙◌}
use Rattle.r6_shard.specs.Performing.{Performer}
use Rattle.r6_engine.proofs.posting.remote_of.Goals as goal

pub returns-clause-steady : goal.returns-clause-steady
returns-clause-steady g c slot =
    (λ i. c.take_up.ensures.steady i slot) ∙ ap (λ (p : Performer). p.steady slot) c.in_ok-remote.ensures.fresh
