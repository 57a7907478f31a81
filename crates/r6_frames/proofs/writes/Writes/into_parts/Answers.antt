use Rattle.std.proofs.Common.{◌∙◌, sym, ap, subst}
use Rattle.r6_stripe.specs.BatchLists.{AreDistinct}
use Rattle.r6_frames.specs.Writes.{served_in}
use Rattle.r6_frames.proofs.Batches.{blocks_as, served_back}
use Rattle.r6_frames.proofs.writes.Writes.into_parts.Goals as goal

pub returns-clause-served : goal.returns-clause-served
returns-clause-served c = sym (served_back c.self.inside.served c.self.inside.batch.blocks c.self.invariant.side_by_side) ∙ ap served_in c.self.view_is

pub returns-clause-blocks : goal.returns-clause-blocks
returns-clause-blocks c = λ i. record { blocks = blocks_as c.self.inside.served c.self.inside.batch.blocks c.args.self c.self.invariant.side_by_side c.self.view_is i }

pub returns-clause-distinct : goal.returns-clause-distinct
returns-clause-distinct c =
    subst AreDistinct (blocks_as c.self.inside.served c.self.inside.batch.blocks c.args.self c.self.invariant.side_by_side c.self.view_is) c.self.invariant.distinct
