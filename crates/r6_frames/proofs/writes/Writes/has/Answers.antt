use Rattle.std.proofs.Common.{List, ℕ, ◌∙◌, ap}
use Rattle.r6_stripe.specs.Plans.{names}
use Rattle.r6_frames.proofs.Batches.{blocks_as}
use Rattle.r6_frames.proofs.writes.Writes.has.Goals as goal

pub returns : goal.returns
returns c =
    c.has.ensures
    ∙ ap (λ (blocks : List (ℕ × List ℕ)). names blocks c.args.index) (blocks_as c.self.inside.served c.self.inside.batch.blocks c.args.self.now c.self.invariant.side_by_side c.self.view_is)
