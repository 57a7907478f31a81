use Rattle.std.proofs.Common.{◌∙◌, sym}
use Rattle.r6_frames.proofs.Batches.{blocks_none, none_as}
use Rattle.r6_frames.proofs.writes.Writes.is_empty.Goals as goal

pub returns : goal.returns
returns c =
    let side = c.self.invariant.side_by_side in (
      λ empty. sym c.self.view_is ∙ none_as c.self.inside.served c.self.inside.batch.blocks side (c.is_empty.ensures.0 empty),
      λ none. c.is_empty.ensures.1 (blocks_none c.self.inside.served c.self.inside.batch.blocks side (c.self.view_is ∙ none)),
    )
