use Rattle.std.proofs.Common.{Bool, [], sym, ◌∙◌, ap}
use Rattle.std.specs.Prelude.{◌&&◌}
use Rattle.r6_stripe.specs.Holds.{Cell, cell_at}
use Rattle.r6_stripe.specs.Places.{cell_of, no_place, cells_of}
use Rattle.r6_stripe.specs.Plans.{is_in_sync}
use Rattle.r6_stripe.specs.declared.place.PositionState.{PositionState}
use Rattle.r6_stripe.proofs.Places.{cell_at-cells_of}
use Rattle.r6_stripe.proofs.row.RowState.is_recalled.Goals as goal

pub returns-then-second : goal.returns-then-second
returns-then-second c =
    let s = c.args.self.now.hold in
    let i = c.args.second.position in
    c.is_in_sync.ensures
    ∙ ap (λ (place : PositionState). is_in_sync (cell_of place []).standing) c.get.ensures.value
    ∙ sym (ap (λ (cell : Cell). is_in_sync cell.standing) (cell_at-cells_of s.places s.blocks.items i no_place c.requires))
    ∙ ap (λ (b : Bool). b && is_in_sync (cell_at (cells_of s.places s.blocks.items) i).standing) (sym c.if-second.true)
