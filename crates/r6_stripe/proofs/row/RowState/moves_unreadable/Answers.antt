use Rattle.std.proofs.Common.{◌≡◌, Bool, true, false, sym, ◌∙◌, ap, None}
use Rattle.std.specs.Prelude.{if◌then◌else◌}
use Rattle.r6_stripe.specs.Steps.{loses_unreadable}
use Rattle.r6_stripe.specs.Views.{held_of, planned_of}
use Rattle.r6_stripe.proofs.Alone.{cells_alone}
use Rattle.r6_stripe.proofs.BesideRest.{moves_of, moves_option}
use Rattle.r6_stripe.proofs.row.RowState.moves_unreadable.Goals as goal

pub returns-then-loses_unreadable : goal.returns-then-loses_unreadable
returns-then-loses_unreadable c =
    let row = c.args.self.now in
    let loses : loses_unreadable (planned_of row.hold) ≡ true = sym c.loses_unreadable.ensures ∙ c.if-loses_unreadable.true in
    c.unreadable_second.ensures
    ∙ sym (moves_option row.second row.spare row.spare_away (held_of row.hold) (cells_alone row.hold.places row.hold.blocks.items) c.requires.second
    ∙ ap (λ (b : Bool). if b then moves_of row.second row.spare row.spare_away (held_of row.hold) else None) loses)

pub returns-else-loses_unreadable : goal.returns-else-loses_unreadable
returns-else-loses_unreadable c =
    let row = c.args.self.now in
    let stays : loses_unreadable (planned_of row.hold) ≡ false = sym c.loses_unreadable.ensures ∙ c.if-loses_unreadable.false in
    sym (moves_option row.second row.spare row.spare_away (held_of row.hold) (cells_alone row.hold.places row.hold.blocks.items) c.requires.second
    ∙ ap (λ (b : Bool). if b then moves_of row.second row.spare row.spare_away (held_of row.hold) else None) stays)
