use Rattle.std.proofs.Common.{◌≡◌, Bool, true, false, refl, sym, ◌∙◌, ap}
use Rattle.std.specs.Prelude.{◌&&◌, not, is_some}
use Rattle.r6_stripe.specs.Steps.{loses_unreadable}
use Rattle.r6_stripe.specs.Views.{held_of, planned_of}
use Rattle.r6_stripe.proofs.BesideRest.{loses_option, moves_of}
use Rattle.r6_stripe.proofs.Alone.{cells_alone}
use Rattle.r6_stripe.proofs.row.RowState.loses_unreadable.Goals as goal

pub returns-then-loses_unreadable : goal.returns-then-loses_unreadable
returns-then-loses_unreadable c =
    let row = c.args.self.now in
    let loses : loses_unreadable (planned_of row.hold) ≡ true = sym c.loses_unreadable.ensures ∙ c.if-loses_unreadable.true in
    sym (loses_option row.second row.spare row.spare_away (held_of row.hold) (cells_alone row.hold.places row.hold.blocks.items) c.requires.second
    ∙ (λ k. loses k && not (is_some (sym c.unreadable_second.ensures k))) ∙ ap not c.is_none.ensures ∙ not_not c.is_none.result)
  where
    not_not : (b : Bool) → not (not b) ≡ b
    not_not true = refl
    not_not false = refl

pub returns-else-loses_unreadable : goal.returns-else-loses_unreadable
returns-else-loses_unreadable c =
    let row = c.args.self.now in
    let stays : loses_unreadable (planned_of row.hold) ≡ false = sym c.loses_unreadable.ensures ∙ c.if-loses_unreadable.false in
    c.if-loses_unreadable.false
    ∙ sym (loses_option row.second row.spare row.spare_away (held_of row.hold) (cells_alone row.hold.places row.hold.blocks.items) c.requires.second
    ∙ ap (λ (b : Bool). b && not (is_some (moves_of row.second row.spare row.spare_away (held_of row.hold)))) stays)
