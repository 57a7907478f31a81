use Rattle.std.proofs.Common.{Bool, get_or, sym, ap, ◌∙◌}
use Rattle.std.specs.Prelude.{not, ◌&&◌}
use Rattle.r6_stripe.specs.Holds.{cell_at}
use Rattle.r6_stripe.specs.Places.{standing_of}
use Rattle.r6_stripe.specs.Plans.{has_target, is_out}
use Rattle.r6_stripe.specs.Steps.{Held}
use Rattle.r6_stripe.specs.declared.place.PositionState.{PositionState}
use Rattle.r6_stripe.proofs.ReplacingWhole.{position_below, seen_is, source, target_there}
use Rattle.r6_stripe.proofs.whole.WholeState.has_target.Goals as goal

pub get-requires : goal.get-requires
get-requires c =
    let whole = c.args.self.now in
    position_below whole.row c.args.replacement (source whole c.args.replacement c.requires.sound c.requires.replacement)

pub returns-then-not-is_dropped : goal.returns-then-not-is_dropped
returns-then-not-is_dropped c =
    let whole = c.args.self.now in
    let r = c.args.replacement in
    ap not (c.is_out.ensures ∙ ap (λ (p : PositionState). is_out (standing_of p.state)) c.get.ensures.value)
    ∙ ap (λ (b : Bool). not b && not (is_out (standing_of (get_or whole.row.hold.places r.position Rattle.r6_stripe.specs.Places.no_place).state))) (sym c.if-not-is_dropped.true ∙ c.is_dropped.ensures)
    ∙ sym (target_there whole.row r (source whole r c.requires.sound c.requires.replacement))
    ∙ sym (ap (λ (h : Held). has_target (cell_at h.planned.hold.cells r.position)) (seen_is whole r c.requires.sound c.requires.replacement))

pub returns-else-not-is_dropped : goal.returns-else-not-is_dropped
returns-else-not-is_dropped c =
    let whole = c.args.self.now in
    let r = c.args.replacement in
    ap not c.if-not-is_dropped.false
    ∙ ap (λ (b : Bool). not b && not (is_out (standing_of (get_or whole.row.hold.places r.position Rattle.r6_stripe.specs.Places.no_place).state))) (sym c.if-not-is_dropped.false ∙ c.is_dropped.ensures)
    ∙ sym (target_there whole.row r (source whole r c.requires.sound c.requires.replacement))
    ∙ sym (ap (λ (h : Held). has_target (cell_at h.planned.hold.cells r.position)) (seen_is whole r c.requires.sound c.requires.replacement))
