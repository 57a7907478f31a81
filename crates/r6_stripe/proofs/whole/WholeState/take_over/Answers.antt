use Rattle.std.proofs.Common.{◌≡◌, false, ℕ, sym, ap, subst, ◌∙◌}
use Rattle.r6_stripe.specs.Holds.{cell_at}
use Rattle.r6_stripe.specs.Plans.{is_out}
use Rattle.r6_stripe.specs.RowViews.{row_of_state}
use Rattle.r6_stripe.specs.Steps.{Held, taken_over}
use Rattle.r6_stripe.specs.WholeViews.{whole_of_state}
use Rattle.r6_stripe.proofs.ReplacingMoves.{has_two}
use Rattle.r6_stripe.proofs.ReplacingWhole.{seen_is, source}
use Rattle.r6_stripe.proofs.whole.WholeState.take_over.Goals as goal

pub move_to_target-requires-clause-second : goal.move_to_target-requires-clause-second
move_to_target-requires-clause-second c =
    let whole = c.args.self.now in
    let r = c.in-Some.replacement in
    let two = has_two (row_of_state whole.row) r (source whole r c.requires.sound c.in-Some.is).1 c.args.position
    (sym (ap (λ (h : Held). is_out (cell_at h.planned.hold.cells c.args.position).second) (seen_is whole r c.requires.sound c.in-Some.is)) ∙ c.requires.second) in
    subst (λ (i : ℕ). is_out (cell_at (whole_of_state whole).planned.hold.cells i).second ≡ false) two.here c.requires.second

pub returns-in-Some-clause-held : goal.returns-in-Some-clause-held
returns-in-Some-clause-held c =
    let whole = c.args.self.now in
    let r = c.in-Some.replacement in
    let two = has_two (row_of_state whole.row) r (source whole r c.requires.sound c.in-Some.is).1 c.args.position
    (sym (ap (λ (h : Held). is_out (cell_at h.planned.hold.cells c.args.position).second) (seen_is whole r c.requires.sound c.in-Some.is)) ∙ c.requires.second) in
    c.move_to_target.ensures.held ∙ ap (λ (i : ℕ). taken_over (whole_of_state whole) i) (sym two.here)
