use Rattle.std.proofs.Common.{sym, ap, ◌∙◌, ℕ}
use Rattle.r6_stripe.specs.Holds.{cell_at}
use Rattle.r6_stripe.specs.Plans.{is_out}
use Rattle.r6_stripe.specs.Replacements.{held_beside}
use Rattle.r6_stripe.specs.RowViews.{row_of_state}
use Rattle.r6_stripe.specs.Steps.{Held, dropped}
use Rattle.r6_stripe.proofs.ReplacingMoves.{HasTwo, drops, drops_kept, has_two}
use Rattle.r6_stripe.proofs.ReplacingWhole.{seen_is, source}
use Rattle.r6_stripe.proofs.whole.WholeState.drop_second.Goals.{After-self-1}
use Rattle.r6_stripe.proofs.whole.WholeState.drop_second.Goals as goal

two : (c : After-self-1) → HasTwo (row_of_state c.args.self.now.row) c.in-Some.replacement c.args.position
two c =
    let whole = c.args.self.now in
    let r = c.in-Some.replacement in
    has_two (row_of_state whole.row) r (source whole r c.requires.sound c.in-Some.is).1 c.args.position
    (sym (ap (λ (h : Held). is_out (cell_at h.planned.hold.cells c.args.position).second) (seen_is whole r c.requires.sound c.in-Some.is)) ∙ c.requires.second)

pub returns-in-Some-clause-held : goal.returns-in-Some-clause-held
returns-in-Some-clause-held c =
    let whole = c.args.self.now in
    let r = c.in-Some.replacement in
    let at = two c in
    drops (row_of_state whole.row) r (source whole r c.requires.sound c.in-Some.is).1.within at.stage
    ∙ ap (λ (i : ℕ). dropped (held_beside r (row_of_state whole.row)) i) (sym at.here)
    ∙ ap (λ (h : Held). dropped h c.args.position) (sym (seen_is whole r c.requires.sound c.in-Some.is))

pub returns-in-Some-clause-sound : goal.returns-in-Some-clause-sound
returns-in-Some-clause-sound c =
    let whole = c.args.self.now in
    let r = c.in-Some.replacement in
    let from = source whole r c.requires.sound c.in-Some.is in
    record { row = c.requires.sound.row; replacement = (from.0, drops_kept (row_of_state whole.row) r from.1) }
