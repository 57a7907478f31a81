use Rattle.std.proofs.Common.{Bool, false, sym, ◌∙◌, ap, arith}
use Rattle.std.specs.Prelude.{◌&&◌, ◌==◌, not, if◌then◌else◌}
use Rattle.r6_stripe.specs.Holds.{cell_at}
use Rattle.r6_stripe.specs.Places.{is_command_out}
use Rattle.r6_stripe.specs.Plans as plans
use Rattle.r6_stripe.specs.Steps.{Held}
use Rattle.r6_stripe.specs.Views.{held_of, hold_of}
use Rattle.r6_stripe.proofs.Alone.{cells_alone}
use Rattle.r6_stripe.proofs.BesideEnds.{busy_awaited, busy_recalled, busy_same, either_not, is_busy}
use Rattle.r6_stripe.proofs.BesideLosses.{sound_some}
use Rattle.r6_stripe.proofs.BesideRow.{going_row, row_inside, seen_is}
use Rattle.r6_stripe.proofs.MaskedPlaces.{cell_masked}
use Rattle.r6_stripe.proofs.Places.{command_out-blind}
use Rattle.r6_stripe.proofs.row.RowState.has_out_beside.Goals as goal

pub returns-then-is_sent : goal.returns-then-is_sent
returns-then-is_sent c =
    let row = c.args.self.now in
    let second = c.args.second in
    let sound = sound_some row second c.requires.sound c.requires.second in
    sym (ap (λ (h : Held). is_busy h.planned.hold) (sym (seen_is row second c.requires.second))
    ∙ busy_awaited second row.spare (held_of row.hold) row.spare_away (cells_alone row.hold.places row.hold.blocks.items) sound (sym c.is_sent.ensures ∙ c.if-is_sent.true))

pub put-requires : goal.put-requires
put-requires c = omega (arith, row_inside c.args.self.now c.args.second c.requires.sound c.requires.second, c.requires.sound.sound.at_most)

pub returns-then-second : goal.returns-then-second
returns-then-second c =
    let row = c.args.self.now in
    let s = row.hold in
    let second = c.args.second in
    let sound = sound_some row second c.requires.sound c.requires.second in
    let alone = cells_alone s.places s.blocks.items in
    sym (ap (λ (h : Held). is_busy h.planned.hold) (sym (seen_is row second c.requires.second))
    ∙ busy_recalled second row.spare (held_of s) row.spare_away alone sound c.if-second.true c.put.result c.is_empty.result
    (λ i. c.put.ensures i ∙ ap (λ (b : Bool). if i == second.position then false else b) (cell_masked is_command_out command_out-blind s.places s.blocks.items c.command_out.result c.command_out.ensures i))
    c.is_empty.ensures.none c.is_empty.ensures.some)

pub returns : goal.returns
returns c =
    let row = c.args.self.now in
    let second = c.args.second in
    let sound = sound_some row second c.requires.sound c.requires.second in
    ap not c.is_quiet.ensures ∙ either_not (plans.has_read_out (hold_of row.hold)) (plans.has_write_out (hold_of row.hold))
    ∙ sym (ap (λ (h : Held). is_busy h.planned.hold) (sym (seen_is row second c.requires.second))
    ∙ busy_same second row.spare (held_of row.hold) row.spare_away (cells_alone row.hold.places row.hold.blocks.items) sound
    (going_row row second sound (ap (λ (b : Bool). b && plans.is_in_sync (cell_at (hold_of row.hold).cells second.position).standing) c.if-second.false)) (sym c.is_sent.ensures ∙ c.if-is_sent.false))
