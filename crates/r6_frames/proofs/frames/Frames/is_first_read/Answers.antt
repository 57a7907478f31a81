use Rattle.std.proofs.Common.{◌≡◌, ◌+◌, ◌%◌, ◌<◌, ℕ, sym, ap, ◌∙◌, arith}
use Rattle.std.proofs.lemmas.Bool.{false≢true}
use Rattle.r6_stripe.specs.Holds.{cell_at}
use Rattle.r6_stripe.specs.Places.{is_read_out}
use Rattle.r6_world.specs.ShardStates.{frames}
use Rattle.r6_frames.specs.FramesState.{FramesState}
use Rattle.r6_frames.proofs.Held.{held_within}
use Rattle.r6_frames.proofs.Completions.{out_of, out_held, place_left}
use Rattle.r6_frames.proofs.Failing.{first_is, is_asked_out, is_first, read_out}
use Rattle.r6_frames.proofs.SlotsInTurn.{slot_below, some_slots}
use Rattle.r6_frames.proofs.frames.Frames.is_first_read.Goals as goal

pub held_row-held-requires : goal.held_row-held-requires
held_row-held-requires c =
    let command = c.command-command.ensures in
    let out = out_of c.args.self.now c.args.token c.command-command.result.now command.sound c.requires.awaited c.requires.wanted c.requires.hold command.command in
    (out.0, out.1.held)

pub left_of-position-requires-clause-steps : goal.left_of-position-requires-clause-steps
left_of-position-requires-clause-steps c =
    let fs = c.args.self.now in
    let below = slot_below fs.geometry (some_slots c.command-command.ensures.sound.shape) c.held_row-held.result.now.row 0 in
    let out = out_held c.args.self.now c.args.token c.command-command.result.now c.held_row-held.result.now c.command-command.ensures.sound c.requires.awaited c.requires.wanted c.requires.hold c.command-command.ensures.command c.held_row-held.ensures in
    let first = out.whole.first in
    let slots = ap (λ (fs : FramesState). fs.geometry.slots) c.self.view_is in
    omega (arith, below, first, slots, c.slots.ensures.value)

pub is_first_read-requires : goal.is_first_read-requires
is_first_read-requires c =
    let out = out_held c.args.self.now c.args.token c.command-command.result.now c.held_row-held.result.now c.command-command.ensures.sound c.requires.awaited c.requires.wanted c.requires.hold c.command-command.ensures.command c.held_row-held.ensures in
    let slots = ap (λ (fs : FramesState). fs.geometry.slots) c.self.view_is in
    omega (arith, c.left_of-position.ensures.within, slots, c.slots.ensures.value, out.whole.wide)

pub returns-then-is_read : goal.returns-then-is_read
returns-then-is_read c =
    let fs = c.args.self.now in
    let command = c.command-command.result.now in
    let h = c.held_row-held.result.now in
    let is = out_held c.args.self.now c.args.token c.command-command.result.now c.held_row-held.result.now c.command-command.ensures.sound c.requires.awaited c.requires.wanted c.requires.hold c.command-command.ensures.command c.held_row-held.ensures in
    let slots : c.slots.result ≡ fs.geometry.slots = c.slots.ensures.value ∙ ap (λ (fs : FramesState). fs.geometry.slots) c.self.view_is in
    let sound = c.command-command.ensures.sound in
    let place = place_left fs c.args.token command h c.left_of-position.result sound.shape is (omega (arith, c.left_of-position.ensures.within, slots))
    (ap (λ n. (c.left_of-position.result + h.first_slot) % n) (sym slots) ∙ c.left_of-position.ensures.right) in
    let inside : command.frame < frames = omega (arith, held_within fs.uses command.frame h is.held, sound.frames.count) in
    let reads = sym c.is_read.ensures ∙ c.if-is_read.true in
    let says = c.is_first_read.ensures ∙ ap (λ (p : ℕ). is_read_out (cell_at h.hold.planned.hold.cells p)) place in (
      λ yes. is_first fs c.args.token command h is inside reads (is_asked_out fs c.args.token command h is inside (sym says ∙ yes)),
      λ first. says ∙ read_out fs c.args.token command h is inside reads (first_is fs c.args.token command h is inside first).1,
    )

pub returns-else-is_read : goal.returns-else-is_read
returns-else-is_read c =
    let fs = c.args.self.now in
    let command = c.command-command.result.now in
    let h = c.held_row-held.result.now in
    let is = out_held c.args.self.now c.args.token c.command-command.result.now c.held_row-held.result.now c.command-command.ensures.sound c.requires.awaited c.requires.wanted c.requires.hold c.command-command.ensures.command c.held_row-held.ensures in
    let sound = c.command-command.ensures.sound in
    let inside : command.frame < frames = omega (arith, held_within fs.uses command.frame h is.held, sound.frames.count) in
    let reads = sym c.is_read.ensures ∙ c.if-is_read.false in (
      λ yes. absurd (false≢true (sym c.if-is_read.false ∙ yes)),
      λ first. absurd (false≢true (sym reads ∙ (first_is fs c.args.token command h is inside first).0)),
    )
