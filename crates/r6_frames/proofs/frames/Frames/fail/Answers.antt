use Rattle.std.proofs.Common.{ℕ, ◌+◌, ◌%◌, ◌<◌, refl, arith, set, sym, ap, ◌∙◌}
use Rattle.r6_stripe.specs.Holds.{cell_at}
use Rattle.r6_stripe.specs.Places.{is_read_out}
use Rattle.r6_stripe.specs.Steps.{is_away}
use Rattle.r6_world.specs.ShardStates.{frames}
use Rattle.r6_frames.specs.Inside.{view_of, commands_in}
use Rattle.r6_frames.specs.declared.frames.FrameUse.TheVariants.{Held}
use Rattle.r6_frames.proofs.Held.{held_within}
use Rattle.r6_frames.proofs.Completions.{out_of, out_there, out_row, place_left}
use Rattle.r6_frames.proofs.Failing.{Failed, failed, first_is, read_out, read_own}
use Rattle.r6_frames.proofs.SlotsInTurn.{slot_below, some_slots}
use Rattle.r6_frames.proofs.MarkedFrames.{marked_held}
use Rattle.r6_frames.proofs.frames.Frames.fail.Goals as goal

pub index_mut-requires : goal.index_mut-requires
index_mut-requires c =
    let fs = view_of c.self.inside in
    let command = c.remove-command.result in
    let out = out_of fs c.args.token command c.self.invariant.0 (rw (← c.self.view_is) at c.requires.awaited) (rw (← c.self.view_is) at c.requires.wanted) (rw (← c.self.view_is) at c.requires.hold) c.remove-command.ensures.entry in
    omega (arith, held_within fs.uses command.frame out.0 out.1.held)

pub unreachable-requires : goal.unreachable-requires
unreachable-requires c =
    let out = out_there (view_of c.self.inside) c.args.token c.remove-command.result c.index_mut.result.now c.self.invariant.0 (rw (← c.self.view_is) at c.requires.awaited) (rw (← c.self.view_is) at c.requires.wanted) (rw (← c.self.view_is) at c.requires.hold) c.remove-command.ensures.entry c.index_mut.ensures.value in
    c.in_default.not-Held out.0 out.1

pub left_of-position-requires-clause-few : goal.left_of-position-requires-clause-few
left_of-position-requires-clause-few c = let most = c.self.invariant.0.shape.slots_allowed.1 in omega arith

pub left_of-position-requires-clause-slot : goal.left_of-position-requires-clause-slot
left_of-position-requires-clause-slot c =
    let below = (c.self.invariant.0.commands.lawful c.args.token c.remove-command.result c.remove-command.ensures.entry).0 in
    omega (arith, below)

pub left_of-position-requires-clause-steps : goal.left_of-position-requires-clause-steps
left_of-position-requires-clause-steps c =
    let out = out_row (view_of c.self.inside) c.args.token c.remove-command.result c.in-Held.held c.index_mut.result.now c.self.invariant.0 (rw (← c.self.view_is) at c.requires.awaited) (rw (← c.self.view_is) at c.requires.wanted) (rw (← c.self.view_is) at c.requires.hold) c.remove-command.ensures.entry c.index_mut.ensures.value c.in-Held.is in
    let below = slot_below c.self.inside.geometry (some_slots c.self.invariant.0.shape) c.in-Held.held.row 0 in
    let first = out.whole.first in
    omega (arith, below, first)

pub failed-requires-clause-away : goal.failed-requires-clause-away
failed-requires-clause-away c =
    let fs = view_of c.self.inside in
    let command = c.remove-command.result in
    let h = c.in-Held.held in
    let out = out_row (view_of c.self.inside) c.args.token c.remove-command.result c.in-Held.held c.index_mut.result.now c.self.invariant.0 (rw (← c.self.view_is) at c.requires.awaited) (rw (← c.self.view_is) at c.requires.wanted) (rw (← c.self.view_is) at c.requires.hold) c.remove-command.ensures.entry c.index_mut.ensures.value c.in-Held.is in
    let place = place_left fs c.args.token command h c.left_of-position.result c.self.invariant.0.shape out (omega (arith, c.left_of-position.ensures.within, c.slots.ensures.value))
    (ap (λ n. (c.left_of-position.result + h.first_slot) % n) (sym c.slots.ensures.value) ∙ c.left_of-position.ensures.right) in
    let inside : command.frame < frames = omega (arith, held_within fs.uses command.frame h out.held, c.self.invariant.0.frames.count) in
    ap (is_away h.hold) place ∙ out.own_away (read_own fs c.args.token command h out inside (first_is fs c.args.token command h out inside (rw (← c.self.view_is) at c.requires.first)).0)

pub failed-requires-clause-size : goal.failed-requires-clause-size
failed-requires-clause-size c =
    let out = out_row (view_of c.self.inside) c.args.token c.remove-command.result c.in-Held.held c.index_mut.result.now c.self.invariant.0 (rw (← c.self.view_is) at c.requires.awaited) (rw (← c.self.view_is) at c.requires.wanted) (rw (← c.self.view_is) at c.requires.hold) c.remove-command.ensures.entry c.index_mut.ensures.value c.in-Held.is in
    (rw (← c.self.view_is) at c.requires.size) ∙ sym out.whole.size

pub failed-requires-clause-asked : goal.failed-requires-clause-asked
failed-requires-clause-asked c =
    let fs = view_of c.self.inside in
    let command = c.remove-command.result in
    let h = c.in-Held.held in
    let out = out_row fs c.args.token command h c.index_mut.result.now c.self.invariant.0 (rw (← c.self.view_is) at c.requires.awaited) (rw (← c.self.view_is) at c.requires.wanted) (rw (← c.self.view_is) at c.requires.hold) c.remove-command.ensures.entry c.index_mut.ensures.value c.in-Held.is in
    let place = place_left fs c.args.token command h c.left_of-position.result c.self.invariant.0.shape out (omega (arith, c.left_of-position.ensures.within, c.slots.ensures.value))
    (ap (λ n. (c.left_of-position.result + h.first_slot) % n) (sym c.slots.ensures.value) ∙ c.left_of-position.ensures.right) in
    let inside : command.frame < frames = omega (arith, held_within fs.uses command.frame h out.held, c.self.invariant.0.frames.count) in
    ap (λ (p : ℕ). is_read_out (cell_at h.hold.planned.hold.cells p)) place ∙ (let first = first_is fs c.args.token command h out inside (rw (← c.self.view_is) at c.requires.first) in read_out fs c.args.token command h out inside first.0 first.1)

-- ---- the hold has heard of it

done : (c : goal.Joined-command) → Failed (view_of c.self.inside) c.args.token c.remove-command.result.frame (record c.in-Held.held { hold = c.failed.new.self })
    (record (view_of c.self.inside) { uses = set c.self.inside.uses.items c.remove-command.result.frame (Held (record c.in-Held.held { hold = c.failed.new.self })); commands = commands_in c.remove-command.new.commands })
done c =
    let fs = view_of c.self.inside in
    let command = c.remove-command.result in
    let h = c.in-Held.held in
    let out = out_row fs c.args.token command h c.index_mut.result.now c.self.invariant.0 (rw (← c.self.view_is) at c.requires.awaited) (rw (← c.self.view_is) at c.requires.wanted) (rw (← c.self.view_is) at c.requires.hold) c.remove-command.ensures.entry c.index_mut.ensures.value c.in-Held.is in
    let place = place_left fs c.args.token command h c.left_of-position.result c.self.invariant.0.shape out (omega (arith, c.left_of-position.ensures.within, c.slots.ensures.value))
    (ap (λ n. (c.left_of-position.result + h.first_slot) % n) (sym c.slots.ensures.value) ∙ c.left_of-position.ensures.right) in
    failed fs c.args.token command h c.left_of-position.result c.failed.new.self (commands_in c.remove-command.new.commands) c.self.invariant.0 out
    (omega (arith, held_within fs.uses command.frame h out.held, c.self.invariant.0.frames.count)) (rw (← c.self.view_is) at c.requires.first) place c.failed.ensures
    (ap commands_in c.remove-command.ensures.rest)

pub returns-clause-sound : goal.returns-clause-sound
returns-clause-sound c = (done c).sound

pub invariant_of-self : goal.invariant_of-self
invariant_of-self c = (
  (done c).sound,
  let fs = view_of c.self.inside in
      let command = c.remove-command.result in
      let h = c.in-Held.held in
      let out = out_row fs c.args.token command h c.index_mut.result.now c.self.invariant.0 (rw (← c.self.view_is) at c.requires.awaited) (rw (← c.self.view_is) at c.requires.wanted) (rw (← c.self.view_is) at c.requires.hold) c.remove-command.ensures.entry c.index_mut.ensures.value c.in-Held.is in
      record { buffer_room = c.self.invariant.1.buffer_room; shapes = c.self.invariant.1.shapes; command_room = ap (λ t. t.0) c.remove-command.ensures.rest ∙ c.self.invariant.1.command_room; marked = marked_held c.self.inside.free_frames c.self.inside.holders fs.uses command.frame h (record h { hold = c.failed.new.self }) out.held refl c.self.invariant.1.marked },
)

pub returns-clause-live : goal.returns-clause-live
returns-clause-live c =
    (out_of (view_of c.self.inside) c.args.token c.remove-command.result c.self.invariant.0 (rw (← c.self.view_is) at c.requires.awaited) (rw (← c.self.view_is) at c.requires.wanted) (rw (← c.self.view_is) at c.requires.hold) c.remove-command.ensures.entry).1.live

pub returns-clause-fails : goal.returns-clause-fails
returns-clause-fails c =
    rw (← c.self.view_is) ((done c).fails)

pub returns-clause-held : goal.returns-clause-held
returns-clause-held c = (record c.in-Held.held { hold = c.failed.new.self }, (done c).held)

pub returns-clause-rows : goal.returns-clause-rows
returns-clause-rows c =
    rw (← c.self.view_is) ((done c).rows)

pub returns-clause-others : goal.returns-clause-others
returns-clause-others c =
    rw (← c.self.view_is) ((done c).others)

pub returns-clause-owed : goal.returns-clause-owed
returns-clause-owed c =
    rw (← c.self.view_is) (((done c).owed, ap (λ t. t.1.0) c.remove-command.ensures.rest))

pub returns-clause-requests : goal.returns-clause-requests
returns-clause-requests c =
    rw (← c.self.view_is) ((done c).requests)
