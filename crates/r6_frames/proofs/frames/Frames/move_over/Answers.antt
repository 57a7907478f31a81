use Rattle.std.proofs.Common.{◌≡◌, ◌<◌, ℕ, Some, sym, ap, subst, ◌∙◌}
use Rattle.r6_layout.specs.Layout.{slot_at}
use Rattle.r6_stripe.specs.Plans.{next}
use Rattle.r6_stripe.specs.Plans.Next.{MoveAt}
use Rattle.r6_frames.specs.declared.frames.HeldRow.{HeldRow}
use Rattle.r6_frames.specs.declared.slots.Device.{Device}
use Rattle.r6_frames.specs.Calls.{MovesOver, TakesOut}
use Rattle.r6_frames.specs.FramesState.{FramesState}
use Rattle.r6_frames.specs.Inside.{view_of}
use Rattle.r6_frames.specs.Owed.{MovesUnreadable, MovesUnreadableAt}
use Rattle.r6_frames.specs.Slots.{first_of, slot_in, without}
use Rattle.r6_frames.specs.Sound.{IsHeld, IsSound}
use Rattle.r6_frames.specs.Views.{hold_at}
use Rattle.r6_frames.proofs.MovedOver.{first_there, moved_over, moving_below}
use Rattle.r6_frames.proofs.frames.Frames.move_over.Goals.{After-take_out}
use Rattle.r6_frames.proofs.frames.Frames.move_over.Goals as goal

-- the position is the one that comes next in the row
moving : (fs : FramesState) (frame position : ℕ) (h : HeldRow) → hold_at fs.uses frame ≡ Some h → MovesUnreadableAt fs frame position → next h.hold.planned ≡ Some (MoveAt position)
moving fs frame position h is moves =
    let same : moves.0 ≡ h = let both = sym moves.1 ∙ is in cc in
    subst (λ (x : HeldRow). next x.hold.planned ≡ Some (MoveAt position)) same moves.2

pub slot_at-slot-requires-clause-row_within : goal.slot_at-slot-requires-clause-row_within
slot_at-slot-requires-clause-row_within c =
    let fs = view_of c.self.inside in
    let h = c.held_row.result.now in
    let held : IsHeld fs.geometry fs.shard fs.slots h = c.self.invariant.0.frames.rows c.args.frame h (rw (← c.self.view_is) at c.held_row.ensures) in
    held.own.0

pub slot_at-slot-requires-clause-position_within : goal.slot_at-slot-requires-clause-position_within
slot_at-slot-requires-clause-position_within c =
    let fs = view_of c.self.inside in
    let h = c.held_row.result.now in
    let is : hold_at fs.uses c.args.frame ≡ Some h = rw (← c.self.view_is) at c.held_row.ensures in
    moving_below fs h (c.self.invariant.0.frames.rows c.args.frame h is) c.in-Some.position (moving fs c.args.frame c.in-Some.position h is (rw (← c.self.view_is) at c.in-Some.ensures))

pub known_first-generation-requires : goal.known_first-generation-requires
known_first-generation-requires c =
    let fs = view_of c.self.inside in
    let h = c.held_row.result.now in
    let is : hold_at fs.uses c.args.frame ≡ Some h = rw (← c.self.view_is) at c.held_row.ensures in
    first_there fs h (c.self.invariant.0.frames.rows c.args.frame h is) c.in-Some.position (moving fs c.args.frame c.in-Some.position h is (rw (← c.self.view_is) at c.in-Some.ensures)) c.slot_at-slot.result c.slot_at-slot.ensures.value

-- what is left in the slot
left : (c : After-take_out) → c.without-device.result ≡ without (slot_in c.args.self.now.slots c.slot_at-slot.result).device c.known_first-generation.result
left c = c.without-device.ensures ∙ ap (λ (fs : FramesState). without (slot_in fs.slots c.slot_at-slot.result).device c.known_first-generation.result) c.self.view_is

moved : (c : After-take_out)
    → MovesOver c.args.self.now c.args.frame c.slot_at-slot.result c.known_first-generation.result c.take_out.new.self × ((other : ℕ) → MovesUnreadable c.take_out.new.self other → ⊥)
moved c =
    let h = c.held_row.result.now in
    let slot = c.slot_at-slot.result in
    let generation = c.known_first-generation.result in
    let new = c.take_out.new.self in
    moved_over c.args.self.now c.args.frame h (subst IsSound c.self.view_is c.self.invariant.0) c.held_row.ensures c.in-Some.position
    (moving c.args.self.now c.args.frame c.in-Some.position h c.held_row.ensures c.in-Some.ensures) slot generation
    (c.slot_at-slot.ensures.value ∙ ap (λ (fs : FramesState). slot_at fs.geometry h.row c.in-Some.position) c.self.view_is)
    (subst (λ (fs : FramesState). first_of (slot_in fs.slots slot).device ≡ Some generation) c.self.view_is c.known_first-generation.ensures)
    (subst (λ (fs : FramesState). slot < fs.geometry.slots) c.self.view_is c.slot_at-slot.ensures.within) new
    (subst (λ (d : Device). TakesOut c.args.self.now slot d new) (left c) c.take_out.ensures.takes)
    c.requires.live c.take_out.ensures.sound (c.take_out.ensures.device ∙ left c)

pub returns-clause-moves : goal.returns-clause-moves
returns-clause-moves c = (moved c).0

pub returns-clause-last : goal.returns-clause-last
returns-clause-last c = (moved c).1
