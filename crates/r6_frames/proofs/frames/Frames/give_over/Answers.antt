use Rattle.std.proofs.Common.{◌≡◌, ◌+◌, ◌<◌, ℕ, suc, List, ◌++◌, length, true, ap, subst, ◌∙◌, sym, arith}
use Rattle.r6_layout.specs.Layout.{slot_at}
use Rattle.r6_layout.specs.Shape.{Shape}
use Rattle.r6_stripe.specs.Holds.{cell_at}
use Rattle.r6_stripe.specs.Plans.{is_in_error}
use Rattle.r6_world.specs.ShardStates.{devices_of}
use Rattle.r6_frames.specs.FramesState.{FramesState}
use Rattle.r6_frames.specs.Slots.{states_of}
use Rattle.r6_frames.specs.Sound.{IsHeld, IsSound}
use Rattle.r6_frames.proofs.GivenOver.{IsGivingOver, giving_past, giving_one, given_stopped, gives, losses_at}
use Rattle.r6_frames.proofs.frames.Frames.give_over.Goals.{then-contains, else-contains}
use Rattle.r6_frames.proofs.frames.Frames.give_over.Goals as goal

pub slot_at-slot-requires-clause-row_within : goal.slot_at-slot-requires-clause-row_within
slot_at-slot-requires-clause-row_within c =
    let h = c.requires.loses.0 in
    let is = c.requires.loses.1 in
    let sound = subst IsSound c.self.view_is c.self.invariant.0 in
    let own = (sound.frames.rows c.args.frame h is).own.0 in
    let row = (c.unreadable-row.ensures h is).0 in
    let over = c.loop-position.invariant h is in
    let shape = ap (λ (fs : FramesState). fs.geometry.rows) c.self-then-contains.view_is ∙ ap (λ (g : Shape). g.rows) over.same.0 in
    omega (arith, own, row, shape)

pub lose_slot-requires-clause-room : goal.lose_slot-requires-clause-room
lose_slot-requires-clause-room c =
    let h = c.requires.loses.0 in
    let is = c.requires.loses.1 in
    let sound = subst IsSound c.self.view_is c.self.invariant.0 in
    let over = c.loop-position.invariant h is in
    let slots = ap (λ (fs : FramesState). fs.geometry.slots) c.self.view_is in
    omega (arith, over.few, over.inside, c.loop-position-test.true, c.slots-position-end.ensures.value, (sound.frames.rows c.args.frame h is).wide, slots, sound.shape.slots_allowed.1)

pub loop-position-preserved : goal.loop-position-preserved
loop-position-preserved c h is =
    let old = c.args.self.now in
    let sound = subst IsSound c.self.view_is c.self.invariant.0 in
    let held : IsHeld old.geometry old.shard old.slots h = sound.frames.rows c.args.frame h is in
    let over = c.loop-position.invariant h is in
    let at = c.loop-position.position in
    let slots = ap (λ (fs : FramesState). fs.geometry.slots) c.self.view_is in
    let below : at < length h.hold.planned.hold.cells = omega (arith, c.loop-position-test.true, c.slots-position-end.ensures.value, held.wide, slots) in
    let unreadable = (c.unreadable-row.ensures h is).1 at in
    let one_more : suc at ≡ at + 1 = omega arith in
    subst (λ (n : ℕ). IsGivingOver old h n c.if-contains.losses.items c.if-contains.self) one_more
    (elim c.if-contains.branch [
      | then-contains w ↦
          let error : is_in_error (cell_at h.hold.planned.hold.cells at) ≡ true = sym unreadable ∙ sym c.contains.ensures ∙ w.if-contains.true in
          let shape = ap (λ (fs : FramesState). fs.geometry) w.self-then-contains.view_is ∙ over.same.0 in
          let slot_is : w.slot_at-slot.result ≡ slot_at old.geometry h.row at = w.slot_at-slot.ensures.value ∙ (λ i. slot_at (shape i) ((c.unreadable-row.ensures h is).0 i) at) in
          let e = w.lose_slot.ensures in
          let given = giving_one old h at c.loop-position.losses.items c.loop-position.self over below w.slot_at-slot.result w.lose_slot.new.self error slot_is e.loses sound.shape held e.sound e.rows e.owed e.readers e.requests in
          let items = ap (λ losses. losses.items) w.losses-is ∙ e.losses in
          subst (λ (losses : List (ℕ × ℕ)). IsGivingOver old h (suc at) losses c.if-contains.self) (sym items)
          (subst (IsGivingOver old h (suc at) (c.loop-position.losses.items ++ losses_at w.slot_at-slot.result (devices_of (states_of c.loop-position.self.slots w.slot_at-slot.result)))) (sym w.self-is) given)
      | else-contains w ↦
          let given = giving_past old h at c.loop-position.losses.items c.loop-position.self over below (sym unreadable ∙ sym c.contains.ensures ∙ w.if-contains.false) in
          subst (λ losses. IsGivingOver old h (suc at) losses.items c.if-contains.self) (sym w.losses-is) (subst (IsGivingOver old h (suc at) c.loop-position.losses.items) (sym w.self-is) given)
    ])

pub returns-clause-gives : goal.returns-clause-gives
returns-clause-gives c =
    let h = c.requires.loses.0 in
    let is = c.requires.loses.1 in
    let sound = subst IsSound c.self.view_is c.self.invariant.0 in
    let slots = ap (λ (fs : FramesState). fs.geometry.slots) c.self.view_is in
    let over = c.loop-position.invariant h is in
    let all : c.loop-position.position ≡ length h.hold.planned.hold.cells = omega (arith, over.inside, c.loop-position-test.false, c.slots-position-end.ensures.value, (sound.frames.rows c.args.frame h is).wide, slots) in
    gives c.args.self.now c.args.frame h c.loop-position.losses.items c.loop-position.self sound c.requires.live is c.requires.loses.2
    (subst (λ (at : ℕ). IsGivingOver c.args.self.now h at c.loop-position.losses.items c.loop-position.self) all over)

pub returns-clause-stopped : goal.returns-clause-stopped
returns-clause-stopped c =
    let h = c.requires.loses.0 in
    let is = c.requires.loses.1 in
    let sound = subst IsSound c.self.view_is c.self.invariant.0 in
    let slots = ap (λ (fs : FramesState). fs.geometry.slots) c.self.view_is in
    let over = c.loop-position.invariant h is in
    let all : c.loop-position.position ≡ length h.hold.planned.hold.cells = omega (arith, over.inside, c.loop-position-test.false, c.slots-position-end.ensures.value, (sound.frames.rows c.args.frame h is).wide, slots) in
    given_stopped c.args.self.now c.args.frame h c.loop-position.losses.items c.loop-position.self sound c.requires.live is c.requires.loses.2
    (subst (λ (at : ℕ). IsGivingOver c.args.self.now h at c.loop-position.losses.items c.loop-position.self) all over)
