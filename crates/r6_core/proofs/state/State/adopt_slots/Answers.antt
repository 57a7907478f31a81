use Rattle.std.proofs.Common.{◌≡◌, ◌+◌, ◌<◌, ◌≤◌, Bool, true, false, sym, ap, ◌∙◌, subst, arith}
use Rattle.r6_layout.specs.Shape.{Shape}
use Rattle.r6_health.specs.Slots.{is_replacing}
use Rattle.r6_world.specs.Registers.{status_of}
use Rattle.r6_core.specs.declared.state.State.{State}
use Rattle.r6_core.specs.Parts.{AdoptsIf}
use Rattle.r6_core.proofs.Adopting.{IsAdopting, IsLooked, IsReplacedIn, IsUnreplaced, adopting_next, adopting_none, adopting_same, adopts_all, more_unreplaced, next_looked, next_unreplaced, one_replaced, others_single, same_unreplaced, still_replaced}
use Rattle.r6_core.proofs.state.State.adopt_slots.Goals as goal
use Rattle.r6_core.proofs.state.State.adopt_slots.Goals.{then-is_replacing, else-is_replacing}

pub loop-slot-init : goal.loop-slot-init
loop-slot-init c = (adopting_none c.args.self.now c.args.snapshot.now (IsUnreplaced c.args.snapshot.now 0) c.requires.sound (λ slot done. absurd (let below = done.0 in omega arith)), λ slot below. absurd (omega arith))

pub loop-slot-preserved : goal.loop-slot-preserved
loop-slot-preserved c =
    let s = c.args.self.now in
    let mid = c.loop-slot.self in
    let seen = c.args.snapshot.now in
    let slot = c.loop-slot.slot in
    let inv = c.loop-slot.invariant in
    let below : slot < s.frames.geometry.slots = omega (arith, c.loop-slot-test.true, c.slots-slot-end.ensures.value, ap (λ (shape : Shape). shape.slots) c.geometry.ensures) in
    let is : (b : Bool) → c.is_replacing.result ≡ b → is_replacing (status_of seen slot) ≡ b = λ b e. ap is_replacing (sym c.slot-status.ensures.value) ∙ sym c.is_replacing.ensures ∙ e in
    elim c.if-is_replacing.branch [
      | then-is_replacing w ↦
          let replaced = is true w.if-is_replacing.true in (
            subst (λ (x : State). IsAdopting s x seen (IsUnreplaced seen (slot + 1))) (sym w.self-is)
                (adopting_same s mid seen (IsUnreplaced seen slot) (IsUnreplaced seen (slot + 1)) inv.0 (same_unreplaced seen slot replaced) (more_unreplaced seen slot)),
            subst (IsReplacedIn seen (slot + 1)) (sym w.replaced-is) (omega arith, replaced),
          )
      | else-is_replacing w ↦
          let plain = is false w.if-is_replacing.false in
          let other = w.adopt_slot.ensures.0 in
          let one = subst (λ status. AdoptsIf other mid slot status w.adopt_slot.new.self) c.slot-status.ensures.value w.adopt_slot.ensures.1 in (
            subst (λ (x : State). IsAdopting s x seen (IsUnreplaced seen (slot + 1))) (sym w.self-is)
                (adopting_next s mid w.adopt_slot.new.self seen (IsUnreplaced seen slot) (IsUnreplaced seen (slot + 1)) slot inv.0 (next_unreplaced seen slot plain) below other one),
            subst (IsReplacedIn seen (slot + 1)) (sym w.replaced-is) (still_replaced seen slot c.loop-slot.replaced plain inv.1),
          )
    ]

-- ---- the slot that is replaced

pub adopt_slot-requires-in-Some-clause-one : goal.adopt_slot-requires-in-Some-clause-one
adopt_slot-requires-in-Some-clause-one c = λ is.
    let inv = c.loop-slot.invariant in
    let there = subst (IsReplacedIn c.args.snapshot.now c.loop-slot.slot) c.in-Some.is inv.1 in
    let shape = ap (λ (shape : Shape). shape.slots) c.geometry.ensures in
    let below : c.in-Some.slot < c.args.self.now.frames.geometry.slots = omega (arith, there.0, c.slots-slot-end.ensures.value, shape, c.loop-slot.auto.slot-end) in
    let all : c.loop-slot.self.frames.geometry.slots ≤ c.loop-slot.slot =
    omega (arith, c.loop-slot-test.false, c.slots-slot-end.ensures.value, ap (λ (shape : Shape). shape.slots) c.geometry.ensures, ap (λ (shape : Shape). shape.slots) inv.0.same.0) in
    others_single c.args.self.now c.loop-slot.self c.args.snapshot.now c.loop-slot.slot c.in-Some.slot c.requires.one below inv.0 all (ap is_replacing (sym c.slot.ensures.value) ∙ is)

pub returns-in-Some : goal.returns-in-Some
returns-in-Some c =
    let s = c.args.self.now in
    let mid = c.loop-slot.self in
    let seen = c.args.snapshot.now in
    let inv = c.loop-slot.invariant in
    let at = c.in-Some.slot in
    let new = c.adopt_slot-in-Some.new.self in
    let there = subst (IsReplacedIn seen c.loop-slot.slot) c.in-Some.is inv.1 in
    let shape = ap (λ (shape : Shape). shape.slots) c.geometry.ensures in
    let all : s.frames.geometry.slots ≤ c.loop-slot.slot = omega (arith, c.loop-slot-test.false, c.slots-slot-end.ensures.value, shape) in
    let below : at < s.frames.geometry.slots = omega (arith, there.0, c.slots-slot-end.ensures.value, shape, c.loop-slot.auto.slot-end) in
    let other = c.adopt_slot-in-Some.ensures.0 in
    let one = subst (λ status. AdoptsIf other mid at status new) c.slot.ensures.value c.adopt_slot-in-Some.ensures.1 in
    adopts_all s new seen (IsLooked seen c.loop-slot.slot at)
    (adopting_next s mid new seen (IsUnreplaced seen c.loop-slot.slot) (IsLooked seen c.loop-slot.slot at) at inv.0 (next_looked seen c.loop-slot.slot at there.1) below other one)
    (one_replaced s seen c.loop-slot.slot at all c.requires.one below there.1)
