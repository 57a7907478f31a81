use Rattle.std.proofs.Common.{◌≡◌, ◌+◌, ◌<◌, ◌≤◌, Bool, true, false, not, refl, sym, ap, subst, ◌∙◌, arith}
use Rattle.std.proofs.lemmas.Bool.{not-false}
use Rattle.r6_layout.specs.Shape.{Shape}
use Rattle.r6_health.specs.Slots.{is_replacing}
use Rattle.r6_world.specs.Changes.{differs}
use Rattle.r6_world.specs.Registers.{status_of}
use Rattle.r6_frames.specs.Slots.{slot_in, state_of, states_of}
use Rattle.r6_core.proofs.Comparing.{HasOther, HasReplaced, differs_if, next_other, next_plain, next_replaced, next_same, one_at_most, two_replaced}
use Rattle.r6_core.proofs.state.State.compare.Goals as goal
use Rattle.r6_core.proofs.state.State.compare.Goals.{then-is_replacing+else-replaced, else-is_replacing, then-not-is_kept, else-not-is_kept}

not_true : (b : Bool) → not b ≡ true → b ≡ false
not_true true is = absurd (cc)
not_true false is = refl

pub loop-slot-init : goal.loop-slot-init
loop-slot-init c = (λ slot below. absurd (omega arith), λ slot below. absurd (omega arith))

-- mostly the slot is as the register has it, and has one device or none
pub loop-slot-preserved-then-is_plainly_kept : goal.loop-slot-preserved-then-is_plainly_kept
loop-slot-preserved-then-is_plainly_kept c =
    let s = c.args.self.now in
    let seen = c.args.snapshot.now in
    let slot = c.loop-slot.slot in
    let inv = c.loop-slot.invariant in
    let kept = c.if-is_plainly_kept.true in
    let here : differs (states_of s.frames.slots slot) (status_of seen slot) ≡ differs (state_of c.device-device.result.now) c.slot.result =
    ap (differs (states_of s.frames.slots slot)) (sym c.slot.ensures.value) ∙ ap (λ d. differs (state_of d) c.slot.result) (sym c.device-device.ensures) in (
      next_plain seen slot c.loop-slot.replaced (ap is_replacing (sym c.slot.ensures.value) ∙ c.is_plainly_kept.ensures.alone kept) inv.0,
      next_same s seen slot c.loop-slot.differs (here ∙ c.is_plainly_kept.ensures.kept kept) inv.1,
    )

pub loop-slot-preserved : goal.loop-slot-preserved
loop-slot-preserved c =
    let s = c.args.self.now in
    let seen = c.args.snapshot.now in
    let slot = c.loop-slot.slot in
    let inv = c.loop-slot.invariant in
    let is : (b : Bool) → c.is_replacing.result ≡ b → is_replacing (status_of seen slot) ≡ b = λ b e. ap is_replacing (sym c.slot-status.ensures.value) ∙ sym c.is_replacing.ensures ∙ e in
    let here : differs (states_of s.frames.slots slot) (status_of seen slot) ≡ differs (state_of c.device-device.result.now) c.slot-status.result =
    ap (differs (states_of s.frames.slots slot)) (sym c.slot-status.ensures.value) ∙ ap (λ d. differs (state_of d) c.slot-status.result) (sym c.device-device.ensures) in (
      elim c.if-is_replacing.branch [
        | then-is_replacing+else-replaced w ↦
            subst (HasReplaced seen (slot + 1)) (sym w.replaced-is)
            (next_replaced seen slot (is true w.if-is_replacing.true) (subst (HasReplaced seen slot) w.if-replaced.false inv.0))
        | else-is_replacing w ↦ subst (HasReplaced seen (slot + 1)) (sym w.replaced-is) (next_plain seen slot c.loop-slot.replaced (is false w.if-is_replacing.false) inv.0)
      ],
      elim c.if-not-is_kept.branch [
        | then-not-is_kept w ↦
            subst (HasOther s seen (slot + 1)) (sym w.differs-is)
            (next_other s seen slot (here ∙ not-false (differs (state_of c.device-device.result.now) c.slot-status.result) (sym c.is_kept.ensures ∙ w.if-not-is_kept.true)))
        | else-not-is_kept w ↦
            subst (HasOther s seen (slot + 1)) (sym w.differs-is)
            (next_same s seen slot c.loop-slot.differs (here ∙ not_true (differs (state_of c.device-device.result.now) c.slot-status.result) (sym c.is_kept.ensures ∙ w.if-not-is_kept.false)) inv.1)
      ],
    )

pub returns-then-replaced : goal.returns-then-replaced
returns-then-replaced c =
    let seen = c.args.snapshot.now in
    let slot = c.loop-slot.slot in
    let slots = c.args.self.now.frames.geometry.slots in
    let below : slot < slots = omega (arith, c.loop-slot-test.true, c.slots-slot-end.ensures.value, ap (λ (shape : Shape). shape.slots) c.geometry.ensures) in
    let replaced = ap is_replacing (sym c.slot-status.ensures.value) ∙ sym c.is_replacing.ensures ∙ c.if-is_replacing.true in
    two_replaced seen slot slots below replaced (subst (HasReplaced seen slot) c.if-replaced.true c.loop-slot.invariant.0)

pub returns : goal.returns
returns c =
    let s = c.args.self.now in
    let seen = c.args.snapshot.now in
    let count = c.loop-slot.slot in
    let shape = ap (λ (shape : Shape). shape.slots) c.geometry.ensures in
    let all : s.frames.geometry.slots ≤ count = omega (arith, c.loop-slot-test.false, c.slots-slot-end.ensures.value, shape) in
    let within : count ≤ s.frames.geometry.slots = omega (arith, c.loop-slot.auto.slot-end, c.slots-slot-end.ensures.value, shape) in (
      one_at_most seen count s.frames.geometry.slots c.loop-slot.replaced all c.loop-slot.invariant.0,
      differs_if s seen count c.loop-slot.differs within all c.loop-slot.invariant.1,
    )
