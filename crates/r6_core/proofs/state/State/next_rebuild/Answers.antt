use Rattle.std.proofs.Common.{◌≡◌, ℕ, inl, inr, sym, ap, subst, ◌∙◌, arith}
use Rattle.std.proofs.lemmas.Bool.{cases_lt}
use Rattle.r6_layout.specs.Shape.{Shape}
use Rattle.r6_frames.specs.declared.slots.Device.{Device}
use Rattle.r6_frames.specs.Slots.{IsRebuiltOn, rows_of}
use Rattle.r6_core.specs.Shards.{core_with}
use Rattle.r6_core.specs.Rebuilds.{MayRebuild}
use Rattle.r6_core.proofs.Rebuilding.{built_in, next_is, none_may, other_none}
use Rattle.r6_core.proofs.state.State.next_rebuild.Goals.{in-Some+in_default-first_unheld, in_default}
use Rattle.r6_core.proofs.state.State.next_rebuild.Goals as goal

pub first_unheld-requires-clause-rebuilt : goal.first_unheld-requires-clause-rebuilt
first_unheld-requires-clause-rebuilt c =
    built_in c.args.self.now c.loop-slot.slot c.in-Some.generation c.in-Some.rebuilt c.requires.sound
    (subst (λ (d : Device). IsRebuiltOn d c.in-Some.generation c.in-Some.rebuilt) c.device.ensures c.in-Some.ensures)

pub returns-in-Some-first_unheld : goal.returns-in-Some-first_unheld
returns-in-Some-first_unheld c =
    let s = c.args.self.now in
    let there = subst (λ (d : Device). IsRebuiltOn d c.in-Some.generation c.in-Some.rebuilt) c.device.ensures c.in-Some.ensures in
    let slots = ap (λ (shape : Shape). shape.slots) c.geometry.ensures in
    next_is s c.args.window c.loop-slot.slot c.in-Some.generation c.in-Some.rebuilt c.requires.sound c.requires.window there
    (built_in s c.loop-slot.slot c.in-Some.generation c.in-Some.rebuilt c.requires.sound there)
    (omega (arith, slots, c.slots-slot-end.ensures.value, c.loop-slot-test.true)) c.in-Some-first_unheld.row c.in-Some-first_unheld.ensures c.loop-slot.invariant

pub loop-slot-preserved : goal.loop-slot-preserved
loop-slot-preserved c = λ other another earlier below may.
    let s = c.args.self.now in
    elim (cases_lt other c.loop-slot.slot) [
      | inl before ↦ c.loop-slot.invariant other another earlier before may
      | inr last ↦
          let here : other ≡ c.loop-slot.slot = omega arith in
          let may_here = subst (λ (n : ℕ). MayRebuild (core_with c.args.window s) c.args.window n another earlier) here may in
          elim c.match-new_in.branch [
            | in-Some+in_default-first_unheld w ↦
                let there = subst (λ (d : Device). IsRebuiltOn d w.in-Some.generation w.in-Some.rebuilt) c.device.ensures w.in-Some.ensures in
                none_may s c.args.window c.loop-slot.slot w.in-Some.generation w.in-Some.rebuilt c.requires.sound c.requires.window there
                (built_in s c.loop-slot.slot w.in-Some.generation w.in-Some.rebuilt c.requires.sound there) w.in_default-first_unheld.ensures another earlier may_here
            | in_default w ↦ other_none s c.args.window c.loop-slot.slot (ap rows_of (sym c.device.ensures) ∙ w.in_default.ensures) another earlier may_here
          ]
    ]

pub returns : goal.returns
returns c = λ slot another row may.
    let slots = ap (λ (shape : Shape). shape.slots) c.geometry.ensures in
    c.loop-slot.invariant slot another row (omega (arith, slots, c.slots-slot-end.ensures.value, c.loop-slot-test.false, may.there)) may
