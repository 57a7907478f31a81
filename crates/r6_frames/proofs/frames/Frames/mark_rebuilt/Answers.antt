use Rattle.std.proofs.Common.{◌≡◌, ◌<◌, ◌≤◌, ◌+◌, ℕ, Bool, List, true, false, length, set, inl, inr, refl, sym, subst, ◌∙◌, arith}
use Rattle.std.proofs.lemmas.Bool.{false≢true, le-leb, lt-leb}
use Rattle.r6_layout.specs.Layout.{first_row}
use Rattle.r6_world.specs.Geometries.{layout_of}
use Rattle.r6_world.proofs.Geometries.{layouts}
use Rattle.std.specs.Prelude.{nat_le}
use Rattle.r6_frames.specs.Inside.{view_of}
use Rattle.r6_frames.specs.Calls.{BringsIn, Marks}
use Rattle.r6_frames.specs.FramesState.{FramesState}
use Rattle.r6_frames.specs.Slots.{IsRebuiltOn, slot_in}
use Rattle.r6_frames.specs.Views.{AreLive}
use Rattle.r6_frames.specs.declared.rebuilt.Target.{Target}
use Rattle.r6_frames.specs.declared.slots.Slot.{Slot}
use Rattle.r6_frames.specs.declared.rebuilt.RebuiltRows.{RebuiltRows}
use Rattle.r6_frames.specs.declared.slots.Device.{Device}
use Rattle.r6_frames.specs.Rebuilt.{IsNext}
use Rattle.r6_frames.specs.Sound.{IsSound}
use Rattle.r6_frames.proofs.Marks.{HasMarked, IsChosen, chosen_brings, chosen_live, chosen_marks, chosen_sound, rows_lawful, rows_on, same_rows}
use Rattle.r6_frames.proofs.frames.Frames.mark_rebuilt.Goals.{then-is_last, else-is_last}
use Rattle.r6_frames.proofs.frames.Frames.mark_rebuilt.Goals as goal

-- the rows of the slot's new device
is_on : (c : goal.After-self-1) → IsRebuiltOn (slot_in c.self.inside.slots c.args.target.slot).device c.args.target.generation c.in-Some.rebuilt
is_on c =
    let next = rw (← c.self.view_is) at c.requires.next in
    rows_on (slot_in c.self.inside.slots c.args.target.slot).device c.args.target.generation next.rebuilt c.in-Some.rebuilt next.device (sym c.rows.ensures ∙ c.in-Some.is)

pub mark-requires-clause-next : goal.mark-requires-clause-next
mark-requires-clause-next c =
    let next = rw (← c.self.view_is) at c.requires.next in
    let d = (slot_in c.self.inside.slots c.args.target.slot).device in
    let on = rows_on d c.args.target.generation next.rebuilt c.in-Some.rebuilt next.device (sym c.rows.ensures ∙ c.in-Some.is) in
    subst (λ (r : RebuiltRows). IsNext r c.args.row) (same_rows d c.args.target.generation next.rebuilt c.in-Some.rebuilt next.device on) next.next

pub mark-requires-clause-rows : goal.mark-requires-clause-rows
mark-requires-clause-rows c =
    let fs = view_of c.self.inside in
    let next = rw (← c.self.view_is) at c.requires.next in
    let d = (slot_in c.self.inside.slots c.args.target.slot).device in
    let on = rows_on d c.args.target.generation next.rebuilt c.in-Some.rebuilt next.device (sym c.rows.ensures ∙ c.in-Some.is) in
    let lawful = rows_lawful (layout_of fs.geometry) fs.shard d c.args.target.generation c.in-Some.rebuilt on (c.self.invariant.0.devices.each c.args.target.slot) in
    let shared = (layouts fs.geometry c.self.invariant.0.shape).shared c.args.row (rw (← c.self.view_is) at c.requires.row).0 in
    let inside : c.args.row < first_row fs.geometry (fs.shard + 1) = subst (λ (n : ℕ). c.args.row < first_row fs.geometry (n + 1)) (rw (← c.self.view_is) at c.requires.row).1 shared.2 in
    let most = c.shard_rows-end.ensures.within in
    let end = c.shard_rows-end.ensures.end in
    (first_row fs.geometry (fs.shard + 1), lawful.next, inside, omega (arith, most, end, c.self.invariant.0.shape))

-- the slot with the device that it has then
abbrev slots_then : FramesState → (slot : ℕ) → Device → List Slot
slots_then fs slot device = set fs.slots slot (record (slot_in fs.slots slot) { device = device })

record IsDone (old : FramesState) (target : Target) (row : ℕ) (is_last : Bool) (new : FramesState) : Type 0 where
  sound : IsSound new
  live : AreLive new
  marks : is_last ≡ false → Marks old target row new
  brings : is_last ≡ true → BringsIn old target row new

done : (c : goal.After-self-1) → IsDone (view_of c.self.inside) c.args.target c.args.row (nat_le c.shard_rows-end.result.end c.next_row.result) (record (view_of c.self.inside) { slots = slots_then (view_of c.self.inside) c.args.target.slot c.if-is_last.self })
done c =
    let fs = view_of c.self.inside in
    let live = rw (← c.self.view_is) at c.requires.live in
    let slot = rw (← c.self.view_is) at c.requires.slot in
    let unheld = rw (← c.self.view_is) at c.requires.unheld in
    let row = rw (← c.self.view_is) at c.requires.row in
    let most = c.self.invariant.0.shape.slots_allowed.1 in
    let wide : fs.geometry.slots ≤ length fs.slots = omega arith in
    let within : c.args.target.slot < length fs.slots = omega (arith, slot, wide) in
    let marked = c.mark.ensures in
    let has : HasMarked c.in-Some.rebuilt c.args.row c.mark.new.self = record { start = marked.start; built = marked.built; rows = marked.rows; others = marked.others } in
    let end = c.shard_rows-end.ensures.end in
    let first = c.next_row.ensures in
    let chosen : IsChosen fs c.args.target c.in-Some.rebuilt c.args.row c.mark.new.self c.if-is_last.self c.self.invariant.0 live slot within unheld row (is_on c) has =
    elim c.if-is_last.branch [
      | then-is_last w ↦ inl (w.self-is ∙ w.brought_in.ensures, let last = w.if-is_last.true in omega (arith, last, end, first))
      | else-is_last w ↦ inr (w.self-is ∙ w.with_rows.ensures, let left = w.if-is_last.false in omega (arith, left, end, first))
    ] in
    record {
      sound = chosen_sound fs c.args.target c.in-Some.rebuilt c.args.row c.mark.new.self c.if-is_last.self c.self.invariant.0 live slot within unheld row (is_on c) has chosen;
      live = chosen_live fs c.args.target c.in-Some.rebuilt c.args.row c.mark.new.self c.if-is_last.self c.self.invariant.0 live slot within unheld row (is_on c) has chosen;
      marks = λ not_last. elim c.if-is_last.branch [
        | then-is_last w ↦ absurd (false≢true (sym not_last ∙ le-leb c.shard_rows-end.result.end c.next_row.result w.if-is_last.true))
        | else-is_last w ↦ chosen_marks fs c.args.target c.in-Some.rebuilt c.args.row c.mark.new.self c.if-is_last.self c.self.invariant.0 live slot within unheld row (is_on c) has chosen (w.self-is ∙ w.with_rows.ensures)
      ];
      brings = λ is_last. elim c.if-is_last.branch [
        | then-is_last w ↦ chosen_brings fs c.args.target c.in-Some.rebuilt c.args.row c.mark.new.self c.if-is_last.self c.self.invariant.0 live slot within unheld row (is_on c) has chosen (w.self-is ∙ w.brought_in.ensures) (let last = w.if-is_last.true in omega (arith, last, end, first))
        | else-is_last w ↦ absurd (false≢true (sym (lt-leb c.shard_rows-end.result.end c.next_row.result w.if-is_last.false) ∙ is_last))
      ];
    }

pub invariant_of-self : goal.invariant_of-self
invariant_of-self c = ((done c).sound, c.self.invariant.1)

pub returns-clause-sound : goal.returns-clause-sound
returns-clause-sound c = (done c).sound

pub returns-clause-live : goal.returns-clause-live
returns-clause-live c = (done c).live

pub returns-clause-marks : goal.returns-clause-marks
returns-clause-marks c = rw (← c.self.view_is) (done c).marks

pub returns-clause-brings : goal.returns-clause-brings
returns-clause-brings c = rw (← c.self.view_is) (done c).brings

pub returns-clause-holds : goal.returns-clause-holds
returns-clause-holds c = rw (← c.self.view_is) refl

pub returns-clause-commands : goal.returns-clause-commands
returns-clause-commands c = rw (← c.self.view_is) refl
