-- The plain array beside the settled one, when a slot has another state and the holds hear of it.
use Rattle.std.proofs.Common.{◌≡◌, ℕ, ◌<◌, ◌⊎◌, ◌+◌, arith, Bool, true, false, not, inl, inr, refl, sym, ap, ◌∙◌, subst, Option, Some, None, if◌then◌else◌}
use Rattle.std.proofs.lemmas.Bool.{cases_eq, false≢true}
use Rattle.r6_stripe.specs.Holds.{Cell, Event, Standing, cell_at, moved, after_event}
use Rattle.r6_stripe.specs.Holds.Event.{Loses, Moves, Drops}
use Rattle.r6_stripe.specs.Holds.Standing.{InSync, Out}
use Rattle.r6_stripe.specs.Holds.Doubling.{Passed}
use Rattle.r6_stripe.specs.Plans.{is_out}
use Rattle.r6_stripe.proofs.CellsAfter.{cell_after}
use Rattle.r6_world.specs.Changes.{heard, heard_of, hearing, told_hold, read_on}
use Rattle.r6_world.specs.Layouts.{Layout, IsLayout, IsRowOf, slot_of}
use Rattle.r6_layout.specs.PlainArray.{Block}
use Rattle.r6_world.specs.PlainArray.{Array, Read, Reply}
use Rattle.r6_world.specs.ShardStates.{SlotState, Request, Reading, Command, has_device, generation_in, second_in}
use Rattle.r6_world.specs.Tables.{put}
use Rattle.r6_world.specs.Tasks.{Hold, planned}
use Rattle.r6_world.proofs.Tables.{put-same, put-other}
use Rattle.r6_world.proofs.Cells.{cell-same, not-out-within}
use Rattle.r6_world.proofs.Uses.{device_on, stands_on, has-device-on, first-of-two}
use Rattle.r6_world.proofs.Acts.Requests.{request_at, told-task}
use Rattle.r6_world.proofs.Acts.ReadOns.{read-reading}
use Rattle.r6_world.proofs.Acts.Aheads.{Ahead, UncertainAt}
use Rattle.r6_world.proofs.Rows.Doubles.{Uncertain}
use Rattle.r6_world.proofs.Rows.Becoming.{Moved, Becomes}
use Rattle.r6_world.proofs.Rows.SeenRows.{Devices, Rows, same-slot, stands-in, in_sync_is_not_out}
use Rattle.r6_world.proofs.Rows.RowLosses.{told-was, told-of, not-single}

-- what a hold hears of a slot changes no other position
other-by : (h : Hold) (p at : ℕ) → (at ≡ p → ⊥) → (x d a b : Bool) → cell_at (hearing (planned h) (if x then None else heard_of d a b p)).hold.cells at ≡ cell_at h.course.cells at
other-by h p at ne true d a b = refl
other-by h p at ne false false true b = refl
other-by h p at ne false false false b = elim (cell_after h.course (Loses p) at) [ inl same ↦ same | inr y ↦ absurd (ne y.0) ]
other-by h p at ne false true true true = refl
other-by h p at ne false true true false = elim (cell_after h.course (Drops p) at) [ inl same ↦ same | inr y ↦ absurd (ne y.0) ]
other-by h p at ne false true false true = elim (cell_after h.course (Moves p) at) [ inl same ↦ same | inr y ↦ absurd (ne y.0) ]
other-by h p at ne false true false false = elim (cell_after h.course (Loses p) at) [ inl same ↦ same | inr y ↦ absurd (ne y.0) ]

told-other : (l : Layout) (slot : ℕ) (was now : SlotState) (h : Hold) (at : ℕ) → (at ≡ l.position h.row slot → ⊥) → cell_at (hearing (planned h) (heard l slot was now h)).hold.cells at ≡ cell_at h.course.cells at
told-other l slot was now h at ne =
    other-by h (l.position h.row slot) at ne (is_out (cell_at h.course.cells (l.position h.row slot)).standing) (not (is_out (cell_at h.course.cells (l.position h.row slot)).second)) (has_device now (generation_in was)) (has_device now (second_in was))

-- where the first device stays, nothing is passed on
keeps-by : (h : Hold) (p at : ℕ) (x d a b : Bool) → a ≡ true → (cell_at (hearing (planned h) (if x then None else heard_of d a b p)).hold.cells at).doubling ≡ (cell_at h.course.cells at).doubling
keeps-by h p at true d a b is = refl
keeps-by h p at false false true b is = refl
keeps-by h p at false true true true is = refl
keeps-by h p at false true true false is = elim (cell_after h.course (Drops p) at) [ inl same ↦ ap (λ (c : Cell). c.doubling) same | inr y ↦ ap (λ (c : Cell). c.doubling) y.1 ]
keeps-by h p at false d false b is = absurd (false≢true is)

told-keeps : (l : Layout) (slot : ℕ) (was now : SlotState) (h : Hold) (at : ℕ) → has_device now (generation_in was) ≡ true
    → (cell_at (hearing (planned h) (heard l slot was now h)).hold.cells at).doubling ≡ (cell_at h.course.cells at).doubling
told-keeps l slot was now h at first =
    keeps-by h (l.position h.row slot) at (is_out (cell_at h.course.cells (l.position h.row slot)).standing) (not (is_out (cell_at h.course.cells (l.position h.row slot)).second)) (has_device now (generation_in was)) (has_device now (second_in was)) first

module _ (l : Layout) (is : IsLayout l) (n : ℕ) where
  pub ahead-hears : (device : Devices) (gave : ℕ → Option Block) (live live' : Type 0) (frame : ℕ → Option Hold) (command command' : ℕ → Option Command) (request : ℕ → Option Request) (slots : ℕ → SlotState) (tokens : ℕ) (settled array : Array) (answers : ℕ → Option Reply)
      → Ahead l n device gave live frame request slots settled array answers → (live' → live) → (live → Rows l n device gave frame command slots tokens settled)
      → (slot : ℕ) (now : SlotState) → (live' → slot < l.slots) → (live' → Becomes (slots slot) now)
      → (live' → (id t block : ℕ) → read_on command' (request id) ≡ Some (request_at (Read block) (Reading t))
      → (slot_of l block < l.slots) × IsRowOf l n (l.row_of block) × (slot_of l block ≡ slot → has_device now (generation_in (slots slot)) ≡ true))
      → Ahead l n device gave live' (λ f. told_hold l slot (slots slot) now (frame f)) (λ id. read_on command' (request id)) (put slots slot now) settled array answers
  ahead-hears device gave live live' frame command command' request slots tokens settled array answers x back rows slot now inside becomes survives =
      record {
        blocks = λ lv side block within there sync. elim (cases_eq (slot_of l block) slot) [
          | inl same ↦ at-slot lv side block within there same (subst (λ y. stands_on side y (l.row_of block) ≡ InSync) (put-same slots slot now (slot_of l block) same) sync) (becomes lv)
          | inr ne ↦
              let same-state = put-other slots slot now (slot_of l block) ne in
              elim (x.blocks (back lv) side block within there (subst (λ y. stands_on side y (l.row_of block) ≡ InSync) same-state sync)) [
                | inl e ↦ inl (ap (λ y. device (slot_of l block) (device_on side y) (l.row_of block)) same-state ∙ e)
                | inr u ↦ inr (elsewhere lv side block within there ne u)
              ]
        ];
        direct = λ lv id t block e u.
            let s = survives lv id t block e in
            let p = told-was l is n slot (slots slot) now (frame u.0) u.1 u.2 in
            let row : p.0.row ≡ l.row_of block = ap (λ (y : Hold). y.row) p.2 ∙ u.3 in
            let at : ℕ = l.position (l.row_of block) (slot_of l block) in
            let doubling : (cell_at (hearing (planned p.0) (heard l slot (slots slot) now p.0)).hold.cells at).doubling ≡ Passed = ap (λ (y : Hold). (cell_at y.course.cells at).doubling) p.2 ∙ u.4 in
            x.direct (back lv) id t block (read-reading command' (request id) (Read block) t e).0 (
              u.0,
              p.0,
              p.1,
              row,
              elim (cases_eq (slot_of l block) slot) [
                | inl same ↦ sym (told-keeps l slot (slots slot) now p.0 at (s.2 same)) ∙ doubling
                | inr ne ↦
                    ap (λ (c : Cell). c.doubling) (sym (told-other l slot (slots slot) now p.0 at
                    (λ e'. ne (same-slot l is n (l.row_of block) (slot_of l block) slot s.1.0 s.0 (inside lv) (e' ∙ ap (λ r. l.position r slot) row))))) ∙ doubling
              ],
            );
        agrees = λ lv block there. elim (x.agrees (back lv) block there) [
          | inl same ↦ inl same
          | inr o ↦ inr (record {
            frame_of = o.frame_of;
            hold = _;
            writes = o.writes;
            write = o.write;
            here = ap (told_hold l slot (slots slot) now) o.here;
            task = o.task;
            acted = o.acted;
            row = o.row;
            among = o.among;
            is = o.is;
          })
        ];
        acted = λ lv f k writes v here task among done.
            let p = told-task l slot (slots slot) now (frame f) k here in
            x.acted (back lv) f p.0 writes v p.1 (p.3 ∙ task) among done;
        reading = λ id t op e. x.reading id t op (read-reading command' (request id) op t e).0;
      }
    where
      told : (f : ℕ) (h : Hold) → frame f ≡ Some h → (k : Hold) × (told_hold l slot (slots slot) now (frame f) ≡ Some k) × (k.row ≡ h.row) × (k.course ≡ (hearing (planned h) (heard l slot (slots slot) now h)).hold)
      told f h e = (_, ap (told_hold l slot (slots slot) now) e, refl, refl)

      elsewhere : live' → (side : Bool) (block : ℕ) → block < l.blocks → IsRowOf l n (l.row_of block) → (slot_of l block ≡ slot → ⊥) → UncertainAt l frame block side → UncertainAt l (λ f. told_hold l slot (slots slot) now (frame f)) block side
      elsewhere lv side block within there ne u =
          let k = told u.0 u.1 u.2 in
          let p = is.placed block within in
          let in-row : slot_of l block < l.slots = (is.back (l.row_of block) (l.index_of block) there.0 (index-below (l.index_of block) p.1 is.wide)).0 in (
            u.0,
            k.0,
            k.1,
            k.2 ∙ u.3,
            subst (λ (c : Rattle.r6_stripe.specs.Holds.Hold). Uncertain side (cell_at c.cells (l.position (l.row_of block) (slot_of l block))).doubling) (sym k.3)
                (subst (λ (c : Cell). Uncertain side c.doubling)
                (sym (told-other l slot (slots slot) now u.1 (l.position (l.row_of block) (slot_of l block))
                (λ e. ne (same-slot l is n (l.row_of block) (slot_of l block) slot there.0 in-row (inside lv) (e ∙ ap (λ r. l.position r slot) u.3))))) u.4),
          )
        where
          index-below : (index : ℕ) → index < l.data_slots → l.slots ≡ l.data_slots + 2 → index < l.slots
          index-below index below wide = omega arith

      -- the first device stays, or the second one does
      kept : live' → has_device now (generation_in (slots slot)) ≡ true → (side : Bool) (block : ℕ) → UncertainAt l frame block side → UncertainAt l (λ f. told_hold l slot (slots slot) now (frame f)) block side
      kept lv first side block u =
          let k = told u.0 u.1 u.2 in (
            u.0,
            k.0,
            k.1,
            k.2 ∙ u.3,
            subst (λ (c : Rattle.r6_stripe.specs.Holds.Hold). Uncertain side (cell_at c.cells (l.position (l.row_of block) (slot_of l block))).doubling) (sym k.3)
                (subst (Uncertain side) (sym (told-keeps l slot (slots slot) now u.1 (l.position (l.row_of block) (slot_of l block)) first)) u.4),
          )

      -- the second device has the first one's place
      passes : live' → (block : ℕ) → IsRowOf l n (l.row_of block) → slot_of l block ≡ slot → Moved (slots slot) now → stands_on true (slots slot) (l.row_of block) ≡ InSync
          → UncertainAt l frame block true → UncertainAt l (λ f. told_hold l slot (slots slot) now (frame f)) block false
      passes lv block there same m second u =
          let k = told u.0 u.1 u.2 in
          let h = u.1 in
          let held = (rows (back lv)).held u.0 h u.2 in
          let at : ℕ = l.position h.row slot in
          let here : l.position (l.row_of block) (slot_of l block) ≡ at = ap (λ r. l.position r (slot_of l block)) (sym u.3) ∙ ap (l.position h.row) same in
          let first-in : (cell_at h.course.cells at).standing ≡ InSync = stands-in h.task slot h.row false (slots slot) (cell_at h.course.cells at).standing (held.stands false slot (inside lv)) (first-of-two (slots slot) h.row m.has) in
          let second-in : (cell_at h.course.cells at).second ≡ InSync =
          stands-in h.task slot h.row true (slots slot) (cell_at h.course.cells at).second (held.stands true slot (inside lv)) (ap (stands_on true (slots slot)) u.3 ∙ second) in
          let moves : heard l slot (slots slot) now h ≡ Some (Moves at) =
          told-of l slot (slots slot) now h InSync InSync false true first-in (in_sync_is_not_out InSync refl) second-in m.gone (subst (λ g. has_device now g ≡ true) m.device (has-device-on false now m.still)) in
          let is-moved : cell_at (hearing (planned h) (heard l slot (slots slot) now h)).hold.cells at ≡ moved (cell_at h.course.cells at) =
          ap (λ e. cell_at (hearing (planned h) e).hold.cells at) moves ∙ cell-same h.course.cells at at (moved (cell_at h.course.cells at)) refl (not-out-within h.course.cells at (in_sync_is_not_out _ first-in)) in (
            u.0,
            k.0,
            k.1,
            k.2 ∙ u.3,
            ap (λ (c : Rattle.r6_stripe.specs.Holds.Hold). (cell_at c.cells (l.position (l.row_of block) (slot_of l block))).doubling) k.3
                ∙ ap (λ y. (cell_at (hearing (planned h) (heard l slot (slots slot) now h)).hold.cells y).doubling) here
                ∙ ap (λ (c : Cell). c.doubling) is-moved
                ∙ not-single (cell_at h.course.cells at).doubling (subst (λ y. Uncertain true (cell_at h.course.cells y).doubling) here u.4),
          )

      at-slot : live' → (side : Bool) (block : ℕ) → block < l.blocks → IsRowOf l n (l.row_of block) → slot_of l block ≡ slot → stands_on side now (l.row_of block) ≡ InSync → Becomes (slots slot) now
          → (device (slot_of l block) (device_on side (put slots slot now (slot_of l block))) (l.row_of block) ≡ array block) ⊎ UncertainAt l (λ f. told_hold l slot (slots slot) now (frame f)) block side
      at-slot lv side block within there same sync (inl y) = by side sync
        where
          first : has_device now (generation_in (slots slot)) ≡ true
          first = subst (λ g. has_device now g ≡ true) y.device (has-device-on false now y.still)

          was : (side : Bool) → stands_on side (slots slot) (l.row_of block) ≡ InSync → device_on side now ≡ device_on side (slots slot)
              → (device (slot_of l block) (device_on side (put slots slot now (slot_of l block))) (l.row_of block) ≡ array block) ⊎ UncertainAt l (λ f. told_hold l slot (slots slot) now (frame f)) block side
          was side before device-is = elim (x.blocks (back lv) side block within there (ap (λ z. stands_on side (slots z) (l.row_of block)) same ∙ before)) [
            | inl e ↦ inl (
                ap (λ z. device (slot_of l block) (device_on side z) (l.row_of block)) (put-same slots slot now (slot_of l block) same) ∙ ap (λ z. device (slot_of l block) z (l.row_of block)) device-is
                ∙ ap (λ z. device (slot_of l block) (device_on side (slots z)) (l.row_of block)) (sym same) ∙ e)
            | inr u ↦ inr (kept lv first side block u)
          ]

          by : (side : Bool) → stands_on side now (l.row_of block) ≡ InSync
              → (device (slot_of l block) (device_on side (put slots slot now (slot_of l block))) (l.row_of block) ≡ array block) ⊎ UncertainAt l (λ f. told_hold l slot (slots slot) now (frame f)) block side
          by false sync = was false (sym (y.standing (l.row_of block)) ∙ sync) y.device
          by true sync = elim y.second [
            | inl z ↦ was true (sym (z.standing (l.row_of block)) ∙ sync) z.device
            | inr z ↦ absurd (in_sync_is_not_out _ sync (z.out (l.row_of block)))
          ]
      at-slot lv true block within there same sync (inr (inl m)) = absurd (in_sync_is_not_out _ sync (m.out (l.row_of block)))
      at-slot lv false block within there same sync (inr (inl m)) =
          let second : stands_on true (slots slot) (l.row_of block) ≡ InSync = sym (m.standing (l.row_of block)) ∙ sync in
          elim (x.blocks (back lv) true block within there (ap (λ z. stands_on true (slots z) (l.row_of block)) same ∙ second)) [
            | inl e ↦ inl (
                ap (λ z. device (slot_of l block) (generation_in z) (l.row_of block)) (put-same slots slot now (slot_of l block) same) ∙ ap (λ z. device (slot_of l block) z (l.row_of block)) m.device
                ∙ ap (λ z. device (slot_of l block) (second_in (slots z)) (l.row_of block)) (sym same) ∙ e)
            | inr u ↦ inr (passes lv block there same m second u)
          ]
      at-slot lv side block within there same sync (inr (inr g)) = absurd (in_sync_is_not_out _ sync (g.out side (l.row_of block)))
