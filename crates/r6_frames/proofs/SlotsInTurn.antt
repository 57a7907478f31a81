-- The slots of a row follow its first one round the array.
use Rattle.std.proofs.Common.{◌≡◌, ℕ, ◌+◌, ◌/◌, ◌%◌, ◌<◌, refl, sym, ap, subst, ◌∙◌, Some, arith}
use Rattle.std.proofs.Math.Nat.{div-add-mod', mod-eq_of_lt}
use Rattle.std.proofs.lemmas.Nat.{mod_below}
use Rattle.r6_layout.specs.Shape.{Shape, IsShape}
use Rattle.r6_layout.specs.Layout.{p_slot, chunk_row_of, slot_at, position_at}
use Rattle.r6_frames.specs.declared.frames.HeldRow.{HeldRow}
use Rattle.r6_frames.specs.FramesState.{FramesState}
use Rattle.r6_frames.specs.Views.{hold_at}
use Rattle.r6_frames.specs.Sound.{IsSound}
use Rattle.r6_layout.proofs.Rotation.{mod_unique, position_in-slot_in}

pub some_slots : {shape : Shape} → IsShape shape → 0 < shape.slots
some_slots limits = let least = limits.slots_allowed.0 in omega arith

-- steps are added up
turn_on : (n a b : ℕ) → 0 < n → (a % n + b) % n ≡ (a + b) % n
turn_on n a b some =
    let split = div-add-mod' a n in
    let split' = div-add-mod' (a + b) n in
    mod_unique n (a % n + b) ((a + b) % n) (a / n) ((a + b) / n) (mod_below (a + b) n some) (omega arith)

-- what is as far to the left of one slot is one slot
turn_back : (n a b steps : ℕ) → a < n → b < n → (a + steps) % n ≡ (b + steps) % n → a ≡ b
turn_back n a b steps below below' same =
    let split = div-add-mod' (a + steps) n in
    let split' = div-add-mod' (b + steps) n in
    sym (mod-eq_of_lt below) ∙ mod_unique n a b ((b + steps) / n) ((a + steps) / n) below' (omega (arith, same))

module _ (shape : Shape) (some : 0 < shape.slots) (row : ℕ) where
  pub slot_right : (first position : ℕ) → first ≡ slot_at shape row 0 → (first + position) % shape.slots ≡ slot_at shape row position
  slot_right first position first_is =
      ap (λ f. (f + position) % shape.slots) first_is
      ∙ turn_on shape.slots (p_slot shape.slots (chunk_row_of shape row) + 2 + 0) position some
      ∙ ap (λ x. (x + position) % shape.slots) (omega arith)

  pub position_right : (position : ℕ) → position < shape.slots → position_at shape row (slot_at shape row position) ≡ position
  position_right position below = position_in-slot_in shape.slots (chunk_row_of shape row) position below

  pub slot_below : (position : ℕ) → slot_at shape row position < shape.slots
  slot_below position = mod_below (p_slot shape.slots (chunk_row_of shape row) + 2 + position) shape.slots some

  -- the position of a slot is as far from the first one
  pub position_left : (first position slot : ℕ) → first ≡ slot_at shape row 0 → position < shape.slots → (position + first) % shape.slots ≡ slot
      → position ≡ position_at shape row slot
  position_left first position slot first_is below is =
      sym (position_right position below)
      ∙ ap (position_at shape row) (sym (slot_right first position first_is) ∙ ap (λ x. x % shape.slots) (omega arith) ∙ is)

  -- the first slot is as far to the left as the position says
  pub first_left : (first position slot : ℕ) → first < shape.slots → slot ≡ slot_at shape row position → (first + position) % shape.slots ≡ slot
      → first ≡ slot_at shape row 0
  first_left first position slot below slot_is is =
      turn_back shape.slots first (slot_at shape row 0) position below (slot_below 0)
      (is ∙ slot_is ∙ sym (slot_right (slot_at shape row 0) position refl))

-- ---- of a held row

pub record IsSlotAt (shape : Shape) (row position slot : ℕ) : Type 0 where
  pub within : slot < shape.slots
  pub value : slot ≡ slot_at shape row position
  pub inverse : position_at shape row slot ≡ position

pub slot_of_row : (fs : FramesState) (frame : ℕ) (h : HeldRow) (position slot : ℕ) → hold_at fs.uses frame ≡ Some h → IsSound fs → position < fs.geometry.slots
    → slot ≡ (h.first_slot + position) % fs.geometry.slots → IsSlotAt fs.geometry h.row position slot
slot_of_row fs frame h position slot is sound below right =
    let some = some_slots sound.shape in
    let value = right ∙ slot_right fs.geometry some h.row h.first_slot position (sound.frames.rows frame h is).first in
    record {
      within = subst (λ s. s < fs.geometry.slots) (sym value) (slot_below fs.geometry some h.row position);
      value = value;
      inverse = ap (position_at fs.geometry h.row) value ∙ position_right fs.geometry some h.row position below;
    }
