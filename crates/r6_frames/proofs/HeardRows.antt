-- What rows hear of a slot that has other devices leaves each of them the row that it is.
use Rattle.std.proofs.Common.{◌≡◌, ◌≢◌, ℕ, zero, suc, ◌+◌, ◌-◌, ◌<◌, Bool, true, false, List, [], ◌∷◌, ◌++◌, length, map, take, drop, get_or, Option, Some, None, refl, sym, ap, ◌∙◌, arith}
use Rattle.std.specs.Prelude.{if◌then◌else◌, option_map}
use Rattle.std.proofs.lemmas.List.{length-map, length-take-le, get_or-drop, get_or-append_right, get_or_default}
use Rattle.r6_layout.specs.Shape.{Shape}
use Rattle.r6_stripe.specs.Holds.{Cell, moved}
use Rattle.r6_stripe.specs.Holds.Standing.{Out}
use Rattle.r6_stripe.specs.Holds.Writing.{Unwritten}
use Rattle.r6_stripe.specs.Steps.{Held}
use Rattle.r6_world.specs.ShardStates.{has_device}
use Rattle.r6_frames.specs.declared.frames.HeldRow.{HeldRow}
use Rattle.r6_frames.specs.declared.frames.FrameUse.{FrameUse}
use Rattle.r6_frames.specs.declared.frames.FrameUse.TheVariants as uses
use Rattle.r6_frames.specs.declared.losses.Heard.{Heard}
use Rattle.r6_frames.specs.declared.losses.Heard.TheVariants.{Nothing, Lost, Moved, Dropped}
use Rattle.r6_frames.specs.declared.slots.Device.{Device}
use Rattle.r6_frames.specs.declared.successor.Successor.{Successor}
use Rattle.r6_frames.specs.Views.{row_in, use_at, hold_at, held_for, request_at, requests_from}
use Rattle.r6_frames.specs.Slots.{first_of, state_of}
use Rattle.r6_frames.specs.Successors.{beside_in}
use Rattle.r6_frames.specs.Told.{IsOfTwo, heard_beside, heard_by, heard_from, heard_of_one, hears, told_row, told_use}

-- ---- the list while rows hear, one after the other

-- a list whose first elements were changed has the others still
from_there : {X : Type 0} (f : X → X) (xs : List X) (i : ℕ) (d : X) → i < length xs → get_or (map f (take i xs) ++ drop i xs) i d ≡ get_or xs i d
from_there f xs i d below =
    let wide : length (map f (take i xs)) ≡ i = length-map (take i xs) f ∙ length-take-le i xs (omega arith) in
    let same : i + (i - i) ≡ i = omega arith in
    get_or-append_right (map f (take i xs)) (drop i xs) i i d wide (omega arith) ∙ get_or-drop i xs (i - i) d
    ∙ ap (λ (n : ℕ). get_or xs n d) same

-- a row that is met while the frames before it hear was held before
pub was_held : (shape : Shape) (slot : ℕ) (was now : Device) (old later : List FrameUse) (i : ℕ) (x : FrameUse) (h : HeldRow) → i < length old
    → later ≡ map (told_use shape slot was now) (take i old) ++ drop i old → x ≡ get_or later i x → x ≡ uses.Held h → hold_at old i ≡ Some h
was_held shape slot was now old later i x h below before there is =
    let same : x ≡ get_or old i x = there ∙ ap (λ (us : List FrameUse). get_or us i x) before ∙ from_there (told_use shape slot was now) old i x below in
    ap row_in (get_or_default old i uses.Free x below ∙ sym same ∙ is)

-- a frame in which no row is held hears nothing
pub told_none : (shape : Shape) (slot : ℕ) (was now : Device) (u : FrameUse) → ((h : HeldRow) → u ≡ uses.Held h → ⊥) → told_use shape slot was now u ≡ u
told_none shape slot was now uses.Free none = refl
told_none shape slot was now (uses.Held h) none = absurd (none h refl)
told_none shape slot was now (uses.Returning r other) none = refl

-- ---- what a row hears

-- the row when it has heard
abbrev pub told : Shape → (slot : ℕ) → (was now : Device) → HeldRow → HeldRow
told shape slot was now h = told_row shape slot (heard_by h slot was now) h

row_told : (shape : Shape) (slot : ℕ) (was now : Device) (u : FrameUse) → row_in (told_use shape slot was now u) ≡ option_map (told shape slot was now) (row_in u)
row_told shape slot was now uses.Free = refl
row_told shape slot was now (uses.Held h) = refl
row_told shape slot was now (uses.Returning r other) = refl

pub returning_told : (shape : Shape) (slot : ℕ) (was now : Device) (u : FrameUse) (r : Held) (other : Successor) → told_use shape slot was now u ≡ uses.Returning r other → u ≡ uses.Returning r other
returning_told shape slot was now uses.Free r other is = is
returning_told shape slot was now (uses.Held h) r other is = absurd (cc)
returning_told shape slot was now (uses.Returning x y) r other is = is

pub use_told : (shape : Shape) (slot : ℕ) (was now : Device) (held : List FrameUse) (frame : ℕ) → use_at (map (told_use shape slot was now) held) frame ≡ told_use shape slot was now (use_at held frame)
use_told shape slot was now [] frame = refl
use_told shape slot was now (u ∷ held) zero = refl
use_told shape slot was now (u ∷ held) (suc frame) = use_told shape slot was now held frame

pub holds_told : (shape : Shape) (slot : ℕ) (was now : Device) (held : List FrameUse) (frame : ℕ)
    → hold_at (map (told_use shape slot was now) held) frame ≡ option_map (told shape slot was now) (hold_at held frame)
holds_told shape slot was now held frame = ap row_in (use_told shape slot was now held frame) ∙ row_told shape slot was now (use_at held frame)

mapped_some : (g : HeldRow → HeldRow) (o : Option HeldRow) (x : HeldRow) → option_map g o ≡ Some x → (h : HeldRow) × (o ≡ Some h) × (g h ≡ x)
mapped_some g None x is = absurd (cc)
mapped_some g (Some h) x is = let same : g h ≡ x = cc in (h, refl, same)

mapped_none : (g : HeldRow → HeldRow) (o : Option HeldRow) → option_map g o ≡ None → o ≡ None
mapped_none g None is = refl
mapped_none g (Some h) is = absurd (cc)

-- the row that a frame had before
pub row_before : (shape : Shape) (slot : ℕ) (was now : Device) (held : List FrameUse) (frame : ℕ) (x : HeldRow) → hold_at (map (told_use shape slot was now) held) frame ≡ Some x
    → (h : HeldRow) × (hold_at held frame ≡ Some h) × (told shape slot was now h ≡ x)
row_before shape slot was now held frame x is = mapped_some (told shape slot was now) (hold_at held frame) x (sym (holds_told shape slot was now held frame) ∙ is)

pub none_before : (shape : Shape) (slot : ℕ) (was now : Device) (held : List FrameUse) (frame : ℕ) → hold_at (map (told_use shape slot was now) held) frame ≡ None → hold_at held frame ≡ None
none_before shape slot was now held frame is = mapped_none (told shape slot was now) (hold_at held frame) (sym (holds_told shape slot was now held frame) ∙ is)

pub same_row : (what : Heard) (shape : Shape) (slot : ℕ) (h : HeldRow) → (told_row shape slot what h).row ≡ h.row
same_row Nothing shape slot h = refl
same_row Lost shape slot h = refl
same_row Moved shape slot h = refl
same_row Dropped shape slot h = refl

request_told : (what : Heard) (shape : Shape) (slot start : ℕ) (h : HeldRow) → request_at start (uses.Held (told_row shape slot what h)) ≡ request_at start (uses.Held h)
request_told Nothing shape slot start h = refl
request_told Lost shape slot start h = refl
request_told Moved shape slot start h = refl
request_told Dropped shape slot start h = refl

pub requests_told : (shape : Shape) (slot : ℕ) (was now : Device) (start : ℕ) (held : List FrameUse) → requests_from start (map (told_use shape slot was now) held) ≡ requests_from start held
requests_told shape slot was now start [] = refl
requests_told shape slot was now start (uses.Free ∷ held) = requests_told shape slot was now (start + 1) held
requests_told shape slot was now start (uses.Held h ∷ held) =
    let here = request_told (heard_by h slot was now) shape slot start h in
    let rest = requests_told shape slot was now (start + 1) held in
    λ i. here i ++ rest i
requests_told shape slot was now start (uses.Returning r other ∷ held) = requests_told shape slot was now (start + 1) held

-- and so are the rows
held_for_told : (what : Heard) (shape : Shape) (slot : ℕ) (h : HeldRow) → held_for (told_row shape slot what h) ≡ held_for h
held_for_told Nothing shape slot h = refl
held_for_told Lost shape slot h = refl
held_for_told Moved shape slot h = refl
held_for_told Dropped shape slot h = refl

pub rows_told : (shape : Shape) (slot : ℕ) (was now : Device) (held : List FrameUse) (frame : ℕ)
    → option_map held_for (hold_at (map (told_use shape slot was now) held) frame) ≡ option_map held_for (hold_at held frame)
rows_told shape slot was now [] frame = refl
rows_told shape slot was now (uses.Free ∷ held) zero = refl
rows_told shape slot was now (uses.Held h ∷ held) zero = ap (λ (row : ℕ × _). Some row) (held_for_told (heard_by h slot was now) shape slot h)
rows_told shape slot was now (uses.Returning r other ∷ held) zero = refl
rows_told shape slot was now (u ∷ held) (suc frame) = rows_told shape slot was now held frame

-- what is heard of two devices is heard by a row with a second one there
pub two_heard : (h : HeldRow) (slot : ℕ) (was now : Device) → IsOfTwo (heard_by h slot was now) → (generation : ℕ) × (beside_in h.successor slot ≡ Some generation)
two_heard h slot was now two = by_first (first_of was) two
  where
    one_device : (b : Bool) → IsOfTwo (heard_of_one b) → ⊥
    one_device true two = two
    one_device false two = two

    by_second : (first : ℕ) (o : Option ℕ) → beside_in h.successor slot ≡ o → IsOfTwo (heard_beside o (has_device (state_of now) first) now) → (generation : ℕ) × (beside_in h.successor slot ≡ Some generation)
    by_second first None is two = absurd (one_device (has_device (state_of now) first) two)
    by_second first (Some generation) is two = (generation, is)

    by_hearing : (first : ℕ) (b : Bool) → IsOfTwo (if b then heard_beside (beside_in h.successor slot) (has_device (state_of now) first) now else Nothing)
        → (generation : ℕ) × (beside_in h.successor slot ≡ Some generation)
    by_hearing first true two = by_second first (beside_in h.successor slot) refl two
    by_hearing first false two = absurd two

    by_first : (o : Option ℕ) → IsOfTwo (heard_from h slot was now o) → (generation : ℕ) × (beside_in h.successor slot ≡ Some generation)
    by_first None two = absurd two
    by_first (Some first) two = by_hearing first (hears h slot was) two

-- what a row hears of a position says what became of the devices that this has: whether its first and its second stay
abbrev pub Says : (cell : Cell) → (first second : Bool) → Heard → Type 0
Says cell first second Nothing = (cell.standing ≢ Out → first ≡ true) × (cell.second ≢ Out → second ≡ true)
Says cell first second Lost = (cell.standing ≢ Out) × (first ≡ false) × (cell.second ≢ Out → second ≡ false)
Says cell first second Moved = (cell.standing ≢ Out) × (cell.second ≢ Out) × (first ≡ false) × (second ≡ true)
Says cell first second Dropped = (cell.standing ≢ Out) × (cell.second ≢ Out) × (first ≡ true) × (second ≡ false)

-- the position then
abbrev pub told_cell : Heard → Cell → Cell
told_cell Nothing c = c
told_cell Lost c = record c { standing = Out; second = Out }
told_cell Moved c = moved c
told_cell Dropped c = record c { second = Out; copying = Unwritten }
