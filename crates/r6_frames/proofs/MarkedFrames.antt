-- Which frames are free, and which hold a row, when one has another use.
use Rattle.std.proofs.Common.{◌≡◌, ℕ, zero, suc, ◌%◌, ◌<◌, Bool, true, false, List, [], ◌∷◌, length, map, set, refl, sym, ap, ◌∙◌, Some, inl, inr}
use Rattle.std.specs.Prelude.{◌&&◌, if◌then◌else◌, replicate}
use Rattle.std.proofs.lemmas.Bool.{cases_eq, eq-eqb, ne_eqb}
use Rattle.std.proofs.lemmas.List.{get_or-replicate}
use Rattle.r6_layout.specs.Shape.{Shape}
use Rattle.r6_stripe.specs.Steps.{Held}
use Rattle.r6_frames.specs.declared.frames.HeldRow.{HeldRow}
use Rattle.r6_frames.specs.declared.frames.FrameUse.{FrameUse}
use Rattle.r6_frames.specs.declared.frames.FrameUse.TheVariants.{Free, Held as HeldIn, Returning}
use Rattle.r6_frames.specs.declared.holders.Holders.{Holders}
use Rattle.r6_bits.specs.Words.{is_set, HasNone, IsWithBit}
use Rattle.r6_frames.specs.FramesState.{FramesState}
use Rattle.r6_frames.specs.declared.losses.Heard.{Heard}
use Rattle.r6_frames.specs.declared.losses.Heard.TheVariants as heard
use Rattle.r6_frames.specs.declared.slots.Device.{Device}
use Rattle.r6_frames.specs.declared.successor.Successor.{Successor}
use Rattle.r6_frames.specs.Calls.{IsHolder}
use Rattle.r6_frames.specs.Successors.{brought_home, is_own}
use Rattle.r6_frames.specs.Told.{heard_by, told_use, told_row}
use Rattle.r6_frames.specs.Holders.{AreFramesFor, AreHolders, AreMarked, frames_for, holds_like, is_like, IsWithFrame}
use Rattle.r6_frames.specs.Pool.{is_free}
use Rattle.r6_frames.specs.Uses.{has_away, retired, use_home}
use Rattle.r6_frames.specs.Views.{use_at, hold_at}
use Rattle.r6_bits.proofs.Words.{AllOut}
use Rattle.r6_frames.proofs.FreeFrames.{all_free}
use Rattle.r6_frames.proofs.Held.{held_within, use_at_other, use_at_own, use_held}

-- of each frame the bit says what its use is
abbrev pub Marks : (FrameUse → Bool) → ℕ → List FrameUse → Type 0
Marks test bits held = (frame : ℕ) → frame < 64 → is_set bits frame ≡ test (use_at held frame)

-- the frame has this use
put_marks : (test : FrameUse → Bool) (bits later : ℕ) (held : List FrameUse) (frame : ℕ) (u : FrameUse) → frame < length held → Marks test bits held
    → IsWithBit bits frame (test u) later → Marks test later (set held frame u)
put_marks test bits later held frame u below are is i inside =
    elim (cases_eq i frame) [
      | inl e ↦
          is i inside ∙ ap (λ (b : Bool). if b then test u else is_set bits i) (eq-eqb i frame e)
          ∙ sym (ap (λ (n : ℕ). test (use_at (set held frame u) n)) e ∙ ap test (use_at_own held frame u below))
      | inr ne ↦
          is i inside ∙ ap (λ (b : Bool). if b then test u else is_set bits i) (ne_eqb i frame ne) ∙ are i inside
          ∙ sym (ap test (use_at_other held frame u i ne))
    ]

-- the frame has a use of the same mark
same_marks : (test : FrameUse → Bool) (bits : ℕ) (held : List FrameUse) (frame : ℕ) (u : FrameUse) → frame < length held → test u ≡ test (use_at held frame)
    → Marks test bits held → Marks test bits (set held frame u)
same_marks test bits held frame u below same are i inside =
    elim (cases_eq i frame) [
      | inl e ↦
          are i inside ∙ ap (λ (n : ℕ). test (use_at held n)) e ∙ sym same
          ∙ sym (ap (λ (n : ℕ). test (use_at (set held frame u) n)) e ∙ ap test (use_at_own held frame u below))
      | inr ne ↦ are i inside ∙ sym (ap test (use_at_other held frame u i ne))
    ]

-- rows hear of a slot
told_marks : (test : FrameUse → Bool) (shape : Shape) (slot : ℕ) (was now : Device) → ((h : HeldRow) → test (HeldIn (told_row shape slot (heard_by h slot was now) h)) ≡ test (HeldIn h))
    → (held : List FrameUse) (i : ℕ) → test (use_at (map (told_use shape slot was now) held) i) ≡ test (use_at held i)
told_marks test shape slot was now same [] i = refl
told_marks test shape slot was now same (Free ∷ held) zero = refl
told_marks test shape slot was now same (HeldIn h ∷ held) zero = same h
told_marks test shape slot was now same (Returning r other ∷ held) zero = refl
told_marks test shape slot was now same (u ∷ held) (suc i) = told_marks test shape slot was now same held i

-- ---- frames and rows together

pub marked_put : (free later : ℕ) (holders : Holders) (held : List FrameUse) (frame : ℕ) (u : FrameUse) → frame < length held
    → ((row : ℕ) → holds_like row u ≡ holds_like row (use_at held frame)) → AreMarked free holders held → IsWithBit free frame (is_free u) later
    → AreMarked later holders (set held frame u)
marked_put free later holders held frame u below same are is =
    record {
      free = put_marks is_free free later held frame u below are.free is;
      rows = λ row. same_marks (holds_like row) (frames_for holders row) held frame u below (same row) (are.rows row);
    }

-- a row goes on
pub marked_held : (free : ℕ) (holders : Holders) (held : List FrameUse) (frame : ℕ) (h new : HeldRow) → hold_at held frame ≡ Some h → new.row ≡ h.row
    → AreMarked free holders held → AreMarked free holders (set held frame (HeldIn new))
marked_held free holders held frame h new is row_is are =
    let below = held_within held frame h is in
    let was = use_held held frame h is in
    record {
      free = same_marks is_free free held frame (HeldIn new) below (sym (ap is_free was)) are.free;
      rows = λ row.
          same_marks (holds_like row) (frames_for holders row) held frame (HeldIn new) below (ap (λ (r : ℕ). is_like r row) row_is ∙ sym (ap (holds_like row) was))
          (are.rows row);
    }

told_row_is : (what : Heard) (shape : Shape) (slot : ℕ) (h : HeldRow) (row : ℕ) → holds_like row (HeldIn (told_row shape slot what h)) ≡ holds_like row (HeldIn h)
told_row_is heard.Nothing shape slot h row = refl
told_row_is heard.Lost shape slot h row = refl
told_row_is heard.Moved shape slot h row = refl
told_row_is heard.Dropped shape slot h row = refl

pub marked_told : (free : ℕ) (holders : Holders) (shape : Shape) (slot : ℕ) (was now : Device) (held later : List FrameUse) → later ≡ map (told_use shape slot was now) held
    → AreMarked free holders held → AreMarked free holders later
marked_told free holders shape slot was now held later told are =
    record {
      free = λ i inside. are.free i inside ∙ sym (ap (λ (uses : List FrameUse). is_free (use_at uses i)) told ∙ told_marks is_free shape slot was now (λ h. refl) held i);
      rows = λ row i inside.
          are.rows row i inside
          ∙ sym (ap (λ (uses : List FrameUse). holds_like row (use_at uses i)) told
          ∙ told_marks (holds_like row) shape slot was now (λ h. told_row_is (heard_by h slot was now) shape slot h row) held i);
    }

-- ---- a row is held

with_like : (like old : Bool) → old ≡ false → (if like && true then true else old) ≡ like
with_like true old none = refl
with_like false old none = none

without_like : (like old : Bool) → old ≡ like → (if like && true then false else old) ≡ false
without_like true old is = refl
without_like false old is = is

elsewhere : (like in_it old : Bool) → (if like && false then in_it else old) ≡ old
elsewhere true in_it old = refl
elsewhere false in_it old = refl

-- the mark of the rows like this one, when a frame holds another row or none
holders_put : (old new : Holders) (held : List FrameUse) (frame row : ℕ) (holds : Bool) (u : FrameUse) → frame < length held → IsWithFrame old row frame holds new
    → ((other : ℕ) → (if is_like row other && true then holds else holds_like other (use_at held frame)) ≡ holds_like other u)
    → AreHolders old held → AreHolders new (set held frame u)
holders_put old new held frame row holds u below put is are other =
    put_marks (holds_like other) (frames_for old other) (frames_for new other) held frame u below (are other)
    (λ i inside.
    let bit = is_set (frames_for old other) i in
    let like = is_like row other in
    elim (cases_eq i frame) [
      | inl e ↦
          put other i inside ∙ ap (λ (b : Bool). if like && b then holds else bit) (eq-eqb i frame e)
          ∙ ap (λ (b : Bool). if like && true then holds else b) (are other i inside ∙ ap (λ (n : ℕ). holds_like other (use_at held n)) e) ∙ is other
          ∙ sym (ap (λ (b : Bool). if b then holds_like other u else bit) (eq-eqb i frame e))
      | inr ne ↦
          put other i inside ∙ ap (λ (b : Bool). if like && b then holds else bit) (ne_eqb i frame ne) ∙ elsewhere like holds bit
          ∙ sym (ap (λ (b : Bool). if b then holds_like other u else bit) (ne_eqb i frame ne))
    ])

pub marked_begun : (free later : ℕ) (old new : Holders) (held : List FrameUse) (frame : ℕ) (h : HeldRow) → frame < length held → use_at held frame ≡ Free
    → AreMarked free old held → IsWithBit free frame false later → IsWithFrame old h.row frame true new → AreMarked later new (set held frame (HeldIn h))
marked_begun free later old new held frame h below was are is added =
    record {
      free = put_marks is_free free later held frame (HeldIn h) below are.free is;
      rows =
          holders_put old new held frame h.row true (HeldIn h) below added
          (λ other. with_like (is_like h.row other) (holds_like other (use_at held frame)) (ap (holds_like other) was)) are.rows;
    }

retired_has_none : (hold : Held) (other : Successor) (row : ℕ) → holds_like row (retired hold other) ≡ false
retired_has_none hold other row = by (has_away hold)
  where
    by : (b : Bool) → holds_like row (if b then Returning hold other else Free) ≡ false
    by true = refl
    by false = refl

-- the hold of a row ends
pub marked_ended : (free later : ℕ) (old new : Holders) (held : List FrameUse) (frame : ℕ) (h : HeldRow) (left : Held) (other : Successor) (u : FrameUse) → hold_at held frame ≡ Some h
    → u ≡ retired left other → AreMarked free old held → IsWithBit free frame (is_free u) later → IsWithFrame old h.row frame false new
    → AreMarked later new (set held frame u)
marked_ended free later old new held frame h left last u held_is left_is are is removed =
    let below = held_within held frame h held_is in
    record {
      free = put_marks is_free free later held frame u below are.free is;
      rows =
          holders_put old new held frame h.row false u below removed
          (λ other.
          without_like (is_like h.row other) (holds_like other (use_at held frame)) (ap (holds_like other) (use_held held frame h held_is))
          ∙ sym (ap (holds_like other) left_is ∙ retired_has_none left last other)) are.rows;
    }

-- a buffer comes home
pub home_same : (u : FrameUse) (device : ℕ × ℕ) (position : ℕ) (block : List ℕ) (row : ℕ) → holds_like row (use_home u device position block) ≡ holds_like row u
home_same Free device position block row = refl
home_same (HeldIn h) device position block row = refl
home_same (Returning r other) device position block row = retired_has_none (brought_home (is_own other device.0 device.1) r position block) other row

-- all frames are free at the start
pub all_marked : (holders : Holders) → ((row : ℕ) → HasNone (frames_for holders row)) → AreMarked 18446744073709551615 holders (replicate 64 Free)
all_marked holders none =
    record {
      free = all_free;
      rows = λ row i inside. none row i inside ∙ sym (ap (holds_like row) (get_or-replicate {A = FrameUse} 64 i Free Free inside));
    }

-- a frame out of the set of a row's remainder doesn't hold the row
pub unlike_rows : (row bits : ℕ) (fs : FramesState) → AreFramesFor row bits fs.uses → AllOut bits (λ frame. IsHolder fs row frame → ⊥)
unlike_rows row bits fs are frame inside out holds =
    let like : holds_like row (use_at fs.uses frame) ≡ true =
    ap (holds_like row) (use_held fs.uses frame holds.1 holds.2) ∙ ap (λ r. is_like r row) holds.3 ∙ eq-eqb (row % 64) (row % 64) refl in
    let both : false ≡ true = sym out ∙ are frame inside ∙ like in absurd (cc)
