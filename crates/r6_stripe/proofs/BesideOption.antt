-- The same of a hold of which one position may have a second device.
use Rattle.std.proofs.Common.{◌≡◌, ◌≢◌, ◌⊎◌, inl, inr, Bool, true, false, ℕ, ◌<◌, List, length, get_or, set, refl, sym, ◌∙◌, ap, subst, arith, Option, Some, None}
use Rattle.std.specs.Prelude.{◌&&◌, not, if◌then◌else◌}
use Rattle.std.proofs.lemmas.Bool.{cases_eq}
use Rattle.std.proofs.lemmas.List.{get_or-set_other, get_or-set_same, length-set}
use Rattle.r6_recover.specs.declared.class.RowClass.{RowClass}
use Rattle.r6_stripe.specs.Checks.{IsClassAfter}
use Rattle.r6_stripe.specs.Holds.{Reading, Writing, Cell, cell_at, no_cell}
use Rattle.r6_stripe.specs.Holds.Standing.{Out}
use Rattle.r6_stripe.specs.Holds.Reading.{Unread, Recalled, Asked, Unreadable, Fixing, Fixed, AskedAgain, Known, Replaced}
use Rattle.r6_stripe.specs.Holds.Writing.{Unwritten, Sent, Confirmed}
use Rattle.r6_stripe.specs.Holds.Event.{Confirms, Gives, Mends}
use Rattle.r6_stripe.specs.Plans as plans
use Rattle.r6_stripe.specs.Plans.{is_fixing, is_in_error, is_out, is_sent, planned_after}
use Rattle.r6_stripe.specs.Places.{is_read_out}
use Rattle.r6_stripe.specs.Seconds.{IsSecondSound, IsSoundBeside, beside, cells_beside, recalled_if, with_second}
use Rattle.r6_stripe.specs.Steps.{Held, IsKnownAs, IsUnknown, answered, closed, failed, is_away}
use Rattle.r6_stripe.specs.declared.second.CopyState.TheVariants as copy
use Rattle.r6_stripe.specs.declared.second.Second.{Second}
use Rattle.r6_stripe.proofs.Alone.{AreAlone}
use Rattle.r6_stripe.proofs.Beside.{errors_at, known_recalled, here, other, recalled_known, standing}
use Rattle.r6_stripe.proofs.BesideAnswers.{answered_both, failed_both, sound_still, twin_by, sent_is}
use Rattle.r6_stripe.proofs.BesideSound.{class_both}

pub away_option : (o : Option Second) (block : List ℕ) (away : Bool) (held : Held) → (with_second o block away held).away ≡ held.away
away_option None block away held = refl
away_option (Some second) block away held = refl

pub class_option : (o : Option Second) (block : List ℕ) (away : Bool) (held : Held) → (with_second o block away held).class ≡ held.class
class_option None block away held = refl
class_option (Some second) block away held = refl

pub size_option : (o : Option Second) (block : List ℕ) (away : Bool) (held : Held) → (with_second o block away held).planned.hold.size ≡ held.planned.hold.size
size_option None block away held = refl
size_option (Some second) block away held = refl

pub kind_option : (o : Option Second) (block : List ℕ) (away : Bool) (held : Held) → (with_second o block away held).planned.hold.kind ≡ held.planned.hold.kind
kind_option None block away held = refl
kind_option (Some second) block away held = refl

pub second_away_option : (o : Option Second) (block : List ℕ) (away : Bool) (held : Held) → (with_second o block away held).second_away ≡ away
second_away_option None block away held = refl
second_away_option (Some second) block away held = refl

pub width_option : (o : Option Second) (block : List ℕ) (away : Bool) (held : Held) → length (with_second o block away held).planned.hold.cells ≡ length held.planned.hold.cells
width_option None block away held = refl
width_option (Some second) block away held = length-set held.planned.hold.cells second.position (beside second block (cell_at held.planned.hold.cells second.position))

pub standing_option : (o : Option Second) (block : List ℕ) (away : Bool) (held : Held) → AreAlone held.planned.hold.cells → IsSoundBeside held away o → (i : ℕ) → (cell_at (with_second o block away held).planned.hold.cells i).standing ≡ (cell_at held.planned.hold.cells i).standing
standing_option None block away held alone sound i = refl
standing_option (Some second) block away held alone sound i = standing second block held.planned.hold alone (twin_by held away second block sound) i

pub errors_option : (o : Option Second) (block : List ℕ) (away : Bool) (held : Held) → AreAlone held.planned.hold.cells → IsSoundBeside held away o → (i : ℕ) → is_in_error (cell_at (with_second o block away held).planned.hold.cells i) ≡ is_in_error (cell_at held.planned.hold.cells i)
errors_option None block away held alone sound i = refl
errors_option (Some second) block away held alone sound i = errors_at second block held.planned.hold alone (twin_by held away second block sound) i

-- ---- what is known

known_at : (second : Second) (block : List ℕ) (away : Bool) (held : Held) → AreAlone held.planned.hold.cells → (sound : IsSecondSound held away second) → (i : ℕ) (b : List ℕ) →
    (((cell_at held.planned.hold.cells i).reading ≡ Known b) → (cell_at (cells_beside second block held.planned.hold.cells) i).reading ≡ Known b)
    × (((cell_at (cells_beside second block held.planned.hold.cells) i).reading ≡ Known b) → (cell_at held.planned.hold.cells i).reading ≡ Known b)
known_at second block away held alone sound i b =
    let twin = twin_by held away second block sound in
    elim (cases_eq i second.position) [
      | inl same ↦
          let at : cell_at (cells_beside second block held.planned.hold.cells) i ≡ beside second block (cell_at held.planned.hold.cells i) =
          subst (λ (j : ℕ). cell_at (cells_beside second block held.planned.hold.cells) j ≡ beside second block (cell_at held.planned.hold.cells j)) (sym same) (here second block held.planned.hold alone twin) in (
            (λ e. ap (λ (c : Cell). c.reading) at ∙ known_recalled second.recalled (cell_at held.planned.hold.cells i).reading b e),
            (λ e. recalled_known second.recalled (cell_at held.planned.hold.cells i).reading b (ap (λ (c : Cell). c.reading) (sym at) ∙ e)),
          )
      | inr apart ↦
          let at = other second block held.planned.hold alone twin i apart in
          ((λ e. ap (λ (c : Cell). c.reading) at ∙ e), λ e. ap (λ (c : Cell). c.reading) (sym at) ∙ e)
    ]

pub known_option : (o : Option Second) (block : List ℕ) (away : Bool) (held : Held) → AreAlone held.planned.hold.cells → IsSoundBeside held away o → (i : ℕ) (b : List ℕ) → IsKnownAs (cell_at held.planned.hold.cells i) b → IsKnownAs (cell_at (with_second o block away held).planned.hold.cells i) b
known_option None block away held alone sound i b e = e
known_option (Some second) block away held alone sound i b e = (known_at second block away held alone sound i b).0 e

pub unknown_option : (o : Option Second) (block : List ℕ) (away : Bool) (held : Held) → AreAlone held.planned.hold.cells → IsSoundBeside held away o → (i : ℕ) → IsUnknown (cell_at held.planned.hold.cells i) → IsUnknown (cell_at (with_second o block away held).planned.hold.cells i)
unknown_option None block away held alone sound i none = none
unknown_option (Some second) block away held alone sound i none = λ b e. none b ((known_at second block away held alone sound i b).1 e)

-- ---- answers

pub answered_option : (o : Option Second) (block : List ℕ) (away : Bool) (held : Held) → AreAlone held.planned.hold.cells → IsSoundBeside held away o → (i : ℕ) (given : List ℕ) → with_second o block away (answered held i given) ≡ answered (with_second o block away held) i given
answered_option None block away held alone sound i given = refl
answered_option (Some second) block away held alone sound i given = answered_both second block away held alone sound i given

pub failed_option : (o : Option Second) (block : List ℕ) (away : Bool) (held : Held) → AreAlone held.planned.hold.cells → IsSoundBeside held away o → (i : ℕ) → with_second o block away (failed held i) ≡ failed (with_second o block away held) i
failed_option None block away held alone sound i = refl
failed_option (Some second) block away held alone sound i = failed_both second block away held alone sound i

pub closed_option : (o : Option Second) (block : List ℕ) (away : Bool) (held : Held) → with_second o block away (closed held) ≡ closed (with_second o block away held)
closed_option None block away held = refl
closed_option (Some second) block away held = refl

pub sound_closed : (o : Option Second) (away : Bool) (held : Held) → IsSoundBeside held away o → IsSoundBeside (closed held) away o
sound_closed None away held sound = sound
sound_closed (Some second) away held sound = sound_still held (closed held) away second refl refl refl sound

pub sound_class : (o : Option Second) (away : Bool) (held : Held) (class : Option RowClass) → IsSoundBeside held away o → IsSoundBeside (record held { class = class }) away o
sound_class None away held class sound = sound
sound_class (Some second) away held class sound = sound_still held (record held { class = class }) away second refl refl refl sound

pub with_class : (o : Option Second) (block : List ℕ) (away : Bool) (held : Held) (class : Option RowClass) → with_second o block away (record held { class = class }) ≡ record (with_second o block away held) { class = class }
with_class None block away held class = refl
with_class (Some second) block away held class = refl

pub class_after : (o : Option Second) (block : List ℕ) (away : Bool) (held : Held) → AreAlone held.planned.hold.cells → IsSoundBeside held away o → (old class : Option RowClass) → IsClassAfter held.planned.hold old class → IsClassAfter (with_second o block away held).planned.hold old class
class_after None block away held alone sound old class after = after
class_after (Some second) block away held alone sound old class after = class_both second block held.planned alone (twin_by held away second block sound) old class after

-- ---- the second device after an answer

other_away : (away : List Bool) (i j : ℕ) (gone : Bool) → j ≢ i → get_or (set away i gone) j false ≡ get_or away j false
other_away away i j gone apart = get_or-set_other away i j gone false apart

-- its own position is answered
sound_changed : (old new : Held) (away : Bool) (second : Second) → length new.planned.hold.cells ≡ length old.planned.hold.cells → (cell_at new.planned.hold.cells second.position).standing ≡ (cell_at old.planned.hold.cells second.position).standing →
    ((cell_at new.planned.hold.cells second.position).writing ≡ (cell_at old.planned.hold.cells second.position).writing) ⊎ (((cell_at old.planned.hold.cells second.position).writing ≡ Sent) × ((cell_at new.planned.hold.cells second.position).writing ≡ Confirmed)) →
    (second.recalled ≡ true → (cell_at new.planned.hold.cells second.position).standing ≢ Out → ⊥) → IsSecondSound old away second → IsSecondSound new away second
sound_changed old new away second wide same writes unrecalled sound = record {
  within = omega (arith, sound.within, wide);
  untargeted = sound.untargeted;
  beside_one = λ is. same ∙ sound.beside_one is;
  follows = λ is. by_follows (sound.follows is) writes;
  early = λ is. by_early (sound.early is) writes;
  owed = sound.owed;
  over = sound.over;
  computed = λ u f. by_computed (sound.computed u f) writes;
  following_home = sound.following_home;
  ready_home = sound.ready_home;
  confirmed_home = sound.confirmed_home;
  alone = sound.alone;
  recalled = λ is live. absurd (unrecalled is live);
}
  where
    was : Writing
    was = (cell_at old.planned.hold.cells second.position).writing

    now : Writing
    now = (cell_at new.planned.hold.cells second.position).writing

    by_follows : (second.copy ≡ copy.Following) ⊎ (was ≡ Sent) ⊎ (was ≡ Confirmed) → (now ≡ was) ⊎ ((was ≡ Sent) × (now ≡ Confirmed)) → (second.copy ≡ copy.Following) ⊎ (now ≡ Sent) ⊎ (now ≡ Confirmed)
    by_follows (inl f) w = inl f
    by_follows (inr (inl e)) (inl w) = inr (inl (w ∙ e))
    by_follows (inr (inr e)) (inl w) = inr (inr (w ∙ e))
    by_follows (inr (inl e)) (inr w) = inr (inr w.1)
    by_follows (inr (inr e)) (inr w) = inr (inr w.1)

    by_early : (was ≢ Sent) × (was ≢ Confirmed) → (now ≡ was) ⊎ ((was ≡ Sent) × (now ≡ Confirmed)) → (now ≢ Sent) × (now ≢ Confirmed)
    by_early h (inl w) = ((λ e. h.0 (sym w ∙ e)), λ e. h.1 (sym w ∙ e))
    by_early h (inr w) = absurd (h.0 w.0)

    by_computed : was ≢ Unwritten → (now ≡ was) ⊎ ((was ≡ Sent) × (now ≡ Confirmed)) → now ≢ Unwritten
    by_computed h (inl w) = λ e. h (sym w ∙ e)
    by_computed h (inr w) = λ e. let f = sym w.1 ∙ e in cc

pub sound_answered : (o : Option Second) (away : Bool) (held : Held) (i : ℕ) (given : List ℕ) → i < length held.planned.hold.cells → is_away held i ≡ true → IsSoundBeside held away o → IsSoundBeside (answered held i given) away o
sound_answered None away held i given inside gone sound = sound
sound_answered (Some second) away held i given inside gone sound = by_tests (is_out (cell_at cells i).standing) (is_sent (cell_at cells i).writing) (is_fixing (cell_at cells i).reading) refl
  where
    cells : List Cell
    cells = held.planned.hold.cells

    with_cells : List Cell → Held
    with_cells cs = record held { planned = record held.planned { hold = record held.planned.hold { cells = cs } }; away = set held.away i false }

    live : i ≡ second.position → (cell : Cell) → second.recalled ≡ true → (cell_at (set cells i cell) second.position).standing ≢ Out → cell.standing ≡ (cell_at cells i).standing → ⊥
    live same cell is stands keeps =
        let h = sound.recalled is (λ e. stands (subst (λ (j : ℕ). (cell_at (set cells i cell) j).standing ≡ Out) same (ap (λ (c : Cell). c.standing) (get_or-set_same cells i cell no_cell inside) ∙ keeps ∙ subst (λ (j : ℕ). (cell_at cells j).standing ≡ Out) (sym same) e))) in
        let f : is_away held second.position ≡ true = subst (λ (j : ℕ). is_away held j ≡ true) same gone in
        let g = sym f ∙ h.3 in cc

    one : (cell : Cell) → cell.standing ≡ (cell_at cells i).standing → (cell.writing ≡ (cell_at cells i).writing) ⊎ (((cell_at cells i).writing ≡ Sent) × (cell.writing ≡ Confirmed)) → IsSecondSound (with_cells (set cells i cell)) away second
    one cell keeps writes =
        elim (cases_eq second.position i) [
          | inl same ↦
              let at : cell_at (set cells i cell) second.position ≡ cell = subst (λ (j : ℕ). cell_at (set cells i cell) j ≡ cell) (sym same) (get_or-set_same cells i cell no_cell inside) in
              let was : cell_at cells i ≡ cell_at cells second.position = ap (cell_at cells) (sym same) in
              sound_changed held (with_cells (set cells i cell)) away second (length-set cells i cell)
              (ap (λ (c : Cell). c.standing) at ∙ keeps ∙ ap (λ (c : Cell). c.standing) was)
              (elim writes [
                | inl e ↦ inl (ap (λ (c : Cell). c.writing) at ∙ e ∙ ap (λ (c : Cell). c.writing) was)
                | inr e ↦ inr (ap (λ (c : Cell). c.writing) (sym was) ∙ e.0, ap (λ (c : Cell). c.writing) at ∙ e.1)
              ])
              (λ is stands. live (sym same) cell is stands keeps) sound
          | inr apart ↦ sound_still held (with_cells (set cells i cell)) away second (length-set cells i cell) (get_or-set_other cells i second.position cell no_cell apart) (other_away held.away i second.position false apart) sound
        ]

    same_cells : IsSecondSound (with_cells cells) away second
    same_cells =
        elim (cases_eq second.position i) [
          | inl same ↦
              sound_changed held (with_cells cells) away second refl refl (inl refl)
              (λ is stands.
              let h = sound.recalled is stands in
              let f : is_away held second.position ≡ true = subst (λ (j : ℕ). is_away held j ≡ true) (sym same) gone in
              let g = sym f ∙ h.3 in cc) sound
          | inr apart ↦ sound_still held (with_cells cells) away second refl refl (other_away held.away i second.position false apart) sound
        ]

    by_tests : (out put fix : Bool) → is_sent (cell_at cells i).writing ≡ put →
        IsSecondSound (record held { planned = if out then held.planned else (if put then planned_after held.planned (Confirms i) else (if fix then planned_after held.planned (Mends i) else planned_after held.planned (Gives i given))); away = set held.away i false }) away second
    by_tests true put fix is = same_cells
    by_tests false true fix is = one (record (cell_at cells i) { writing = Confirmed }) refl (inr (sent_is (cell_at cells i).writing is, refl))
    by_tests false false true is = one (record (cell_at cells i) { reading = Fixed }) refl (inl refl)
    by_tests false false false is = one (record (cell_at cells i) { reading = Known given }) refl (inl refl)

-- the read of a position met an error
pub sound_failed : (o : Option Second) (away : Bool) (held : Held) (i : ℕ) → i < length held.planned.hold.cells → is_away held i ≡ true → IsSoundBeside held away o → IsSoundBeside (failed held i) away o
sound_failed None away held i inside gone sound = sound
sound_failed (Some second) away held i inside gone sound =
    let cells : List Cell = held.planned.hold.cells in
    let cell : Cell = record (cell_at cells i) { reading = Unreadable } in
    elim (cases_eq second.position i) [
      | inl same ↦
          let at : cell_at (set cells i cell) second.position ≡ cell = subst (λ (j : ℕ). cell_at (set cells i cell) j ≡ cell) (sym same) (get_or-set_same cells i cell no_cell inside) in
          let was : cell_at cells i ≡ cell_at cells second.position = ap (cell_at cells) (sym same) in
          sound_changed held (failed held i) away second (length-set cells i cell) (ap (λ (c : Cell). c.standing) at ∙ ap (λ (c : Cell). c.standing) was) (inl (ap (λ (c : Cell). c.writing) at ∙ ap (λ (c : Cell). c.writing) was))
          (λ is stands.
          let h = sound.recalled is (λ e. stands (ap (λ (c : Cell). c.standing) at ∙ ap (λ (c : Cell). c.standing) was ∙ e)) in
          let f : is_away held second.position ≡ true = subst (λ (j : ℕ). is_away held j ≡ true) (sym same) gone in
          let g = sym f ∙ h.3 in cc) sound
      | inr apart ↦ sound_still held (failed held i) away second (length-set cells i cell) (get_or-set_other cells i second.position cell no_cell apart) (other_away held.away i second.position false apart) sound
    ]

pub answered_size : (held : Held) (i : ℕ) (given : List ℕ) → (answered held i given).planned.hold.size ≡ held.planned.hold.size
answered_size held i given = by_tests (is_out (cell_at held.planned.hold.cells i).standing) (is_sent (cell_at held.planned.hold.cells i).writing) (is_fixing (cell_at held.planned.hold.cells i).reading)
  where
    by_tests : (out put fix : Bool) → (if out then held.planned else (if put then planned_after held.planned (Confirms i) else (if fix then planned_after held.planned (Mends i) else planned_after held.planned (Gives i given)))).hold.size ≡ held.planned.hold.size
    by_tests true put fix = refl
    by_tests false true fix = refl
    by_tests false false true = refl
    by_tests false false false = refl

-- a first read that is put out is, without the second device too
asked_recalled : (out : Bool) (b : Bool) (r : Reading) → (not out && plans.is_asked (recalled_if b r)) ≡ true → (not out && plans.is_asked r) ≡ true
asked_recalled out false r e = e
asked_recalled true true r e = absurd cc
asked_recalled false true Unread e = e
asked_recalled false true Recalled e = e
asked_recalled false true Asked e = refl
asked_recalled false true Unreadable e = e
asked_recalled false true Fixing e = e
asked_recalled false true Fixed e = e
asked_recalled false true AskedAgain e = e
asked_recalled false true (Known block) e = e
asked_recalled false true Replaced e = e

pub read_out_option : (o : Option Second) (block : List ℕ) (away : Bool) (held : Held) → AreAlone held.planned.hold.cells → IsSoundBeside held away o → (i : ℕ) → is_read_out (cell_at (with_second o block away held).planned.hold.cells i) ≡ true
    → is_read_out (cell_at held.planned.hold.cells i) ≡ true
read_out_option None block away held alone sound i e = e
read_out_option (Some second) block away held alone sound i e =
    let twin = twin_by held away second block sound in
    elim (cases_eq i second.position) [
      | inl same ↦
          let at : cell_at (cells_beside second block held.planned.hold.cells) i ≡ beside second block (cell_at held.planned.hold.cells i) =
          subst (λ (j : ℕ). cell_at (cells_beside second block held.planned.hold.cells) j ≡ beside second block (cell_at held.planned.hold.cells j)) (sym same) (here second block held.planned.hold alone twin) in
          asked_recalled (is_out (cell_at held.planned.hold.cells i).standing) second.recalled (cell_at held.planned.hold.cells i).reading
          (ap (λ (c : Cell). not (is_out c.standing) && plans.is_asked c.reading) (sym at) ∙ e)
      | inr apart ↦ ap (λ (c : Cell). not (is_out c.standing) && plans.is_asked c.reading) (sym (other second block held.planned.hold alone twin i apart)) ∙ e
    ]
