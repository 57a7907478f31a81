-- What stays true of a second device as the hold goes on.
use Rattle.std.proofs.Common.{◌≡◌, ◌≢◌, ◌⊎◌, inl, inr, Bool, true, false, ℕ, ◌<◌, List, length, refl, sym, ◌∙◌, ap, subst, arith, Option, Some, None}
use Rattle.std.specs.Prelude.{◌&&◌, ◌||◌, not}
use Rattle.std.proofs.lemmas.Bool.{cases_eq}
use Rattle.std.proofs.lemmas.List.{get_or-set_other, get_or-set_same}
use Rattle.r6_recover.specs.Rows.{block_at, data_of, row_of}
use Rattle.r6_recover.specs.declared.class.RowClass.{RowClass}
use Rattle.r6_stripe.specs.Checks.{IsClassed, IsClassAfter, IsClassIf, IsClassRead, is_read_whole, may_have_class, is_wrong}
use Rattle.r6_stripe.specs.Holds.{Reading, Writing, Cell, Hold, cell_at, no_cell, all_known, wants_all, moved, read_again, reading_after, passed}
use Rattle.r6_stripe.specs.Holds.Standing.{InSync, Out}
use Rattle.r6_stripe.specs.Holds.Reading.{Known}
use Rattle.r6_stripe.specs.Holds.Writing.{Unwritten, Ready, Sent, Confirmed}
use Rattle.r6_stripe.specs.Places.{reading_of, standing_of}
use Rattle.r6_stripe.specs.Plans.{Planned, known_row, same_block}
use Rattle.r6_stripe.specs.Seconds.{IsSecondSound, anew, beside, cells_beside, copying_of, doubling_of, is_recalled_by, passed_on, recalled_if}
use Rattle.r6_stripe.specs.Steps.{Held}
use Rattle.r6_stripe.specs.declared.place.ReadState.{ReadState}
use Rattle.r6_stripe.specs.declared.place.ReadState.TheVariants as read
use Rattle.r6_stripe.specs.declared.place.Standing.TheVariants as state
use Rattle.r6_stripe.specs.declared.second.CopyState.TheVariants as copy
use Rattle.r6_stripe.specs.declared.second.Doubling.{Doubling as DoublingState}
use Rattle.r6_stripe.specs.declared.second.Doubling.TheVariants as doubling
use Rattle.r6_stripe.specs.declared.second.Second.{Second}
use Rattle.r6_stripe.proofs.Alone.{AreAlone}
use Rattle.r6_stripe.proofs.Beside.{IsTwin, IsUnrecalled, all_known_same, known_recalled, width}
use Rattle.r6_stripe.proofs.BesideSteps.{IsAfter, IsGoing, IsSteady, planned_both, twin}

pub steady_of : (held : Held) (away : Bool) (second : Second) → IsSecondSound held away second → IsSteady second (cell_at held.planned.hold.cells second.position).writing
steady_of held away second sound = record { untargeted = sound.untargeted; follows = sound.follows; over = sound.over; computed = sound.computed }

pub going_of : (held : Held) (away : Bool) (second : Second) → AreAlone held.planned.hold.cells → IsSecondSound held away second → IsUnrecalled second (cell_at held.planned.hold.cells second.position) → IsGoing second held.planned
going_of held away second alone sound unrecalled = record { alone = alone; inside = sound.within; steady = steady_of held away second sound; unrecalled = unrecalled }

-- the position as it goes on without a command of its own
pub sound_after : (old new : Held) (away : Bool) (second : Second) → second.position < length new.planned.hold.cells → IsAfter (cell_at old.planned.hold.cells second.position) (cell_at new.planned.hold.cells second.position) →
    (second.recalled ≡ true → (cell_at new.planned.hold.cells second.position).standing ≢ Out → ⊥) → IsSecondSound old away second → IsSecondSound new away second
sound_after old new away second inside after unrecalled sound = record {
  within = inside;
  untargeted = sound.untargeted;
  beside_one = λ is. after.standing ∙ sound.beside_one is;
  follows = λ is. by_follows (sound.follows is) after.writing;
  early = λ is. by_early (sound.early is) after.writing;
  owed = sound.owed;
  over = sound.over;
  computed = λ u f. by_computed (sound.computed u f) after.writing;
  following_home = sound.following_home;
  ready_home = sound.ready_home;
  confirmed_home = sound.confirmed_home;
  alone = sound.alone;
  recalled = λ is live. absurd (unrecalled is live);
}
  where
    was : Writing
    was = (cell_at old.planned.hold.cells second.position).writing

    now : Writing
    now = (cell_at new.planned.hold.cells second.position).writing

    by_follows : (second.copy ≡ copy.Following) ⊎ (was ≡ Sent) ⊎ (was ≡ Confirmed) → (now ≡ was) ⊎ ((was ≡ Unwritten) × ((put : List ℕ) × (now ≡ Ready put))) → (second.copy ≡ copy.Following) ⊎ (now ≡ Sent) ⊎ (now ≡ Confirmed)
    by_follows (inl f) w = inl f
    by_follows (inr (inl e)) (inl w) = inr (inl (w ∙ e))
    by_follows (inr (inr e)) (inl w) = inr (inr (w ∙ e))
    by_follows (inr (inl e)) (inr w) = absurd (let f = sym w.0 ∙ e in cc)
    by_follows (inr (inr e)) (inr w) = absurd (let f = sym w.0 ∙ e in cc)

    by_early : (was ≢ Sent) × (was ≢ Confirmed) → (now ≡ was) ⊎ ((was ≡ Unwritten) × ((put : List ℕ) × (now ≡ Ready put))) → (now ≢ Sent) × (now ≢ Confirmed)
    by_early h (inl w) = ((λ e. h.0 (sym w ∙ e)), λ e. h.1 (sym w ∙ e))
    by_early h (inr w) = ((λ e. let f = sym w.1.1 ∙ e in cc), λ e. let f = sym w.1.1 ∙ e in cc)

    by_computed : was ≢ Unwritten → (now ≡ was) ⊎ ((was ≡ Unwritten) × ((put : List ℕ) × (now ≡ Ready put))) → now ≢ Unwritten
    by_computed h (inl w) = λ e. h (sym w ∙ e)
    by_computed h (inr w) = λ e. let f = sym w.1.1 ∙ e in cc

-- the write of the position itself left
pub sound_sent : (new : Held) (away : Bool) (second : Second) → second.position < length new.planned.hold.cells → (cell_at new.planned.hold.cells second.position).writing ≡ Sent → (second.state ≡ state.InSync → (cell_at new.planned.hold.cells second.position).standing ≡ InSync) →
    second.state ≢ state.Target → second.copy ≢ copy.Following → (second.state ≡ state.InSync → second.copy ≢ copy.Unwritten) → (second.copy ≡ copy.Ready → away ≡ false) → second.copy ≢ copy.Confirmed → second.recalled ≡ false → IsSecondSound new away second
sound_sent new away second inside sent beside_one untargeted apart owed home unconfirmed unrecalled = record {
  within = inside;
  untargeted = untargeted;
  beside_one = beside_one;
  follows = λ is. inr (inl sent);
  early = λ is. absurd (apart is);
  owed = owed;
  over = λ is. apart;
  computed = λ u f e. let g = sym sent ∙ e in cc;
  following_home = λ is. absurd (apart is);
  ready_home = home;
  confirmed_home = λ is. absurd (unconfirmed is);
  alone = λ is. absurd (let e = sym unrecalled ∙ is in cc);
  recalled = λ is live. absurd (let e = sym unrecalled ∙ is in cc);
}

-- ---- classes

pub classed_same : (old new : Hold) (class : Option RowClass) → new.kind ≡ old.kind → new.size ≡ old.size → new.cut_short ≡ old.cut_short → new.met_error ≡ old.met_error → length new.cells ≡ length old.cells → known_row new.cells ≡ known_row old.cells →
    all_known new.cells ≡ all_known old.cells → ((j : ℕ) → (cell_at new.cells j).writing ≡ Unwritten → (cell_at old.cells j).writing ≡ Unwritten) → IsClassed old class → IsClassed new class
classed_same old new None kind size cut met wide row known writes classed = (λ k. wants_all (kind k) && (not (cut k || met k) && known k)) ∙ classed
classed_same old new (Some c) kind size cut met wide row known writes classed = (
  ap may_have_class kind ∙ classed.0,
  known ∙ classed.1,
  λ j parity inside unwritten.
      (λ k. not (same_block (block_at (row_of (size k) (data_of (row k))) j) (block_at (row k) j)))
      ∙ classed.2 j (omega (arith, parity, wide)) (omega (arith, inside, wide)) (writes j unwritten)
      ∙ ap (λ (n : ℕ). is_wrong c n j) (sym wide),
)

-- the class that is found is that of the row with its second device
pub class_both : (second : Second) (block : List ℕ) (planned : Planned) → (alone : AreAlone planned.hold.cells) → IsTwin second block planned.hold → (old class : Option RowClass) → IsClassAfter planned.hold old class → IsClassAfter (planned_both second block planned).hold old class
class_both second block planned alone twin (Some c) class after = after
class_both second block planned alone twin None class after =
    by_whole (is_read_whole planned.hold) (λ k. wants_all planned.hold.kind && (not (planned.hold.cut_short || planned.hold.met_error) && all_known_same second block planned.hold alone twin k)) after
  where
    hold : Hold
    hold = planned.hold

    two : Cell
    two = beside second block (cell_at planned.hold.cells second.position)

    known_at : (j : ℕ) (b : List ℕ) → (cell_at planned.hold.cells j).reading ≡ Known b → (cell_at (cells_beside second block planned.hold.cells) j).reading ≡ Known b
    known_at j b e =
        elim (cases_eq j second.position) [
          | inl same ↦
              subst (λ (i : ℕ). (cell_at (cells_beside second block planned.hold.cells) i).reading ≡ Known b) (sym same)
              (ap (λ (c : Cell). c.reading) (get_or-set_same planned.hold.cells second.position two no_cell twin.inside)
              ∙ known_recalled second.recalled (cell_at planned.hold.cells second.position).reading b (subst (λ (i : ℕ). (cell_at planned.hold.cells i).reading ≡ Known b) same e))
          | inr apart ↦ ap (λ (c : Cell). c.reading) (get_or-set_other planned.hold.cells second.position j two no_cell apart) ∙ e
        ]

    class_read : (c : RowClass) → IsClassRead planned.hold.cells c → IsClassRead (cells_beside second block planned.hold.cells) c
    class_read c is =
        let wide = width second block planned.hold alone twin in
        (is.0, is.1 ∙ sym wide, (λ j inside. known_at j (block_at is.0 j) (is.2 j (omega (arith, inside, wide)))), is.3)

    by_whole : (b : Bool) → is_read_whole (planned_both second block planned).hold ≡ b → IsClassIf b planned.hold.cells class → IsClassIf (is_read_whole (planned_both second block planned).hold) (cells_beside second block planned.hold.cells) class
    by_whole true e is = subst (λ (b : Bool). IsClassIf b (cells_beside second block planned.hold.cells) class) (sym e) (is.0, is.1, class_read is.0 is.2)
    by_whole false e is = subst (λ (b : Bool). IsClassIf b (cells_beside second block planned.hold.cells) class) (sym e) is

-- ---- the second device has the first one's place

pub recalled_anew : (r : ReadState) (block other : List ℕ) → (r ≡ read.Known → other ≡ block) → recalled_if (is_recalled_by r) (reading_of (anew r) other) ≡ read_again (reading_of r block)
recalled_anew read.Unread block other same = refl
recalled_anew read.Asked block other same = refl
recalled_anew read.Unreadable block other same = refl
recalled_anew read.Fixing block other same = refl
recalled_anew read.Fixed block other same = refl
recalled_anew read.AskedAgain block other same = refl
recalled_anew read.Known block other same = ap Known (same refl)
recalled_anew read.Replaced block other same = refl

passed_same : (d : DoublingState) → doubling_of (passed_on d) ≡ passed (doubling_of d)
passed_same doubling.Single = refl
passed_same doubling.Doubled = refl
passed_same doubling.Passed = refl

-- the position then, by its own read and write and by those of its second device
pub moved_both : (second : Second) (block given : List ℕ) (cell : Cell) (reading : Reading) (writing : Writing) (recalled : Bool) → second.state ≡ state.InSync → second.recalled ≡ false → recalled_if recalled reading ≡ read_again cell.reading → writing ≡ copying_of second.copy cell.writing block →
    beside (record second { state = state.Out; copy = copy.Unwritten; doubling = passed_on second.doubling; recalled = recalled }) given (record no_cell { standing = InSync; reading = reading; writing = writing })
    ≡ moved (beside second block cell)
moved_both second block given cell reading writing recalled in_sync unrecalled reads writes =
    (λ k. record no_cell { standing = InSync; reading = reads k; writing = writes k; doubling = passed_same second.doubling k })
    ∙ (λ k. record no_cell {
      standing = standing_of (sym in_sync k);
      reading = reading_after (standing_of (sym in_sync k)) (recalled_if (sym unrecalled k) cell.reading);
      writing = copying_of second.copy cell.writing block;
      doubling = passed (doubling_of second.doubling);
    })
