-- A row's hold with its second device, by its fields.
use Rattle.std.proofs.Common.{◌≡◌, ◌≢◌, ◌⊎◌, inl, inr, Bool, true, false, ℕ, ◌<◌, List, [], length, get_or, set, refl, sym, ◌∙◌, ap, subst, arith, Some}
use Rattle.std.specs.Prelude.{◌&&◌, not, if◌then◌else◌}
use Rattle.std.proofs.lemmas.Bool.{and_parts, cases_eq, cases_lt, or_parts}
use Rattle.std.proofs.lemmas.List.{get_or-set_other, get_or-set_same, length-map, length-set}
use Rattle.r6_stripe.specs.Checks.{IsClassed}
use Rattle.r6_stripe.specs.Holds as holds
use Rattle.r6_stripe.specs.Holds.{Cell, Doubling, Hold, Reading, Writing, cell_at, is_known, no_cell, read_again}
use Rattle.r6_stripe.specs.Places.{cell_of, has_met, is_read_out, no_place, reading_of, standing_of, was_asked, writing_of}
use Rattle.r6_stripe.specs.Plans.{has_asked, has_asked_again, has_computed, has_read_out, is_asked, is_enough, is_in_sync, is_out, is_unwritten, known_block}
use Rattle.r6_stripe.specs.RowViews.{IsRowSound, row_of_state}
use Rattle.r6_stripe.specs.Seconds.{IsSecondSound, IsSoundBeside, anew, beside, copying_of, handed, is_following, is_kept, is_recalled_by, lost_second, moved_second, recalled_if, with_second, write_of}
use Rattle.r6_stripe.specs.Sound.{IsPlaceSound}
use Rattle.r6_stripe.specs.Steps.{Held, asked, is_away, lost, taken_over}
use Rattle.r6_stripe.specs.Views.{held_of, hold_of, plan_of}
use Rattle.r6_stripe.specs.declared.place.PositionState.{PositionState}
use Rattle.r6_stripe.specs.declared.place.ReadState.{ReadState}
use Rattle.r6_stripe.specs.declared.place.ReadState.TheVariants as read
use Rattle.r6_stripe.specs.declared.place.Standing.{Standing}
use Rattle.r6_stripe.specs.declared.place.Standing.TheVariants as state
use Rattle.r6_stripe.specs.declared.place.WriteState.{WriteState}
use Rattle.r6_stripe.specs.declared.place.WriteState.TheVariants as write
use Rattle.r6_stripe.specs.declared.row.RowState.{RowState}
use Rattle.r6_stripe.specs.declared.second.CopyState.{CopyState}
use Rattle.r6_stripe.specs.declared.second.CopyState.TheVariants as copy
use Rattle.r6_stripe.specs.declared.second.Second.{Second}
use Rattle.r6_stripe.specs.declared.state.HoldState.{HoldState}
use Rattle.r6_stripe.proofs.Alone.{cells_alone, computed_alone}
use Rattle.r6_stripe.proofs.Beside.{all_set, row_set}
use Rattle.r6_stripe.proofs.BesideAnswers.{lost_both, lost_other}
use Rattle.r6_stripe.proofs.BesideLosses.{lost_apart, lost_copying, lost_sound, sound_some}
use Rattle.r6_stripe.proofs.BesideRecalled.{IsRecalled, is_recalled_by as recalls}
use Rattle.r6_stripe.proofs.BesideSound.{classed_same, going_of, recalled_anew}
use Rattle.r6_stripe.proofs.BesideSteps.{IsGoing}
use Rattle.r6_stripe.proofs.BesideTaken.{taken_both, taken_sound, write_handed}
use Rattle.r6_stripe.proofs.Checks.{sync_only}
use Rattle.r6_stripe.proofs.Handed.{none_asked}
use Rattle.r6_stripe.proofs.Nexts.{read_parts}
use Rattle.r6_stripe.proofs.Places.{any_default, any_each, any_false, cell_at-cells_of, cell_past, length-cells_of}
use Rattle.r6_stripe.proofs.States.{asked_only, away_at, there, unwritten_only}
use Rattle.r6_stripe.proofs.WritesLeft.{at_set}
use Rattle.r6_stripe.proofs.Events.{same_reading}

-- ---- whether a read is recalled

unrecalled : (second : Second) (st : holds.Standing) → (b : Bool) → second.recalled ≡ b → (b && is_in_sync st) ≡ false → (st ≢ holds.Standing.Out → st ≡ holds.Standing.InSync) → b ≡ true → is_out st ≡ true
unrecalled second holds.Standing.InSync true is e in_sync h = absurd cc
unrecalled second holds.Standing.Target true is e in_sync h = absurd (let f = in_sync (λ g. cc) in cc)
unrecalled second holds.Standing.Out true is e in_sync h = refl
unrecalled second st false is e in_sync h = absurd cc

-- nothing is, unless the position is out
pub going_row : (row : RowState) (second : Second) → (sound : IsSecondSound (held_of row.hold) row.spare_away second) → (second.recalled && is_in_sync (cell_at (hold_of row.hold).cells second.position).standing) ≡ false → IsGoing second (held_of row.hold).planned
going_row row second sound off =
    going_of (held_of row.hold) row.spare_away second (cells_alone row.hold.places row.hold.blocks.items) sound
    (λ is. unrecalled second (cell_at (hold_of row.hold).cells second.position).standing second.recalled refl off (λ live. (sound.recalled is live).0) is)

pub seen_is : (row : RowState) (second : Second) → row.second ≡ Some second → with_second (Some second) row.spare row.spare_away (held_of row.hold) ≡ row_of_state row
seen_is row second is = λ k. with_second (sym is k) row.spare row.spare_away (held_of row.hold)

-- ---- the cells of the row

pub single_at : (s : HoldState) (i : ℕ) → (cell_at (hold_of s).cells i).doubling ≡ Doubling.Single
single_at s i =
    elim (cases_lt i (length s.places)) [
      | inl below ↦ ap (λ (c : Cell). c.doubling) (cell_at-cells_of s.places s.blocks.items i no_place below)
      | inr past ↦ ap (λ (c : Cell). c.doubling) (cell_past s.places s.blocks.items i past)
    ]

pub other_at : (row : RowState) (second : Second) → row.second ≡ Some second → (i : ℕ) → i ≢ second.position → cell_at (row_of_state row).planned.hold.cells i ≡ cell_at (hold_of row.hold).cells i
other_at row second is i apart =
    ap (λ (h : Held). cell_at h.planned.hold.cells i) (sym (seen_is row second is))
    ∙ get_or-set_other (hold_of row.hold).cells second.position i (beside second row.spare (cell_at (hold_of row.hold).cells second.position)) no_cell apart

-- a first read is out just if it is without the second device, where none is recalled
pub read_out_at : (row : RowState) (second : Second) → IsRowSound row → row.second ≡ Some second → second.recalled ≡ false → (i : ℕ) → is_read_out (cell_at (row_of_state row).planned.hold.cells i) ≡ is_read_out (cell_at (hold_of row.hold).cells i)
read_out_at row second sound is unrecalled i =
    ap (λ (h : Held). is_read_out (cell_at h.planned.hold.cells i)) (sym (seen_is row second is))
    ∙ at_set is_read_out (hold_of row.hold).cells second.position (beside second row.spare (cell_at (hold_of row.hold).cells second.position))
    (ap (λ (b : Bool). not (is_out (cell_at (hold_of row.hold).cells second.position).standing) && is_asked (recalled_if b (cell_at (hold_of row.hold).cells second.position).reading)) unrecalled) i

-- ---- the class of a row one position of which has another device

anew_block : (r : ReadState) (block : List ℕ) → known_block (reading_of (anew r) block) ≡ known_block (reading_of r block)
anew_block read.Unread block = refl
anew_block read.Asked block = refl
anew_block read.Unreadable block = refl
anew_block read.Fixing block = refl
anew_block read.Fixed block = refl
anew_block read.AskedAgain block = refl
anew_block read.Known block = refl
anew_block read.Replaced block = refl

anew_known : (r : ReadState) (block other : List ℕ) → is_known (reading_of (anew r) block) ≡ is_known (reading_of r other)
anew_known read.Unread block other = refl
anew_known read.Asked block other = refl
anew_known read.Unreadable block other = refl
anew_known read.Fixing block other = refl
anew_known read.Fixed block other = refl
anew_known read.AskedAgain block other = refl
anew_known read.Known block other = refl
anew_known read.Replaced block other = refl

classed_handed : (held : Held) (p : ℕ) (reading : Reading) (writing : Writing) (away : Bool) → p < length held.planned.hold.cells → known_block reading ≡ known_block (cell_at held.planned.hold.cells p).reading →
    is_known reading ≡ is_known (cell_at held.planned.hold.cells p).reading → (writing ≡ Writing.Unwritten → (cell_at held.planned.hold.cells p).writing ≡ Writing.Unwritten) → IsClassed held.planned.hold held.class →
    IsClassed (handed held p reading writing away).planned.hold held.class
classed_handed held p reading writing away inside block known unwritten classed =
    let cells : List Cell = held.planned.hold.cells in
    let other : Cell = record no_cell { standing = holds.Standing.InSync; reading = reading; writing = writing } in
    classed_same held.planned.hold (handed held p reading writing away).planned.hold held.class refl refl refl refl (length-set cells p other) (row_set cells p other block) (all_set cells p other known)
    (λ j e. elim (cases_eq j p) [
      | inl same ↦
          subst (λ (i : ℕ). (cell_at cells i).writing ≡ Writing.Unwritten) (sym same)
          (unwritten (ap (λ (c : Cell). c.writing) (sym (get_or-set_same cells p other no_cell inside)) ∙ subst (λ (i : ℕ). (cell_at (set cells p other) i).writing ≡ Writing.Unwritten) same e))
      | inr apart ↦ ap (λ (c : Cell). c.writing) (sym (get_or-set_other cells p j other no_cell apart)) ∙ e
    ]) classed

-- ---- the place of the position

written_of : (w : WriteState) (block : List ℕ) → (writing_of w block ≡ Writing.Sent) ⊎ (writing_of w block ≡ Writing.Confirmed) → w ≢ write.Unwritten
written_of write.Unwritten block h = absurd (elim h [ inl e ↦ (let f = e in cc) | inr e ↦ (let f = e in cc) ])
written_of write.Ready block h = λ e. cc
written_of write.Sent block h = λ e. cc
written_of write.Confirmed block h = λ e. cc

unknown_asked : (r : ReadState) → was_asked r ≡ true → r ≢ read.Known
unknown_asked read.Known e = absurd cc
unknown_asked read.Unread e = λ f. cc
unknown_asked read.Asked e = λ f. cc
unknown_asked read.Unreadable e = λ f. cc
unknown_asked read.Fixing e = λ f. cc
unknown_asked read.Fixed e = λ f. cc
unknown_asked read.AskedAgain e = λ f. cc
unknown_asked read.Replaced e = λ f. cc

module _ (row : RowState) (second : Second) (row_sound : IsRowSound row) (is : row.second ≡ Some second) where
  abbrev pub place_of : PositionState
  place_of = get_or row.hold.places second.position no_place

  abbrev pub block_of : List ℕ
  block_of = get_or row.hold.blocks.items second.position []

  abbrev cell : Cell
  cell = cell_at (held_of row.hold).planned.hold.cells second.position

  sound : IsSecondSound (held_of row.hold) row.spare_away second
  sound = sound_some row second row_sound is

  pub row_inside : second.position < length row.hold.places
  row_inside = omega (arith, sound.within, length-cells_of row.hold.places row.hold.blocks.items)

  cell_is : cell ≡ cell_of place_of block_of
  cell_is = cell_at-cells_of row.hold.places row.hold.blocks.items second.position no_place row_inside

  pub writing_is : cell.writing ≡ writing_of place_of.write block_of
  writing_is = ap (λ (c : Cell). c.writing) cell_is

  reading_is : cell.reading ≡ reading_of place_of.read block_of
  reading_is = ap (λ (c : Cell). c.reading) cell_is

  here : place_of ≡ get_or row.hold.places second.position place_of
  here = any_default row.hold.places second.position no_place place_of row_inside

  settled : IsPlaceSound place_of
  settled = there (λ k place. IsPlaceSound place) row.hold.places second.position place_of row_inside here row_sound.sound.settled

  -- ---- a read is recalled

  module _ (recalled : second.recalled ≡ true) (live : place_of.state ≢ state.Out) where
    stands : cell.standing ≢ holds.Standing.Out
    stands out = live (out_only place_of.state (ap (λ (c : Cell). c.standing) (sym cell_is) ∙ out))
      where
        out_only : (st : Standing) → standing_of st ≡ holds.Standing.Out → st ≡ state.Out
        out_only state.InSync e = absurd cc
        out_only state.Target e = absurd cc
        out_only state.Out e = refl

    pub recalled_row : IsRecalled second (held_of row.hold)
    recalled_row = recalls (held_of row.hold) row.spare_away second sound recalled stands

    pub recalled_in_sync : place_of.state ≡ state.InSync
    recalled_in_sync = sync_only place_of.state (ap (λ (c : Cell). c.standing) (sym cell_is) ∙ recalled_row.standing)

    pub recalled_asked : place_of.read ≡ read.Asked
    recalled_asked = asked_only place_of.read block_of (ap is_asked (sym reading_is ∙ recalled_row.reading))

    pub recalled_home : place_of.away ≡ false
    recalled_home = sym (away_at row.hold.places second.position row_inside) ∙ (sound.recalled recalled stands).3

    -- no new block was computed
    pub recalled_first : has_computed (hold_of row.hold) ≡ false
    recalled_first =
        computed_alone (hold_of row.hold) (cells_alone row.hold.places row.hold.blocks.items)
        ∙ any_false (λ c. not (is_unwritten c.writing)) (hold_of row.hold).cells (λ j below.
        let inside : j < length row.hold.places = omega (arith, below, length-cells_of row.hold.places row.hold.blocks.items) in
        ap (λ (c : Cell). not (is_unwritten c.writing)) (cell_at-cells_of row.hold.places row.hold.blocks.items j no_place inside)
        ∙ ap (λ (w : WriteState). not (is_unwritten (writing_of w (get_or row.hold.blocks.items j []))))
        (none_asked row.hold row_sound.sound second.position row_inside recalled_in_sync recalled_asked j inside))

    -- reads aren't over
    pub recalled_unprepared : row.hold.prepared ≡ true → ⊥
    recalled_unprepared ready =
        let h : Hold = hold_of row.hold in
        let parts = read_parts (has_read_out h) (is_enough (plan_of row.hold.plan) h) (row_sound.prepared ready).read in
        let asked = (or_parts (has_asked h) (has_asked_again h) parts.0).0 in
        let e = any_each (λ c. not (is_out c.standing) && is_asked c.reading) h.cells asked second.position sound.within in
        let f : true ≡ false = (λ k. not (is_out (sym recalled_row.standing k)) && is_asked (sym recalled_row.reading k)) ∙ e in
        cc

    pub recalled_classed : (n : HoldState) → held_of n ≡ asked (held_of row.hold) second.position → IsClassed (hold_of n) n.class
    recalled_classed n asks =
        let cells : List Cell = (hold_of row.hold).cells in
        let again : Cell = record cell { reading = Reading.Asked } in
        subst (λ (h : Held). IsClassed h.planned.hold h.class) (sym asks)
        (classed_same (hold_of row.hold) (asked (held_of row.hold) second.position).planned.hold row.hold.class refl refl refl refl (length-set cells second.position again)
        (row_set cells second.position again (sym (ap known_block recalled_row.reading))) (all_set cells second.position again (sym (ap is_known recalled_row.reading)))
        (λ j e. sym (at_set (λ c. c.writing) cells second.position again refl j) ∙ e) row_sound.classed)

  pub recalled_live : (second.recalled && is_in_sync (cell_at (hold_of row.hold).cells second.position).standing) ≡ true → place_of.state ≢ state.Out
  recalled_live is out =
      let parts = and_parts second.recalled (is_in_sync cell.standing) is in
      let e = sym (ap (λ (c : Cell). is_in_sync c.standing) cell_is ∙ ap (λ (s : Standing). is_in_sync (standing_of s)) out) ∙ parts.1 in
      cc

  -- ---- a position is lost

  -- the block that is kept is at home
  ready_home : place_of.write ≡ write.Ready → length block_of ≡ row.hold.len
  ready_home ready = row_sound.sound.at_home second.position row_inside (inl (by_away place_of.away refl))
    where
      by_away : (b : Bool) → place_of.away ≡ b → b ≡ false
      by_away false e = refl
      by_away true e = absurd (elim (settled.away e) [
        | inl h ↦ (let f = sym ready ∙ h.1 in cc)
        | inr (inl h) ↦ (let f = sym ready ∙ h in cc)
        | inr (inr h) ↦ (let f = sym ready ∙ h.2 in cc)
      ])

  kept_ready : (w : WriteState) → is_kept w second ≡ true → w ≡ write.Ready
  kept_ready write.Unwritten e = absurd cc
  kept_ready write.Ready e = refl
  kept_ready write.Sent e = absurd cc
  kept_ready write.Confirmed e = absurd cc

  pub kept_long : row.spare_away ≡ false → length (if is_kept place_of.write second then block_of else row.spare) ≡ row.hold.len
  kept_long home = by_test (is_kept place_of.write second) refl
    where
      by_test : (b : Bool) → is_kept place_of.write second ≡ b → length (if b then block_of else row.spare) ≡ row.hold.len
      by_test true e = ready_home (kept_ready place_of.write e)
      by_test false e = row_sound.spare home

  -- with both of its devices
  pub lost_row : with_second (Some (lost_second place_of.write second)) (if is_kept place_of.write second then block_of else row.spare) row.spare_away (lost (held_of row.hold) second.position) ≡ lost (row_of_state row) second.position
  lost_row =
      lost_both second row.spare row.spare_away (held_of row.hold) (cells_alone row.hold.places row.hold.blocks.items) sound
      (if is_kept place_of.write second then block_of else row.spare) (lost_second place_of.write second).copy
      (ap (λ (w : Writing). copying_of (lost_second place_of.write second).copy w (if is_kept place_of.write second then block_of else row.spare)) writing_is
      ∙ lost_copying place_of.write second.copy second block_of row.spare refl
      (λ e. ((λ f. (sound.early e).0 (writing_is ∙ f)), (λ f. (sound.early e).1 (writing_is ∙ f))))
      ∙ ap (λ (w : Writing). copying_of second.copy w row.spare) (sym writing_is))
      ∙ ap (λ (h : Held). lost h second.position) (seen_is row second is)

  pub lost_row_sound : IsSecondSound (lost (held_of row.hold) second.position) row.spare_away (lost_second place_of.write second)
  lost_row_sound = lost_sound (held_of row.hold) row.spare_away second place_of.write block_of writing_is sound

  -- another one
  pub lost_row_other : (i : ℕ) → i ≢ second.position → with_second (Some second) row.spare row.spare_away (lost (held_of row.hold) i) ≡ lost (row_of_state row) i
  lost_row_other i apart = lost_other second row.spare row.spare_away (held_of row.hold) (cells_alone row.hold.places row.hold.blocks.items) sound i apart ∙ ap (λ (h : Held). lost h i) (seen_is row second is)

  pub lost_row_apart : (i : ℕ) → i ≢ second.position → IsSecondSound (lost (held_of row.hold) i) row.spare_away second
  lost_row_apart i apart = lost_apart (held_of row.hold) row.spare_away second i apart sound

  -- ---- the second device has the first one's place

  module _ (in_sync : second.state ≡ state.InSync) where
    pub first_in_sync : place_of.state ≡ state.InSync
    first_in_sync = sync_only place_of.state (ap (λ (c : Cell). c.standing) (sym cell_is) ∙ sound.beside_one in_sync)

    first_written : second.copy ≢ copy.Following → place_of.write ≢ write.Unwritten
    first_written apart = elim (sound.follows in_sync) [
      | inl f ↦ absurd (apart f)
      | inr h ↦ written_of place_of.write block_of (elim h [ inl e ↦ inl (sym writing_is ∙ e) | inr e ↦ inr (sym writing_is ∙ e) ])
    ]

    -- with the second device's write to follow, a buffer that is away left with a read
    away_asked : second.copy ≡ copy.Following → place_of.away ≡ true → (was_asked place_of.read ≡ true) × (place_of.write ≡ write.Unwritten)
    away_asked follows gone = elim (settled.away gone) [
      | inl h ↦ h
      | inr (inl h) ↦ absurd ((sound.early follows).0 (writing_is ∙ ap (λ (w : WriteState). writing_of w block_of) h))
      | inr (inr h) ↦ absurd (let e = sym first_in_sync ∙ h.0 in cc)
    ]

    -- a read that is recalled was put out before all writes
    recalled_unwritten : is_recalled_by place_of.read ≡ true → place_of.write ≡ write.Unwritten
    recalled_unwritten recalled = by_write place_of.write refl
      where
        by_read : (r : ReadState) → is_recalled_by r ≡ true → r ≢ read.Asked → has_met r ≡ false → ⊥
        by_read read.Unread e h m = cc
        by_read read.Asked e h m = h refl
        by_read read.Unreadable e h m = cc
        by_read read.Fixing e h m = cc
        by_read read.Fixed e h m = cc
        by_read read.AskedAgain e h m = cc
        by_read read.Known e h m = cc
        by_read read.Replaced e h m = cc

        never : place_of.write ≢ write.Unwritten → ⊥
        never written =
            let over = row_sound.sound.rests second.position row_inside written second.position row_inside (λ out. let e = sym first_in_sync ∙ out in cc) in
            by_read place_of.read recalled over.0 over.1

        by_write : (w : WriteState) → place_of.write ≡ w → w ≡ write.Unwritten
        by_write write.Unwritten e = refl
        by_write write.Ready e = absurd (never (λ f. let g = sym e ∙ f in cc))
        by_write write.Sent e = absurd (never (λ f. let g = sym e ∙ f in cc))
        by_write write.Confirmed e = absurd (never (λ f. let g = sym e ∙ f in cc))

    recalled_follows : is_recalled_by place_of.read ≡ true → second.copy ≡ copy.Following
    recalled_follows recalled = by_copy second.copy refl
      where
        never : second.copy ≢ copy.Following → ⊥
        never apart = first_written apart (recalled_unwritten recalled)

        by_copy : (c : CopyState) → second.copy ≡ c → c ≡ copy.Following
        by_copy copy.Following e = refl
        by_copy copy.Unwritten e = absurd (never (λ f. let g = sym e ∙ f in cc))
        by_copy copy.Ready e = absurd (never (λ f. let g = sym e ∙ f in cc))
        by_copy copy.Sent e = absurd (never (λ f. let g = sym e ∙ f in cc))
        by_copy copy.Confirmed e = absurd (never (λ f. let g = sym e ∙ f in cc))

    away_wide : second.position < length (held_of row.hold).away
    away_wide = omega (arith, row_inside, length-map row.hold.places (λ (place : PositionState). place.away))

    gone_is : is_away (held_of row.hold) second.position ≡ place_of.away
    gone_is = away_at row.hold.places second.position row_inside

    seen_taken : taken_over (with_second (Some second) row.spare row.spare_away (held_of row.hold)) second.position ≡ taken_over (row_of_state row) second.position
    seen_taken = ap (λ (h : Held). taken_over h second.position) (seen_is row second is)

    -- the position's own buffer stays
    module _ (follows : second.copy ≡ copy.Following) (home : place_of.away ≡ false) (n : HoldState) (handed_is : held_of n ≡ handed (held_of row.hold) second.position (reading_of (anew place_of.read) block_of) (writing_of place_of.write block_of) false) where
      spare_home : row.spare_away ≡ false
      spare_home = sound.following_home follows

      stays_held : held_of n ≡ handed (held_of row.hold) second.position (reading_of (anew place_of.read) block_of) (writing_of place_of.write block_of) row.spare_away
      stays_held = handed_is ∙ ap (handed (held_of row.hold) second.position (reading_of (anew place_of.read) block_of) (writing_of place_of.write block_of)) (sym spare_home)

      pub stays_row : with_second (Some (moved_second place_of.read second)) row.spare row.spare_away (held_of n) ≡ taken_over (row_of_state row) second.position
      stays_row =
          (λ k. with_second (Some (moved_second place_of.read second)) row.spare ((spare_home ∙ sym (gone_is ∙ home)) k) (stays_held k))
          ∙ taken_both (held_of row.hold) row.spare_away second row.spare row.spare place_of.read (reading_of (anew place_of.read) block_of) (writing_of place_of.write block_of) sound in_sync
          (recalled_anew place_of.read block_of block_of (λ known. refl) ∙ ap read_again (sym reading_is))
          (sym writing_is ∙ ap (λ (c : CopyState). copying_of c cell.writing row.spare) (sym follows))
          ∙ seen_taken

      pub stays_sound : IsSecondSound (held_of n) row.spare_away (moved_second place_of.read second)
      stays_sound =
          taken_sound (held_of row.hold) (held_of n) row.spare_away row.spare_away second place_of.read block_of (writing_of place_of.write block_of) sound in_sync stays_held
          away_wide (λ recalled. (ap (λ (w : WriteState). writing_of w block_of) (recalled_unwritten recalled), spare_home))

      pub stays_classed : IsClassed (hold_of n) n.class
      stays_classed =
          subst (λ (h : Held). IsClassed h.planned.hold h.class) (sym handed_is)
          (classed_handed (held_of row.hold) second.position (reading_of (anew place_of.read) block_of) (writing_of place_of.write block_of) false sound.within
          (anew_block place_of.read block_of ∙ ap known_block (sym reading_is)) (anew_known place_of.read block_of block_of ∙ ap is_known (sym reading_is)) (λ e. writing_is ∙ e) row_sound.classed)

    -- the second device's takes its place
    module _ (moves : (is_following second.copy && not place_of.away) ≡ false) where
      gone : second.copy ≡ copy.Following → place_of.away ≡ true
      gone follows = by_away place_of.away (ap (λ (c : CopyState). is_following c && not place_of.away) (sym follows) ∙ moves)
        where
          by_away : (b : Bool) → not b ≡ false → b ≡ true
          by_away true e = refl
          by_away false e = absurd cc

      unwritten_if : second.copy ≡ copy.Following → place_of.write ≡ write.Unwritten
      unwritten_if follows = (away_asked follows (gone follows)).1

      pub swaps_unknown : place_of.read ≢ read.Known
      swaps_unknown = by_copy second.copy refl
        where
          by_copy : (c : CopyState) → second.copy ≡ c → place_of.read ≢ read.Known
          by_copy copy.Following e = unknown_asked place_of.read (away_asked e (gone e)).0
          by_copy copy.Unwritten e = settled.one_block (first_written (λ f. let g = sym e ∙ f in cc))
          by_copy copy.Ready e = settled.one_block (first_written (λ f. let g = sym e ∙ f in cc))
          by_copy copy.Sent e = settled.one_block (first_written (λ f. let g = sym e ∙ f in cc))
          by_copy copy.Confirmed e = settled.one_block (first_written (λ f. let g = sym e ∙ f in cc))

      pub swaps_unwritten : place_of.write ≡ write.Unwritten → write_of second.copy place_of.write ≡ write.Unwritten
      swaps_unwritten none = by_copy second.copy refl
        where
          by_copy : (c : CopyState) → second.copy ≡ c → write_of c place_of.write ≡ write.Unwritten
          by_copy copy.Following e = none
          by_copy copy.Unwritten e = refl
          by_copy copy.Ready e = absurd (first_written (λ f. let g = sym e ∙ f in cc) none)
          by_copy copy.Sent e = absurd (first_written (λ f. let g = sym e ∙ f in cc) none)
          by_copy copy.Confirmed e = absurd (first_written (λ f. let g = sym e ∙ f in cc) none)

      pub swaps_written : write_of second.copy place_of.write ≡ write.Unwritten → place_of.write ≡ write.Unwritten
      swaps_written none = by_copy second.copy refl none
        where
          by_copy : (c : CopyState) → second.copy ≡ c → write_of c place_of.write ≡ write.Unwritten → place_of.write ≡ write.Unwritten
          by_copy copy.Following e h = h
          by_copy copy.Unwritten e h = absurd (sound.owed in_sync e)
          by_copy copy.Ready e h = absurd cc
          by_copy copy.Sent e h = absurd cc
          by_copy copy.Confirmed e h = absurd cc

      pub swaps_left : row.spare_away ≡ true → write_of second.copy place_of.write ≡ write.Sent
      swaps_left away = by_copy second.copy refl
        where
          by_copy : (c : CopyState) → second.copy ≡ c → write_of c place_of.write ≡ write.Sent
          by_copy copy.Following e = absurd (let f = sym (sound.following_home e) ∙ away in cc)
          by_copy copy.Unwritten e = absurd (sound.owed in_sync e)
          by_copy copy.Ready e = absurd (let f = sym (sound.ready_home e) ∙ away in cc)
          by_copy copy.Sent e = refl
          by_copy copy.Confirmed e = absurd (let f = sym (sound.confirmed_home e) ∙ away in cc)

      pub swaps_long : place_of.away ≡ false → length block_of ≡ row.hold.len
      swaps_long home = row_sound.sound.at_home second.position row_inside (inl home)

      module _ (n : HoldState) (handed_is : held_of n ≡ handed (held_of row.hold) second.position (reading_of (anew place_of.read) []) (writing_of (write_of second.copy place_of.write) row.spare) row.spare_away) where
        pub swaps_row : with_second (Some (moved_second place_of.read second)) block_of place_of.away (held_of n) ≡ taken_over (row_of_state row) second.position
        swaps_row =
            (λ k. with_second (Some (moved_second place_of.read second)) block_of (sym gone_is k) (handed_is k))
            ∙ taken_both (held_of row.hold) row.spare_away second row.spare block_of place_of.read (reading_of (anew place_of.read) []) (writing_of (write_of second.copy place_of.write) row.spare) sound in_sync
            (recalled_anew place_of.read block_of [] (λ known. absurd (swaps_unknown known)) ∙ ap read_again (sym reading_is))
            (write_handed second.copy place_of.write block_of row.spare unwritten_if ∙ ap (λ (w : Writing). copying_of second.copy w row.spare) (sym writing_is))
            ∙ seen_taken

        pub swaps_sound : IsSecondSound (held_of n) place_of.away (moved_second place_of.read second)
        swaps_sound =
            taken_sound (held_of row.hold) (held_of n) row.spare_away place_of.away second place_of.read [] (writing_of (write_of second.copy place_of.write) row.spare) sound in_sync handed_is
            away_wide (λ recalled. (
              ap (λ (c : CopyState). writing_of (write_of c place_of.write) row.spare) (recalled_follows recalled) ∙ ap (λ (w : WriteState). writing_of w row.spare) (recalled_unwritten recalled),
              sound.following_home (recalled_follows recalled),
            ))

        pub swaps_classed : IsClassed (hold_of n) n.class
        swaps_classed =
            subst (λ (h : Held). IsClassed h.planned.hold h.class) (sym handed_is)
            (classed_handed (held_of row.hold) second.position (reading_of (anew place_of.read) []) (writing_of (write_of second.copy place_of.write) row.spare) row.spare_away sound.within
            (same_block place_of.read swaps_unknown ∙ ap known_block (sym reading_is)) (anew_known place_of.read [] block_of ∙ ap is_known (sym reading_is))
            (λ e. writing_is ∙ ap (λ (w : WriteState). writing_of w block_of) (swaps_written (unwritten_only (write_of second.copy place_of.write) row.spare e))) row_sound.classed)
          where
            same_block : (r : ReadState) → r ≢ read.Known → known_block (reading_of (anew r) []) ≡ known_block (reading_of r block_of)
            same_block r unknown = anew_block r [] ∙ ap known_block (same_reading r [] block_of unknown)

-- ---- what stands before the hold loses the position

pub record IsLosing (row mid : RowState) (i : ℕ) : Type 0 where
  pub hold : mid.hold ≡ row.hold
  pub held : with_second mid.second mid.spare mid.spare_away (lost (held_of row.hold) i) ≡ lost (row_of_state row) i
  pub second : IsSoundBeside (lost (held_of row.hold) i) mid.spare_away mid.second
  pub spare : mid.spare_away ≡ false → length mid.spare ≡ row.hold.len

pub losing_other : (row : RowState) (second : Second) (i : ℕ) → IsRowSound row → row.second ≡ Some second → i ≢ second.position → IsLosing row row i
losing_other row second i sound is apart = record {
  hold = refl;
  held = (λ k. with_second (is k) row.spare row.spare_away (lost (held_of row.hold) i)) ∙ lost_row_other row second sound is i apart;
  second = subst (IsSoundBeside (lost (held_of row.hold) i) row.spare_away) (sym is) (lost_row_apart row second sound is i apart);
  spare = sound.spare;
}

pub losing_both : (row mid : RowState) (second lost_one : Second) (i : ℕ) (place : PositionState) (spare : List ℕ) (sound : IsRowSound row) (is : row.second ≡ Some second) → i ≡ second.position → place ≡ get_or row.hold.places second.position no_place → mid.hold ≡ row.hold → mid.spare_away ≡ row.spare_away →
    mid.second ≡ Some lost_one → lost_one ≡ lost_second place.write second → mid.spare ≡ spare → spare ≡ (if is_kept place.write second then get_or row.hold.blocks.items second.position [] else row.spare) → IsLosing row mid i
losing_both row mid second lost_one i place spare sound is at place_is hold away second_is lost_is spare_is kept = record {
  hold = hold;
  held =
      (λ k. with_second (later k) (spare_at k) (away k) (lost (held_of row.hold) (at k)))
      ∙ lost_row row second sound is ∙ ap (lost (row_of_state row)) (sym at);
  second =
      subst (λ (j : ℕ). IsSoundBeside (lost (held_of row.hold) j) mid.spare_away mid.second) (sym at)
      (subst (λ (b : Bool). IsSoundBeside (lost (held_of row.hold) second.position) b mid.second) (sym away)
      (subst (IsSoundBeside (lost (held_of row.hold) second.position) row.spare_away) (sym later) (lost_row_sound row second sound is)));
  spare = λ e. ap length spare_at ∙ kept_long row second sound is (sym away ∙ e);
}
  where
    later : mid.second ≡ Some (lost_second (place_of row second sound is).write second)
    later = second_is ∙ ap Some (lost_is ∙ ap (λ (p : PositionState). lost_second p.write second) place_is)

    spare_at : mid.spare ≡ (if is_kept (place_of row second sound is).write second then block_of row second sound is else row.spare)
    spare_at = spare_is ∙ kept ∙ ap (λ (p : PositionState). if is_kept p.write second then get_or row.hold.blocks.items second.position [] else row.spare) place_is
