-- The second device has the first one's place: what the hold goes on with.
use Rattle.std.proofs.Common.{◌≡◌, Bool, true, false, ℕ, ◌<◌, List, length, set, refl, sym, ◌∙◌, ap, arith, Some}
use Rattle.std.proofs.lemmas.List.{get_or-set_same, length-set}
use Rattle.r6_stripe.specs.Holds.{Standing, Reading, Writing, Cell, cell_at, moved, no_cell, read_again}
use Rattle.r6_stripe.specs.Holds.Standing.{InSync}
use Rattle.r6_stripe.specs.Holds.Reading.{Asked}
use Rattle.r6_stripe.specs.Holds.Writing.{Unwritten}
use Rattle.r6_stripe.specs.Places.{reading_of, standing_of, writing_of}
use Rattle.r6_stripe.specs.Plans as plans
use Rattle.r6_stripe.specs.Seconds.{IsSecondSound, anew, beside, cells_beside, copying_of, handed, is_recalled_by, moved_second, recalled_if, with_second, write_of}
use Rattle.r6_stripe.specs.Steps.{Held, is_away, taken_over}
use Rattle.r6_stripe.specs.declared.place.ReadState.{ReadState}
use Rattle.r6_stripe.specs.declared.place.ReadState.TheVariants as read
use Rattle.r6_stripe.specs.declared.place.Standing.TheVariants as state
use Rattle.r6_stripe.specs.declared.place.WriteState.{WriteState}
use Rattle.r6_stripe.specs.declared.place.WriteState.TheVariants as write
use Rattle.r6_stripe.specs.declared.second.CopyState.{CopyState}
use Rattle.r6_stripe.specs.declared.second.CopyState.TheVariants as copy
use Rattle.r6_stripe.specs.declared.second.Second.{Second}
use Rattle.r6_stripe.proofs.BesideEvents.{update_placed}
use Rattle.r6_stripe.proofs.BesideSound.{moved_both}

-- one of two devices in sync has no read that is recalled
pub unrecalled : (held : Held) (away : Bool) (second : Second) → IsSecondSound held away second → second.state ≡ state.InSync → second.recalled ≡ false
unrecalled held away second sound in_sync = by_recalled second.recalled refl
  where
    by_recalled : (b : Bool) → second.recalled ≡ b → b ≡ false
    by_recalled false is = refl
    by_recalled true is = absurd (let e = sym in_sync ∙ (sound.alone is).0 in cc)

-- the hold then
pub taken_both : (held : Held) (away : Bool) (second : Second) (block given : List ℕ) (r : ReadState) (reading : Reading) (writing : Writing) → IsSecondSound held away second → second.state ≡ state.InSync →
    recalled_if (is_recalled_by r) reading ≡ read_again (cell_at held.planned.hold.cells second.position).reading → writing ≡ copying_of second.copy (cell_at held.planned.hold.cells second.position).writing block →
    with_second (Some (moved_second r second)) given (is_away held second.position) (handed held second.position reading writing away) ≡ taken_over (with_second (Some second) block away held) second.position
taken_both held away second block given r reading writing sound in_sync reads writes =
    let cells : List Cell = held.planned.hold.cells in
    let p : ℕ = second.position in
    let cell : Cell = cell_at cells p in
    let other : Cell = record no_cell { standing = InSync; reading = reading; writing = writing } in
    let is : cell_at (cells_beside second block cells) p ≡ beside second block cell = get_or-set_same cells p (beside second block cell) no_cell sound.within in
    let standing : (cell_at (cells_beside second block cells) p).second ≡ InSync = ap (λ (c : Cell). c.second) is ∙ ap standing_of in_sync in
    let placed = update_placed cells p sound.within (beside second block) (beside (moved_second r second) given) (λ c. other) moved p (λ e. absurd (e refl))
    (λ e. moved_both second block given cell reading writing (is_recalled_by r) in_sync (unrecalled held away second sound in_sync) reads writes) (λ e. absurd (e refl)) in
    (λ k. record held {
      planned = record {
        plan = ap (λ (s : Standing). plans.after_move s held.planned.plan (record held.planned.hold { cells = cells_beside second block cells }) p) (sym standing) k;
        hold = record held.planned.hold { cells = placed k };
      };
      away = set held.away p away;
      second_away = is_away held p;
    })

-- ---- the place that goes on

asked_of : (r : ReadState) (block : List ℕ) → is_recalled_by r ≡ true → reading_of (anew r) block ≡ Asked
asked_of read.Unread block e = absurd cc
asked_of read.Asked block e = refl
asked_of read.Unreadable block e = refl
asked_of read.Fixing block e = absurd cc
asked_of read.Fixed block e = absurd cc
asked_of read.AskedAgain block e = absurd cc
asked_of read.Known block e = absurd cc
asked_of read.Replaced block e = absurd cc

-- what is true of the second device then
pub taken_sound : (held new : Held) (away gone : Bool) (second : Second) (r : ReadState) (block : List ℕ) (writing : Writing) → IsSecondSound held away second → second.state ≡ state.InSync → new ≡ handed held second.position (reading_of (anew r) block) writing away →
    second.position < length held.away → (is_recalled_by r ≡ true → (writing ≡ Unwritten) × (away ≡ false)) → IsSecondSound new gone (moved_second r second)
taken_sound held new away gone second r block writing sound in_sync is below recalled =
    let cells : List Cell = held.planned.hold.cells in
    let p : ℕ = second.position in
    let other : Cell = record no_cell { standing = InSync; reading = reading_of (anew r) block; writing = writing } in
    let at : cell_at new.planned.hold.cells p ≡ other = ap (λ (h : Held). cell_at h.planned.hold.cells p) is ∙ get_or-set_same cells p other no_cell sound.within in
    record {
      within = omega (arith, sound.within, ap (λ (h : Held). length h.planned.hold.cells) is, length-set cells p other);
      untargeted = λ e. cc;
      beside_one = λ e. absurd cc;
      follows = λ e. absurd cc;
      early = λ e. absurd cc;
      owed = λ e. absurd cc;
      over = λ e f. cc;
      computed = λ u. absurd (u refl);
      following_home = λ e. absurd cc;
      ready_home = λ e. absurd cc;
      confirmed_home = λ e. absurd cc;
      alone = λ e. (refl, refl);
      recalled = λ e live. (
        ap (λ (c : Cell). c.standing) at,
        ap (λ (c : Cell). c.reading) at ∙ asked_of r block e,
        ap (λ (c : Cell). c.writing) at ∙ (recalled e).0,
        ap (λ (h : Held). is_away h p) is ∙ get_or-set_same held.away p away false below ∙ (recalled e).1,
      );
    }

-- what the second device's write is for the place
pub write_handed : (c : CopyState) (w : WriteState) (block spare : List ℕ) → (c ≡ copy.Following → w ≡ write.Unwritten) → writing_of (write_of c w) spare ≡ copying_of c (writing_of w block) spare
write_handed copy.Unwritten w block spare h = refl
write_handed copy.Following write.Unwritten block spare h = refl
write_handed copy.Following write.Ready block spare h = absurd (let e = h refl in cc)
write_handed copy.Following write.Sent block spare h = absurd (let e = h refl in cc)
write_handed copy.Following write.Confirmed block spare h = absurd (let e = h refl in cc)
write_handed copy.Ready w block spare h = refl
write_handed copy.Sent w block spare h = refl
write_handed copy.Confirmed w block spare h = refl
