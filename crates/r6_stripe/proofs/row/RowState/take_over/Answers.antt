use Rattle.std.proofs.Common.{◌≡◌, ◌≢◌, ◌<◌, Bool, true, false, ℕ, [], List, length, get_or, refl, sym, ◌∙◌, ap, subst, Some}
use Rattle.std.specs.Prelude.{◌&&◌, not}
use Rattle.std.proofs.lemmas.Bool.{and_parts}
use Rattle.r6_stripe.specs.Places.{no_place, reading_of, writing_of}
use Rattle.r6_stripe.specs.RowViews.{IsRowSound, row_of_state}
use Rattle.r6_stripe.specs.Seconds.{anew, handed, is_following, moved_second, with_second, write_of}
use Rattle.r6_stripe.specs.Sound.{IsSound}
use Rattle.r6_stripe.specs.Steps.{Held, taken_over}
use Rattle.r6_stripe.specs.Views.{held_of}
use Rattle.r6_stripe.specs.declared.place.PositionState.{PositionState}
use Rattle.r6_stripe.specs.declared.place.Standing.TheVariants as state
use Rattle.r6_stripe.specs.declared.place.WriteState.{WriteState}
use Rattle.r6_stripe.specs.declared.place.WriteState.TheVariants as write
use Rattle.r6_stripe.specs.declared.place.ReadState.TheVariants as read
use Rattle.r6_stripe.specs.declared.row.RowState.{RowState}
use Rattle.r6_stripe.specs.declared.second.CopyState.TheVariants as copy
use Rattle.r6_stripe.specs.declared.second.Second.{Second}
use Rattle.r6_stripe.specs.declared.state.HoldState.{HoldState}
use Rattle.r6_stripe.proofs.BesideLosses.{none_second, second_there}
use Rattle.r6_stripe.proofs.BesideNext.{following_is}
use Rattle.r6_stripe.proofs.BesideRow.{first_in_sync, row_inside, stays_classed, stays_row, stays_sound, swaps_classed, swaps_left, swaps_long, swaps_row, swaps_sound, swaps_unknown, swaps_unwritten, swaps_written}
use Rattle.r6_stripe.proofs.row.RowState.take_over.Goals.{In-Some}
use Rattle.r6_stripe.proofs.row.RowState.take_over.Goals as goal

pub returns-in_default-clause-held : goal.returns-in_default-clause-held
returns-in_default-clause-held c = absurd (none_second c.args.self.now c.args.position c.in_default.is c.requires.second)

off : (b : Bool) → not b ≡ true → b ≡ false
off true e = absurd cc
off false e = refl

-- it is the position that has two devices
module _ (c : In-Some) where
  abbrev row : RowState
  row = c.args.self.now

  abbrev second : Second
  second = c.in-Some.second

  at : c.args.position ≡ second.position
  at = (second_there row second c.args.position c.requires.sound c.in-Some.is c.requires.second).0

  in_sync : second.state ≡ state.InSync
  in_sync = (second_there row second c.args.position c.requires.sound c.in-Some.is c.requires.second).1

  inside : c.args.position < length row.hold.places
  inside = subst (λ (i : ℕ). i < length row.hold.places) (sym at) (row_inside row second c.requires.sound c.in-Some.is)

  stands : (get_or row.hold.places c.args.position no_place).state ≡ state.InSync
  stands = subst (λ (i : ℕ). (get_or row.hold.places i no_place).state ≡ state.InSync) (sym at) (first_in_sync row second c.requires.sound c.in-Some.is in_sync)

  place_is : (place : PositionState) → place ≡ get_or row.hold.places c.args.position no_place → place ≡ get_or row.hold.places second.position no_place
  place_is place e = e ∙ ap (λ (i : ℕ). get_or row.hold.places i no_place) at

  -- with the position's own buffer
  module _ (place : PositionState) (is : place ≡ get_or row.hold.places c.args.position no_place) (stays : (is_following second.copy && not place.away) ≡ true) (n : HoldState) (moved : Second) (moved_is : moved ≡ moved_second place.read second)
      (handed_is : held_of n ≡ handed (held_of row.hold) c.args.position (reading_of (anew (get_or row.hold.places c.args.position no_place).read) (get_or row.hold.blocks.items c.args.position [])) (writing_of (get_or row.hold.places c.args.position no_place).write (get_or row.hold.blocks.items c.args.position [])) false) where
    follows : second.copy ≡ copy.Following
    follows = following_is second.copy (and_parts (is_following second.copy) (not place.away) stays).0

    home : (get_or row.hold.places second.position no_place).away ≡ false
    home = ap (λ (p : PositionState). p.away) (sym (place_is place is)) ∙ off place.away (and_parts (is_following second.copy) (not place.away) stays).1

    there : held_of n ≡ handed (held_of row.hold) second.position (reading_of (anew (get_or row.hold.places second.position no_place).read) (get_or row.hold.blocks.items second.position [])) (writing_of (get_or row.hold.places second.position no_place).write (get_or row.hold.blocks.items second.position [])) false
    there = subst (λ (i : ℕ). held_of n ≡ handed (held_of row.hold) i (reading_of (anew (get_or row.hold.places i no_place).read) (get_or row.hold.blocks.items i [])) (writing_of (get_or row.hold.places i no_place).write (get_or row.hold.blocks.items i [])) false) at handed_is

    later : moved ≡ moved_second (get_or row.hold.places second.position no_place).read second
    later = moved_is ∙ ap (λ (p : PositionState). moved_second p.read second) (place_is place is)

    stay_held : with_second (Some moved) row.spare row.spare_away (held_of n) ≡ taken_over (row_of_state row) c.args.position
    stay_held =
        (λ k. with_second (Some (later k)) row.spare row.spare_away (held_of n))
        ∙ stays_row row second c.requires.sound c.in-Some.is in_sync follows home n there
        ∙ ap (taken_over (row_of_state row)) (sym at)

    stay_sound : IsSound n → n.prepared ≡ false → IsRowSound (record { hold = n; second = Some moved; spare = row.spare; spare_away = row.spare_away })
    stay_sound sound unprepared =
        subst (λ (m : Second). IsRowSound (record { hold = n; second = Some m; spare = row.spare; spare_away = row.spare_away })) (sym later)
        (record {
          sound = sound;
          classed = stays_classed row second c.requires.sound c.in-Some.is in_sync follows home n there;
          prepared = λ e. absurd (let f = sym unprepared ∙ e in cc);
          spare = λ e. c.requires.sound.spare e ∙ sym (ap (λ (h : Held). h.planned.hold.size) there);
          second = stays_sound row second c.requires.sound c.in-Some.is in_sync follows home n there;
        })

  -- with the other one
  module _ (place : PositionState) (is : place ≡ get_or row.hold.places c.args.position no_place) (moves : (is_following second.copy && not place.away) ≡ false) where
    leaves : (is_following second.copy && not (get_or row.hold.places second.position no_place).away) ≡ false
    leaves = ap (λ (p : PositionState). is_following second.copy && not p.away) (sym (place_is place is)) ∙ moves

    same_write : write_of second.copy place.write ≡ write_of second.copy (get_or row.hold.places second.position no_place).write
    same_write = ap (λ (p : PositionState). write_of second.copy p.write) (place_is place is)

    unknown : (get_or row.hold.places c.args.position no_place).read ≢ read.Known
    unknown = subst (λ (i : ℕ). (get_or row.hold.places i no_place).read ≢ read.Known) (sym at) (swaps_unknown row second c.requires.sound c.in-Some.is in_sync leaves)

    module _ (owed : WriteState) (owed_is : owed ≡ write_of second.copy place.write) where
      owes : owed ≡ write_of second.copy (get_or row.hold.places second.position no_place).write
      owes = owed_is ∙ same_write

      unwritten : (get_or row.hold.places c.args.position no_place).write ≡ write.Unwritten → owed ≡ write.Unwritten
      unwritten e = owes ∙ swaps_unwritten row second c.requires.sound c.in-Some.is in_sync leaves (subst (λ (i : ℕ). (get_or row.hold.places i no_place).write ≡ write.Unwritten) at e)

      written : owed ≡ write.Unwritten → (get_or row.hold.places c.args.position no_place).write ≡ write.Unwritten
      written e = subst (λ (i : ℕ). (get_or row.hold.places i no_place).write ≡ write.Unwritten) (sym at) (swaps_written row second c.requires.sound c.in-Some.is in_sync leaves (sym owes ∙ e))

      left : row.spare_away ≡ true → owed ≡ write.Sent
      left away = owes ∙ swaps_left row second c.requires.sound c.in-Some.is in_sync leaves away

      module _ (n : HoldState) (moved : Second) (moved_is : moved ≡ moved_second place.read second) (spare : List ℕ) (spare_is : spare ≡ get_or row.hold.blocks.items c.args.position [])
          (handed_is : held_of n ≡ handed (held_of row.hold) c.args.position (reading_of (anew (get_or row.hold.places c.args.position no_place).read) []) (writing_of owed row.spare) row.spare_away) where
        swap_there : held_of n ≡ handed (held_of row.hold) second.position (reading_of (anew (get_or row.hold.places second.position no_place).read) []) (writing_of (write_of second.copy (get_or row.hold.places second.position no_place).write) row.spare) row.spare_away
        swap_there =
            subst (λ (w : WriteState). held_of n ≡ handed (held_of row.hold) second.position (reading_of (anew (get_or row.hold.places second.position no_place).read) []) (writing_of w row.spare) row.spare_away) owes
            (subst (λ (i : ℕ). held_of n ≡ handed (held_of row.hold) i (reading_of (anew (get_or row.hold.places i no_place).read) []) (writing_of owed row.spare) row.spare_away) at handed_is)

        swap_later : moved ≡ moved_second (get_or row.hold.places second.position no_place).read second
        swap_later = moved_is ∙ ap (λ (p : PositionState). moved_second p.read second) (place_is place is)

        spare_at : spare ≡ get_or row.hold.blocks.items second.position []
        spare_at = spare_is ∙ ap (λ (i : ℕ). get_or row.hold.blocks.items i []) at

        swap_held : with_second (Some moved) spare place.away (held_of n) ≡ taken_over (row_of_state row) c.args.position
        swap_held =
            (λ k. with_second (Some (swap_later k)) (spare_at k) (place_is place is k).away (held_of n))
            ∙ swaps_row row second c.requires.sound c.in-Some.is in_sync leaves n swap_there
            ∙ ap (taken_over (row_of_state row)) (sym at)

        swap_sound : IsSound n → n.prepared ≡ false → IsRowSound (record { hold = n; second = Some moved; spare = spare; spare_away = place.away })
        swap_sound sound unprepared =
            subst (λ (r : RowState). IsRowSound r) (sym (λ k. record { hold = n; second = Some (swap_later k); spare = spare_at k; spare_away = (place_is place is k).away }))
            (record {
              sound = sound;
              classed = swaps_classed row second c.requires.sound c.in-Some.is in_sync leaves n swap_there;
              prepared = λ e. absurd (let f = sym unprepared ∙ e in cc);
              spare = λ e. swaps_long row second c.requires.sound c.in-Some.is in_sync leaves e ∙ sym (ap (λ (h : Held). h.planned.hold.size) swap_there);
              second = swaps_sound row second c.requires.sound c.in-Some.is in_sync leaves n swap_there;
            })

pub get-place-requires : goal.get-place-requires
get-place-requires c = inside (goal.at.get-place-requires c).In-Some

pub stay_over-requires-clause-place : goal.stay_over-requires-clause-place
stay_over-requires-clause-place c = inside (goal.at.stay_over-requires-clause-place c).In-Some

pub stay_over-requires-clause-in_sync : goal.stay_over-requires-clause-in_sync
stay_over-requires-clause-in_sync c = stands (goal.at.stay_over-requires-clause-in_sync c).In-Some

pub returns-then-stays-clause-held : goal.returns-then-stays-clause-held
returns-then-stays-clause-held c =
    stay_held (goal.at.returns-then-stays-clause-held c).In-Some c.get-place.result c.get-place.ensures.value (sym c.stays.ensures ∙ c.if-stays.true) c.stay_over.new.self c.moved.result c.moved.ensures c.stay_over.ensures.held

pub returns-then-stays-clause-sound : goal.returns-then-stays-clause-sound
returns-then-stays-clause-sound c =
    stay_sound (goal.at.returns-then-stays-clause-sound c).In-Some c.get-place.result c.get-place.ensures.value (sym c.stays.ensures ∙ c.if-stays.true) c.stay_over.new.self c.moved.result c.moved.ensures c.stay_over.ensures.held
    c.stay_over.ensures.sound c.stay_over.ensures.prepared

pub swap_over-requires-clause-place : goal.swap_over-requires-clause-place
swap_over-requires-clause-place c = inside (goal.at.swap_over-requires-clause-place c).In-Some

pub swap_over-requires-clause-in_sync : goal.swap_over-requires-clause-in_sync
swap_over-requires-clause-in_sync c = stands (goal.at.swap_over-requires-clause-in_sync c).In-Some

pub swap_over-requires-clause-unknown : goal.swap_over-requires-clause-unknown
swap_over-requires-clause-unknown c = unknown (goal.at.swap_over-requires-clause-unknown c).In-Some c.get-place.result c.get-place.ensures.value (sym c.stays.ensures ∙ c.if-stays.false)

pub swap_over-requires-clause-unwritten : goal.swap_over-requires-clause-unwritten
swap_over-requires-clause-unwritten c =
    unwritten (goal.at.swap_over-requires-clause-unwritten c).In-Some c.get-place.result c.get-place.ensures.value (sym c.stays.ensures ∙ c.if-stays.false) c.as_write-write.result c.as_write-write.ensures

pub swap_over-requires-clause-written : goal.swap_over-requires-clause-written
swap_over-requires-clause-written c =
    written (goal.at.swap_over-requires-clause-written c).In-Some c.get-place.result c.get-place.ensures.value (sym c.stays.ensures ∙ c.if-stays.false) c.as_write-write.result c.as_write-write.ensures

pub swap_over-requires-clause-left : goal.swap_over-requires-clause-left
swap_over-requires-clause-left c = left (goal.at.swap_over-requires-clause-left c).In-Some c.get-place.result c.get-place.ensures.value (sym c.stays.ensures ∙ c.if-stays.false) c.as_write-write.result c.as_write-write.ensures

pub returns-clause-held : goal.returns-clause-held
returns-clause-held c =
    swap_held (goal.at.returns-clause-held c).In-Some c.get-place.result c.get-place.ensures.value (sym c.stays.ensures ∙ c.if-stays.false) c.as_write-write.result c.as_write-write.ensures c.swap_over.new.self c.moved-2.result c.moved-2.ensures
    c.swap_over.new.spare c.swap_over.ensures.spare c.swap_over.ensures.held

pub returns-clause-sound : goal.returns-clause-sound
returns-clause-sound c =
    swap_sound (goal.at.returns-clause-sound c).In-Some c.get-place.result c.get-place.ensures.value (sym c.stays.ensures ∙ c.if-stays.false) c.as_write-write.result c.as_write-write.ensures c.swap_over.new.self c.moved-2.result c.moved-2.ensures
    c.swap_over.new.spare c.swap_over.ensures.spare c.swap_over.ensures.held c.swap_over.ensures.sound c.swap_over.ensures.prepared
