-- A fix: the block of a position whose read met an error, from the first blocks that are known.
use Rattle.std.proofs.Common.{◌≡◌, ◌≢◌, true, false, ℕ, ◌-◌, ◌+◌, ◌<◌, ◌≤◌, List, [], length, get_or, set, inl, inr, refl, sym, ◌∙◌, ap, subst, arith, Some}
use Rattle.std.proofs.lemmas.Bool.{and_parts, cases_eq, false_from_ne_true, leb-true}
use Rattle.std.proofs.lemmas.List.{ext_get_or, get_or-set_other, get_or-set_same, length-set}
use Rattle.r6_recover.specs.Known.{IsMissing}
use Rattle.r6_recover.specs.Restores.{AreLongButMissing, MayMiss}
use Rattle.r6_recover.specs.Rows.{block_at}
use Rattle.r6_recover.specs.declared.known.Missing.{Missing}
use Rattle.r6_stripe.specs.Holds.{Cell, Reading, IsOfFirst, cell_at, first_known, is_known, known_count}
use Rattle.r6_stripe.specs.Mending.{first_known_of}
use Rattle.r6_stripe.specs.Places.{cell_of, has_met, is_lent, no_place, was_asked}
use Rattle.r6_stripe.specs.Plans as plans
use Rattle.r6_stripe.specs.Plans.{Next}
use Rattle.r6_stripe.specs.Recovery.{IsAmongMissing, RestoresAt}
use Rattle.r6_stripe.specs.Sound.{Each, IsSound}
use Rattle.r6_stripe.specs.Views.{hold_of}
use Rattle.r6_stripe.specs.declared.place.PositionState.{PositionState}
use Rattle.r6_stripe.specs.declared.place.Standing.TheVariants as state
use Rattle.r6_stripe.specs.declared.place.ReadState.TheVariants as read
use Rattle.r6_stripe.specs.declared.place.WriteState.TheVariants as write
use Rattle.r6_stripe.specs.declared.state.HoldState.{HoldState}
use Rattle.r6_stripe.proofs.Checks.{sync_only}
use Rattle.r6_stripe.proofs.FirstKnown.{agree_first, flag_cell, long_but_first, may_miss_first}
use Rattle.r6_stripe.proofs.Leaves.{unlent_mending}
use Rattle.r6_stripe.proofs.Mends.{fix_found}
use Rattle.r6_stripe.proofs.Missing.{among_missing}
use Rattle.r6_stripe.proofs.Places.{cell_at-cells_of, length-cells_of}
use Rattle.r6_stripe.proofs.States.{known_home, mending_home, unreadable_only, unwritten_only}
use Rattle.r6_stripe.proofs.Steps.{error_parts, first_is, unwritten_all}

-- blocks that differ at one position alone are the same once that one is replaced
pub set_beside : (old new : List (List ℕ)) (i : ℕ) (block : List ℕ) → length new ≡ length old → ((j : ℕ) → j ≢ i → block_at new j ≡ block_at old j) → set new i block ≡ set old i block
set_beside old new i block wide beside =
    ext_get_or [] (set new i block) (set old i block) (length-set new i block ∙ wide ∙ sym (length-set old i block))
    (λ j below. elim (cases_eq j i) [
      | inl same ↦
          let inside : i < length new = omega (arith, below, same, length-set new i block) in
          subst (λ (k : ℕ). get_or (set new i block) k [] ≡ get_or (set old i block) k []) (sym same)
          (get_or-set_same new i block [] inside ∙ sym (get_or-set_same old i block [] (omega (arith, inside, wide))))
      | inr other ↦ get_or-set_other new i j block [] other ∙ beside j other ∙ sym (get_or-set_other old i j block [] other)
    ])

module _ (s : HoldState) (i : ℕ) (sound : IsSound s) (comes : plans.next_fix (hold_of s) ≡ Some (Next.FixAt i)) where
  abbrev n : ℕ
  n = length s.places

  abbrev flags : List Rattle.std.proofs.Common.Bool
  flags = first_known_of (length s.places - 2) s.places

  abbrev old : PositionState
  old = get_or s.places i no_place

  wide : length (hold_of s).cells ≡ length s.places
  wide = length-cells_of s.places s.blocks.items

  pub below : i < length s.places
  below = omega (arith, (fix_found (hold_of s) i comes).1, wide)

  tests : (plans.can_fix (hold_of s) ≡ true) × (plans.is_in_error (cell_at (hold_of s).cells i) ≡ true)
  tests = and_parts (plans.can_fix (hold_of s)) (plans.is_in_error (cell_at (hold_of s).cells i)) (fix_found (hold_of s) i comes).2

  pub in_error : ((cell_at (hold_of s).cells i).standing ≡ Rattle.r6_stripe.specs.Holds.Standing.InSync) × ((cell_at (hold_of s).cells i).reading ≡ Reading.Unreadable)
  in_error = error_parts (cell_at (hold_of s).cells i) tests.1

  at : (k : ℕ) → k < length s.places → cell_at (hold_of s).cells k ≡ cell_of (get_or s.places k no_place) (get_or s.blocks.items k [])
  at k inside = cell_at-cells_of s.places s.blocks.items k no_place inside

  pub unreadable : (get_or s.places i no_place).read ≡ read.Unreadable
  unreadable = unreadable_only old.read (get_or s.blocks.items i []) (ap (λ (c : Cell). plans.is_unreadable c.reading) (sym (at i below)) ∙ ap plans.is_unreadable in_error.1)

  in_sync : (get_or s.places i no_place).state ≡ state.InSync
  in_sync = sync_only old.state (ap (λ (c : Cell). c.standing) (sym (at i below)) ∙ in_error.0)

  pub met : has_met (get_or s.places i no_place).read ≡ true
  met = ap has_met unreadable

  pub unwritten : (k : ℕ) → k < length s.places → (get_or s.places k no_place).write ≡ write.Unwritten
  unwritten k inside =
      unwritten_only (get_or s.places k no_place).write (get_or s.blocks.items k [])
      (ap (λ (c : Cell). c.writing) (sym (at k inside)) ∙ (unwritten_all (hold_of s) (fix_found (hold_of s) i comes).0 k).0)

  pub unwritten_cell : (cell_of (get_or s.places i no_place) (get_or s.blocks.items i [])).writing ≡ Rattle.r6_stripe.specs.Holds.Writing.Unwritten
  unwritten_cell = ap (λ (c : Cell). c.writing) (sym (at i below)) ∙ (unwritten_all (hold_of s) (fix_found (hold_of s) i comes).0 i).0

  kept : (k : ℕ) → k < length s.places → (get_or s.places k no_place).read ≢ read.Replaced
  kept k inside gone = (sound.settled k inside).replaced gone (unwritten k inside)

  pub unlent : Each (λ position place. is_lent place ≡ false) s.places
  unlent = unlent_mending s sound i below in_sync met

  at_home : (k : ℕ) → k < length s.places → (get_or s.places k no_place).read ≡ read.Known → (get_or s.places k no_place).away ≡ false
  at_home k inside known = known_home (get_or s.places k no_place) known (unlent k inside)

  pub own_long : length (get_or s.blocks.items i []) ≡ s.len
  own_long =
      sound.at_home i below
      (inl (mending_home old (sound.settled i below) (ap was_asked unreadable) (λ e. let f = sym unreadable ∙ e in cc) (unwritten i below)))

  pub sum_long : length s.sum ≡ s.len
  sum_long = sound.sum unlent

  enough : length s.places - 2 ≤ known_count (hold_of s).cells
  enough = let e = leb-true (plans.data_count (hold_of s)) (known_count (hold_of s).cells) tests.0 in omega (arith, e, wide)

  not_first : get_or (first_known_of (length s.places - 2) s.places) i false ≡ false
  not_first =
      false_from_ne_true (get_or flags i false) (λ flag.
      let among = flag_cell (length s.places - 2) s.places s.blocks.items i ∙ flag in
      let known = ap (λ (c : Cell). is_known c.reading) (sym (first_is (length s.places - 2) (hold_of s).cells i among)) ∙ among in
      let e = sym (ap is_known in_error.1) ∙ known in cc)

  module _ (m : Missing) (missing : IsMissing (first_known_of (length s.places - 2) s.places) (length s.places) m) where
    pub may : MayMiss (length s.places) m
    may = may_miss_first s.places s.blocks.items m (omega (arith, sound.four_or_more)) enough missing

    pub among : IsAmongMissing m i
    among = among_missing flags n m i missing may below not_first

    pub long : AreLongButMissing s.len m s.blocks.items
    long = long_but_first s.len s.places s.blocks.items sound.wide sound.at_home at_home kept (length s.places - 2) m missing

    pub of_first : (new : List (List ℕ)) → RestoresAt m i s.len s.blocks.items new → (row : List (List ℕ)) → IsOfFirst (hold_of s) row → block_at row i ≡ block_at new i
    of_first new restores row first =
        let row_wide = first.wide ∙ wide in
        sym (restores.restored row
        (record { count = omega (arith, row_wide, sound.wide, sound.four_or_more); full = first.full })
        (agree_first s.len s.places s.blocks.items sound.wide sound.at_home at_home kept (length s.places - 2) row row_wide
        (λ k block e. first.same k block (subst (λ (count : ℕ). (cell_at (first_known count (hold_of s).cells) k).reading ≡ Reading.Known block) (omega (arith, wide)) e)) m missing))
