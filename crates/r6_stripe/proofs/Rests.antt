-- Once a new block was computed all reads are over, and stay so.
use Rattle.std.proofs.Common.{◌≡◌, ◌≢◌, inl, inr, false, ℕ, ◌<◌, List, [], ◌∷◌, length, get_or, set, refl, sym, ◌∙◌, ap, subst, arith}
use Rattle.std.specs.Prelude.{not}
use Rattle.std.proofs.lemmas.Bool.{cases_lt}
use Rattle.std.proofs.lemmas.List.{get_or_past}
use Rattle.r6_stripe.specs.Holds.{Cell, cell_at}
use Rattle.r6_stripe.specs.Places.{has_met, made_ready_place, no_place, ready_at, replaced_read, with_ready}
use Rattle.r6_stripe.specs.Plans as plans
use Rattle.r6_stripe.specs.Sound.{Each, IsPlaceOver, RestsOnceNew}
use Rattle.r6_stripe.specs.Preparing.{HasReadEnough}
use Rattle.r6_stripe.specs.Views.{hold_of, plan_of, planned_of}
use Rattle.r6_stripe.proofs.Alone.{cells_alone, computed_alone}
use Rattle.r6_stripe.proofs.Calm.{place_over}
use Rattle.r6_stripe.specs.declared.place.PositionState.{PositionState}
use Rattle.r6_stripe.specs.declared.place.ReadState.{ReadState}
use Rattle.r6_stripe.specs.declared.place.ReadState.TheVariants as read
use Rattle.r6_stripe.specs.declared.place.WriteState.TheVariants as write
use Rattle.r6_stripe.specs.declared.state.HoldState.{HoldState}
use Rattle.r6_stripe.proofs.Nexts.{read_parts, unwritten_is}
use Rattle.r6_stripe.proofs.Places.{any_each, cell_at-cells_of, length-cells_of}
use Rattle.r6_stripe.proofs.States.{Each-set, there, unwritten_only}

-- none was
pub rests_unwritten : (places : List PositionState) → ((j : ℕ) → j < length places → (get_or places j no_place).write ≡ write.Unwritten) → RestsOnceNew places
rests_unwritten places none j below w = absurd (w (none j below))

pub none_written : (s : HoldState) → plans.has_computed (hold_of s) ≡ false → (j : ℕ) → j < length s.places → (get_or s.places j no_place).write ≡ write.Unwritten
none_written s none j below =
    unwritten_only (get_or s.places j no_place).write (get_or s.blocks.items j [])
    (sym (ap (λ (cell : Cell). cell.writing) (cell_at-cells_of s.places s.blocks.items j no_place below))
    ∙ unwritten_is (cell_at (hold_of s).cells j).writing (any_each (λ cell. not (plans.is_unwritten cell.writing)) (hold_of s).cells (sym (computed_alone (hold_of s) (cells_alone s.places s.blocks.items)) ∙ none) j (omega (arith, below, length-cells_of s.places s.blocks.items))))

-- a place changes whose read isn't begun anew; or any, if none was written
pub rests_set : (places : List PositionState) (i : ℕ) (old new : PositionState) → i < length places → old ≡ get_or places i old → (new.write ≢ write.Unwritten → old.write ≢ write.Unwritten) → (IsPlaceOver old → IsPlaceOver new) →
    RestsOnceNew places → RestsOnceNew (set places i new)
rests_set places i old new inside is writes over rests =
    Each-set (λ k place. place.write ≢ write.Unwritten → Each (λ other at. IsPlaceOver at) (set places i new)) places i new (λ k below w. later (rests k below w))
    (λ w. later (there (λ k place. place.write ≢ write.Unwritten → Each (λ other at. IsPlaceOver at) places) places i old inside is rests (writes w)))
  where
    later : Each (λ other at. IsPlaceOver at) places → Each (λ other at. IsPlaceOver at) (set places i new)
    later all = Each-set (λ k place. IsPlaceOver place) places i new all (over (there (λ k place. IsPlaceOver place) places i old inside is all))

pub rests_unset : (places : List PositionState) (i : ℕ) (new : PositionState) → ((j : ℕ) → j < length places → (get_or places j no_place).write ≡ write.Unwritten) → new.write ≡ write.Unwritten → RestsOnceNew (set places i new)
rests_unset places i new none unwritten =
    Each-set (λ k place. place.write ≢ write.Unwritten → Each (λ other at. IsPlaceOver at) (set places i new)) places i new (λ k below w. absurd (w (none k below))) (λ w. absurd (w unwritten))

-- new blocks are computed where all reads are over
replaced_over : (r : ReadState) → r ≢ read.Asked → has_met r ≡ false → (replaced_read r ≢ read.Asked) × (has_met (replaced_read r) ≡ false)
replaced_over read.Unread other unmet = (λ e. cc, refl)
replaced_over read.Asked other unmet = absurd (other refl)
replaced_over read.Unreadable other unmet = absurd cc
replaced_over read.Fixing other unmet = absurd cc
replaced_over read.Fixed other unmet = absurd cc
replaced_over read.AskedAgain other unmet = absurd cc
replaced_over read.Known other unmet = (λ e. cc, refl)
replaced_over read.Replaced other unmet = (λ e. cc, refl)

over_ready : (places : List PositionState) (k : ℕ) → Each (λ position place. IsPlaceOver place) places → Each (λ position place. IsPlaceOver place) (with_ready places k)
over_ready places k all =
    Each-set (λ j place. IsPlaceOver place) places k (made_ready_place (get_or places k no_place)) all
    (λ stands. elim (cases_lt k (length places)) [
      | inl inside ↦ let over = all k inside stands in replaced_over (get_or places k no_place).read over.0 over.1
      | inr past ↦ absurd (stands (ap (λ (place : PositionState). place.state) (get_or_past places k no_place past)))
    ])

pub over_ready_at : (places : List PositionState) (ks : List ℕ) → Each (λ position place. IsPlaceOver place) places → Each (λ position place. IsPlaceOver place) (ready_at places ks)
over_ready_at places [] all = all
over_ready_at places (k ∷ ks) all = over_ready (ready_at places ks) k (over_ready_at places ks all)

pub rests_ready : (places : List PositionState) (ks : List ℕ) → Each (λ position place. IsPlaceOver place) places → RestsOnceNew (ready_at places ks)
rests_ready places ks all j below w = over_ready_at places ks all

-- where all reads were answered, and no read error is left
pub all_over : (s : HoldState) → plans.is_mending (hold_of s) ≡ false → HasReadEnough (planned_of s) → Each (λ position place. IsPlaceOver place) s.places
all_over s mended read k inside =
    let answered = (read_parts (plans.has_read_out (hold_of s)) (plans.is_enough (plan_of s.plan) (hold_of s)) read).0 in
    place_over (hold_of s) mended answered k (omega (arith, inside, length-cells_of s.places s.blocks.items)) (get_or s.places k no_place) (get_or s.blocks.items k []) (cell_at-cells_of s.places s.blocks.items k no_place inside)

pub rests_once_ready : (s : HoldState) (later : List PositionState) (ks : List ℕ) → later ≡ ready_at s.places ks → plans.is_mending (hold_of s) ≡ false → HasReadEnough (planned_of s) → RestsOnceNew later
rests_once_ready s later ks is mended read = subst RestsOnceNew (sym is) (rests_ready s.places ks (all_over s mended read))
