-- What comes next in a hold with a read error.
use Rattle.std.proofs.Common.{◌≡◌, Bool, true, false, ℕ, ◌<◌, length, refl, ◌∙◌, ap, arith, None, Some, Option}
use Rattle.std.specs.Prelude.{if◌then◌else◌, is_some, nat_lt, not, option_map, ◌&&◌, ◌||◌}
use Rattle.std.specs.List.{list_any}
use Rattle.std.proofs.lemmas.Bool.{and_right}
use Rattle.r6_stripe.specs.Holds.{Hold, Reading, Standing, cell_at}
use Rattle.r6_stripe.specs.Plans as plans
use Rattle.r6_stripe.specs.Plans.{Next, Planned, is_none, or_else}
use Rattle.r6_stripe.specs.Steps.{is_loss}
use Rattle.r6_stripe.proofs.Alone.{AreAlone}
use Rattle.r6_stripe.proofs.Searches.{first_found, first_none}

pub asked_is : (r : Reading) → plans.is_asked r ≡ true → r ≡ Reading.Asked
asked_is Reading.Unread e = absurd cc
asked_is Reading.Recalled e = absurd cc
asked_is Reading.Asked e = refl
asked_is Reading.Unreadable e = absurd cc
asked_is Reading.Fixing e = absurd cc
asked_is Reading.Fixed e = absurd cc
asked_is Reading.AskedAgain e = absurd cc
asked_is (Reading.Known block) e = absurd cc
asked_is Reading.Replaced e = absurd cc

-- the positions with read errors are lost, or none is, where each has one device
pub loss_some : (hold : Hold) → AreAlone hold.cells → is_some (plans.next_loss hold) ≡ true → plans.next_loss hold ≡ Some Next.LoseUnreadable
loss_some hold alone = by_test (nat_lt (plans.knowable_count hold.cells) (plans.data_count hold) && list_any plans.is_in_error hold.cells)
  where
    step : Next
    step = plans.or_lose (plans.first_from (plans.is_next_move hold) 0 (length hold.cells))

    none_moves : (i : ℕ) → plans.is_next_move hold i ≡ false
    none_moves i =
        ap (λ (s : Standing). plans.is_in_error (cell_at hold.cells i) && plans.is_in_sync s) (alone i).second
        ∙ and_right (plans.is_in_error (cell_at hold.cells i)) false refl

    by_test : (b : Bool) → is_some (if b then Some step else None) ≡ true → (if b then Some step else None) ≡ Some Next.LoseUnreadable
    by_test true e = ap (λ (o : Option ℕ). Some (plans.or_lose o)) (first_none (plans.is_next_move hold) 0 (length hold.cells) (λ i from before. none_moves i))
    by_test false e = absurd cc

pub is_loss_same : (hold : Hold) → AreAlone hold.cells → is_loss (plans.next_loss hold) ≡ is_some (plans.next_loss hold)
is_loss_same hold alone = by_test (nat_lt (plans.knowable_count hold.cells) (plans.data_count hold) && list_any plans.is_in_error hold.cells) (loss_some hold alone)
  where
    step : Next
    step = plans.or_lose (plans.first_from (plans.is_next_move hold) 0 (length hold.cells))

    by_test : (b : Bool) → (is_some (if b then Some step else None) ≡ true → (if b then Some step else None) ≡ Some Next.LoseUnreadable) → is_loss (if b then Some step else None) ≡ is_some (if b then Some step else None)
    by_test true is = ap is_loss (is refl)
    by_test false is = refl

pub loss_none : (o : Option Next) → is_some o ≡ false → o ≡ None
loss_none None e = refl
loss_none (Some step) e = absurd cc

-- what comes next while it goes on
module _ (planned : Planned) (goes_on : plans.gives_up planned.hold ≡ false) (mending : plans.is_mending planned.hold ≡ true) where
  few : plans.has_enough planned.plan planned.hold ≡ false
  few = ap (λ (b : Bool). plans.is_enough planned.plan planned.hold && not b) mending ∙ none (plans.is_enough planned.plan planned.hold)
    where
      none : (b : Bool) → (b && false) ≡ false
      none true = refl
      none false = refl

  after_reads : plans.next_after_reads planned.plan planned.hold ≡ (if plans.has_asked planned.hold then None else or_else (plans.next_fix planned.hold) (plans.next_again planned.hold))
  after_reads =
      (λ k. if plans.has_asked planned.hold then None
      else or_else (plans.next_fix planned.hold) (or_else (plans.next_again planned.hold)
      (if not (few k) then None else or_else (plans.next_restore planned.hold planned.hold.kind) (or_else (plans.next_compute planned.hold) (plans.next_write planned.hold)))))
      ∙ ap (λ (o : Option Next). if plans.has_asked planned.hold then None else or_else (plans.next_fix planned.hold) o) (alone (plans.next_again planned.hold))
    where
      alone : (o : Option Next) → or_else o None ≡ o
      alone None = refl
      alone (Some step) = refl

  pub next_mending : plans.next planned ≡
      or_else (plans.next_loss planned.hold) (or_else (plans.next_read planned.plan planned.hold) (if plans.has_asked planned.hold then None else or_else (plans.next_fix planned.hold) (plans.next_again planned.hold)))
  next_mending =
      (λ k. if goes_on k then plans.next_again planned.hold else or_else (plans.next_loss planned.hold) (or_else (plans.next_read planned.plan planned.hold) (after_reads k)))

-- ---- a fix, or a second read, that comes next

some_step : (computed : Bool) (o : Option ℕ) (step : ℕ → Next) (i : ℕ) → ((k : ℕ) → step k ≡ step i → k ≡ i) → (if computed then None else option_map step o) ≡ Some (step i) → (computed ≡ false) × (o ≡ Some i)
some_step true o step i one e = absurd cc
some_step false None step i one e = absurd cc
some_step false (Some k) step i one e = (refl, ap (λ (n : ℕ). Some n) (one k (same e)))
  where
    same : Some (step k) ≡ Some (step i) → step k ≡ step i
    same e = cc

pub fix_found : (hold : Hold) (i : ℕ) → plans.next_fix hold ≡ Some (Next.FixAt i) → (plans.has_computed hold ≡ false) × (i < length hold.cells) × (plans.is_next_fix hold i ≡ true)
fix_found hold i e =
    let parts = some_step (plans.has_computed hold) (plans.first_from (plans.is_next_fix hold) 0 (length hold.cells)) Next.FixAt i (λ k same. cc) e in
    let found = first_found (plans.is_next_fix hold) 0 (length hold.cells) i parts.1 in
    (parts.0, omega (arith, found.0), found.1)

pub again_found : (hold : Hold) (i : ℕ) → plans.next_again hold ≡ Some (Next.ReadAgainAt i) → (plans.has_computed hold ≡ false) × (i < length hold.cells) × (plans.is_next_again hold i ≡ true)
again_found hold i e =
    let parts = some_step (plans.is_idle hold.kind || plans.has_computed hold || plans.has_fix_out hold) (plans.first_from (plans.is_next_again hold) 0 (length hold.cells)) Next.ReadAgainAt i (λ k same. cc) e in
    let found = first_found (plans.is_next_again hold) 0 (length hold.cells) i parts.1 in
    (second (plans.is_idle hold.kind) (plans.has_computed hold) (plans.has_fix_out hold) parts.0, omega (arith, found.0), found.1)
  where
    second : (a b d : Bool) → (a || b || d) ≡ false → b ≡ false
    second true b d e = absurd cc
    second false true d e = absurd cc
    second false false d e = refl
