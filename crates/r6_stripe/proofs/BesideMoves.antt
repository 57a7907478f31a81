-- Which position is read from its second device, where too few blocks can still become known.
use Rattle.std.proofs.Common.{◌≡◌, ◌≢◌, Bool, true, false, ℕ, List, length, refl, ◌∙◌, ap, arith, Some, None}
use Rattle.std.specs.Prelude.{◌&&◌, if◌then◌else◌}
use Rattle.r6_stripe.specs.Holds.{Standing, Cell, Hold, cell_at}
use Rattle.r6_stripe.specs.Places.{standing_of}
use Rattle.r6_stripe.specs.Plans as plans
use Rattle.r6_stripe.specs.Plans.{Next, is_in_error, is_in_sync, or_lose}
use Rattle.r6_stripe.specs.Seconds.{IsSecondSound}
use Rattle.r6_stripe.specs.Steps.{Held}
use Rattle.r6_stripe.specs.declared.second.Second.{Second}
use Rattle.r6_stripe.proofs.Alone.{AreAlone}
use Rattle.r6_stripe.proofs.Beside.{IsTwin, first_only, here, other, width, recalled_same}
use Rattle.r6_stripe.proofs.BesideAnswers.{twin_by}
use Rattle.r6_stripe.proofs.BesideSteps.{planned_both}

-- ---- what is lost, and what is moved

module _ (second : Second) (block : List ℕ) (held : Held) (away : Bool) (alone : AreAlone held.planned.hold.cells) (sound : IsSecondSound held away second) where
  abbrev hold : Hold
  hold = held.planned.hold

  abbrev p : ℕ
  p = second.position

  abbrev t : IsTwin second block held.planned.hold
  t = twin_by held away second block sound

  abbrev seen : Hold
  seen = (planned_both second block held.planned).hold

  moves_other : (j : ℕ) → j ≢ p → plans.is_next_move seen j ≡ false
  moves_other j apart =
      ap (λ (c : Cell). is_in_error c && is_in_sync c.second) (other second block hold alone t j apart)
      ∙ ap (λ (s : Standing). is_in_error (cell_at hold.cells j) && is_in_sync s) (alone j).second ∙ and_false (is_in_error (cell_at hold.cells j))
    where
      and_false : (b : Bool) → (b && false) ≡ false
      and_false true = refl
      and_false false = refl

  moves_here : plans.is_next_move seen p ≡ (is_in_error (cell_at hold.cells p) && is_in_sync (standing_of second.state))
  moves_here =
      ap (λ (c : Cell). is_in_error c && is_in_sync c.second) (here second block hold alone t)
      ∙ ap (λ (b : Bool). (is_in_sync (cell_at hold.cells p).standing && b) && is_in_sync (standing_of second.state)) (recalled_same plans.is_unreadable second.recalled (cell_at hold.cells p).reading refl)

  -- the only one that can be
  pub move_is : plans.first_from (plans.is_next_move seen) 0 (length seen.cells) ≡ (if is_in_error (cell_at hold.cells p) && is_in_sync (standing_of second.state) then Some p else None)
  move_is =
      first_only (plans.is_next_move seen) 0 (length seen.cells) p moves_other (omega arith) (omega (arith, sound.within, width second block hold alone t))
      ∙ ap (λ (b : Bool). if b then Some p else None) moves_here
