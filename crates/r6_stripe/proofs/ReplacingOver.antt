-- Whether a hold with the target of a rebuild beside one position has given up, what is out of it, and what comes next
-- where the target is lost or its block has left.
use Rattle.std.proofs.Common.{◌≡◌, ◌≢◌, Bool, true, false, ℕ, zero, suc, ◌-◌, ◌<◌, List, [], ◌∷◌, length, refl, sym, ◌∙◌, ap, arith, Some, None, Option}
use Rattle.std.specs.Prelude.{not, nat_lt, ◌&&◌, ◌||◌, if◌then◌else◌}
use Rattle.std.specs.List.{list_any}
use Rattle.std.proofs.lemmas.Bool.{and_right}
use Rattle.r6_stripe.specs.Holds.{Standing, Writing, Cell, Hold, cell_at}
use Rattle.r6_stripe.specs.Holds.Standing.{InSync, Target, Out}
use Rattle.r6_stripe.specs.Holds.Kind.{Idle, Rebuild}
use Rattle.r6_stripe.specs.Plans as plans
use Rattle.r6_stripe.specs.Plans.{Next, Plan, Planned, first_from, or_else}
use Rattle.r6_stripe.specs.Plans.Next.{ReadAt, LoseUnreadable, ComputeNew}
use Rattle.r6_stripe.specs.Plans.Plan.{One, Recover}
use Rattle.r6_stripe.specs.Replacements.{IsReplacing, is_gone, planned_beside, replacing, replacing_at, written_as}
use Rattle.r6_stripe.specs.Steps.{Held, is_loss, loses_unreadable, move_of, moves_unreadable}
use Rattle.r6_stripe.specs.declared.replacement.Stage.{Stage}
use Rattle.r6_stripe.specs.declared.replacement.Stage.TheVariants as stage
use Rattle.r6_stripe.specs.declared.replacement.Replacement.{Replacement}
use Rattle.r6_stripe.proofs.Places.{any_false}
use Rattle.r6_stripe.proofs.Replacing.{at_other, at_position}
use Rattle.r6_stripe.proofs.ReplacingNext.{again_out_is, asked_is, fix_out_is, loss_is, losses, row_wide}

-- only one cell can pass
any_one : (test : Cell → Bool) (cells : List Cell) (p : ℕ) → p < length cells → ((i : ℕ) → i ≢ p → test (cell_at cells i) ≡ false) → list_any test cells ≡ test (cell_at cells p)
any_one test [] p below others = absurd (omega arith)
any_one test (cell ∷ cells) zero below others =
    ap (λ (b : Bool). test cell || b) (any_false test cells (λ i inside. others (suc i) (λ e. omega (arith, e)))) ∙ or_false (test cell)
  where
    or_false : (b : Bool) → (b || false) ≡ b
    or_false true = refl
    or_false false = refl
any_one test (cell ∷ cells) (suc p) below others =
    let first : test cell ≡ false = others zero (λ e. omega (arith, e)) in
    ap (λ (b : Bool). b || list_any test cells) first ∙ any_one test cells p (omega arith) (λ i apart. others (suc i) (λ e. apart (omega (arith, e))))

module _ (held : Held) (r : Replacement) (is : IsReplacing held r) where
  abbrev plain : Hold
  plain = held.planned.hold

  abbrev cells : List Cell
  cells = held.planned.hold.cells

  abbrev p : ℕ
  p = r.position

  abbrev here : Cell
  here = cell_at cells p

  abbrev seen : Planned
  seen = planned_beside r held.planned

  abbrev row : List Cell
  row = replacing_at r.stage r.written p cells

  -- ---- whether it has given up

  pub closed_up : r.closed ≡ true → plans.gives_up seen.hold ≡ true
  closed_up e = ap (λ (b : Bool). plans.has_lost seen.hold (if b then Idle else Rebuild p)) e

  pub up_is : r.closed ≡ false → plans.gives_up seen.hold ≡ not (plans.has_target (cell_at row p))
  up_is going = ap (λ (b : Bool). plans.has_lost seen.hold (if b then Idle else Rebuild p)) going

  pub next_up : plans.gives_up seen.hold ≡ true → plans.next seen ≡ plans.next_again seen.hold
  next_up up = rw up refl

  is_lost : losses held r is ≡ losses held r is → (b : Bool) → is_loss (if b then Some LoseUnreadable else None) ≡ b
  is_lost e true = refl
  is_lost e false = refl

  pub loses_none : is_loss (losses held r is) ≡ false → losses held r is ≡ None
  loses_none = by_test (nat_lt (plans.knowable_count cells) (length cells - 2) && list_any plans.is_in_error cells)
    where
      by_test : (b : Bool) → is_loss (if b then Some LoseUnreadable else None) ≡ false → ◌≡◌ {A = Option Next} (if b then Some LoseUnreadable else None) None
      by_test true e = absurd cc
      by_test false e = refl

  pub loses_some : is_loss (losses held r is) ≡ true → losses held r is ≡ Some LoseUnreadable
  loses_some = by_test (nat_lt (plans.knowable_count cells) (length cells - 2) && list_any plans.is_in_error cells)
    where
      by_test : (b : Bool) → is_loss (if b then Some LoseUnreadable else None) ≡ true → ◌≡◌ {A = Option Next} (if b then Some LoseUnreadable else None) (Some LoseUnreadable)
      by_test true e = refl
      by_test false e = absurd cc

  pub too_few : r.closed ≡ false → plans.has_target (cell_at row p) ≡ true → loses_unreadable seen ≡ is_loss (losses held r is)
  too_few going there =
      (λ k. not ((up_is going ∙ ap not there) k) && is_loss (loss_is held r is k))

  pub keeps_all : plans.gives_up seen.hold ≡ true → loses_unreadable seen ≡ false
  keeps_all up = ap (λ (b : Bool). not b && is_loss (plans.next_loss seen.hold)) up

  pub no_moves : moves_unreadable seen ≡ None
  no_moves = ap (λ (o : Option Next). if plans.gives_up seen.hold then None else move_of o) (loss_is held r is) ∙ by_tests (plans.gives_up seen.hold) (nat_lt (plans.knowable_count cells) (length cells - 2) && list_any plans.is_in_error cells)
    where
      by_tests : (a b : Bool) → ◌≡◌ {A = Option ℕ} (if a then None else move_of (if b then Some LoseUnreadable else None)) None
      by_tests true b = refl
      by_tests false true = refl
      by_tests false false = refl

  -- ---- what is out

  abbrev pub sends : Bool
  sends = plans.is_sent (written_as r.written) && (not (is_gone r.stage) && not (plans.is_out (cell_at held.planned.hold.cells r.position).standing))

  plain_unsent : plans.any_live (λ cell. plans.is_sent cell.writing) plain ≡ false
  plain_unsent = any_false (λ cell. not (plans.is_out cell.standing) && plans.is_sent cell.writing) cells
      (λ i below. ap (λ (w : Writing). not (plans.is_out (cell_at cells i).standing) && plans.is_sent w) (is.sources i).writing ∙ and_right (not (plans.is_out (cell_at cells i).standing)) false refl)

  plain_uncopied : list_any (λ cell. not (plans.is_out cell.second) && plans.is_sent cell.copying) cells ≡ false
  plain_uncopied = any_false (λ cell. not (plans.is_out cell.second) && plans.is_sent cell.copying) cells (λ i below. ap (λ (t : Standing). not (plans.is_out t) && plans.is_sent (cell_at cells i).copying) (is.sources i).second)

  sent_at : (i : ℕ) → i ≢ p → (not (plans.is_out (cell_at row i).standing) && plans.is_sent (cell_at row i).writing) ≡ false
  sent_at i apart =
      ap (λ (c : Cell). not (plans.is_out c.standing) && plans.is_sent c.writing) (at_other r.stage r.written p cells i apart)
      ∙ ap (λ (w : Writing). not (plans.is_out (cell_at cells i).standing) && plans.is_sent w) (is.sources i).writing ∙ and_right (not (plans.is_out (cell_at cells i).standing)) false refl

  copied_at : (i : ℕ) → i ≢ p → (not (plans.is_out (cell_at row i).second) && plans.is_sent (cell_at row i).copying) ≡ false
  copied_at i apart =
      ap (λ (c : Cell). not (plans.is_out c.second) && plans.is_sent c.copying) (at_other r.stage r.written p cells i apart)
      ∙ ap (λ (t : Standing). not (plans.is_out t) && plans.is_sent (cell_at cells i).copying) (is.sources i).second

  row_sends : (plans.any_live (λ cell. plans.is_sent cell.writing) seen.hold || list_any (λ cell. not (plans.is_out cell.second) && plans.is_sent cell.copying) row) ≡ sends
  row_sends =
      let inside : p < length row = omega (arith, is.within, row_wide held r is) in
      (λ k. any_one (λ cell. not (plans.is_out cell.standing) && plans.is_sent cell.writing) row p inside sent_at k || any_one (λ cell. not (plans.is_out cell.second) && plans.is_sent cell.copying) row p inside copied_at k)
      ∙ ap (λ (c : Cell). (not (plans.is_out c.standing) && plans.is_sent c.writing) || (not (plans.is_out c.second) && plans.is_sent c.copying)) (at_position r.stage r.written p cells is.within)
      ∙ by_stage r.stage here.standing (plans.is_sent (written_as r.written))
    where
      by_stage : (s : Stage) (t : Standing) (b : Bool) →
          ((not (plans.is_out (replacing s r.written (record here { standing = t })).standing) && plans.is_sent (replacing s r.written (record here { standing = t })).writing)
          || (not (plans.is_out (replacing s r.written (record here { standing = t })).second) && plans.is_sent (replacing s r.written (record here { standing = t })).copying))
          ≡ (plans.is_sent (written_as r.written) && (not (is_gone s) && not (plans.is_out t)))
      by_stage stage.Beside InSync b = turn (plans.is_sent (written_as r.written))
        where
          turn : (b : Bool) → ((true && false) || (true && b)) ≡ (b && (true && true))
          turn true = refl
          turn false = refl
      by_stage stage.Beside Target b = turn (plans.is_sent (written_as r.written))
        where
          turn : (b : Bool) → ((true && false) || (true && b)) ≡ (b && (true && true))
          turn true = refl
          turn false = refl
      by_stage stage.Beside Out b = turn (plans.is_sent (written_as r.written))
        where
          turn : (b : Bool) → ((false && false) || (false && b)) ≡ (b && (true && false))
          turn true = refl
          turn false = refl
      by_stage stage.Moved InSync b = turn (plans.is_sent (written_as r.written))
        where
          turn : (b : Bool) → ((true && b) || (false && false)) ≡ (b && (true && true))
          turn true = refl
          turn false = refl
      by_stage stage.Moved Target b = turn (plans.is_sent (written_as r.written))
        where
          turn : (b : Bool) → ((true && b) || (false && false)) ≡ (b && (true && true))
          turn true = refl
          turn false = refl
      by_stage stage.Moved Out b = turn (plans.is_sent (written_as r.written))
        where
          turn : (b : Bool) → ((false && b) || (false && false)) ≡ (b && (true && false))
          turn true = refl
          turn false = refl
      by_stage stage.Dropped InSync b = turn (plans.is_sent (written_as r.written))
        where
          turn : (b : Bool) → ((true && false) || (false && false)) ≡ (b && (false && true))
          turn true = refl
          turn false = refl
      by_stage stage.Dropped Target b = turn (plans.is_sent (written_as r.written))
        where
          turn : (b : Bool) → ((true && false) || (false && false)) ≡ (b && (false && true))
          turn true = refl
          turn false = refl
      by_stage stage.Dropped Out b = turn (plans.is_sent (written_as r.written))
        where
          turn : (b : Bool) → ((false && false) || (false && false)) ≡ (b && (false && false))
          turn true = refl
          turn false = refl

  pub out_is : (plans.has_read_out seen.hold || plans.has_write_out seen.hold) ≡ ((plans.has_read_out plain || plans.has_write_out plain) || sends)
  out_is =
      (λ k. (asked_is held r is k || again_out_is held r is k) || (fix_out_is held r is k || row_sends k))
      ∙ apart (plans.has_read_out plain) (plans.has_fix_out plain) sends
      ∙ sym (λ k. (plans.has_read_out plain || (plans.has_fix_out plain || (plain_unsent k || plain_uncopied k))) || sends)
    where
      apart : (a f s : Bool) → (a || (f || s)) ≡ ((a || (f || (false || false))) || s)
      apart true f s = refl
      apart false true s = refl
      apart false false s = refl
