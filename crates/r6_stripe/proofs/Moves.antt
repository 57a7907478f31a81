-- What the plan does where too few blocks can still become known: a position is read from its second device, if one has it.
use Rattle.std.proofs.Common.{◌≡◌, ◌≢◌, Bool, true, false, ℕ, zero, suc, ◌+◌, ◌<◌, List, [], ◌∷◌, length, set, refl, sym, ◌∙◌, arith, inl, inr}
use Rattle.std.specs.Prelude.{◌&&◌, ◌||◌, not}
use Rattle.std.proofs.lemmas.Bool.{and_parts, and_cases, false≢true, true≢false}
use Rattle.r6_stripe.specs.Holds.{Standing, Reading, Cell, Hold, cell_at, count_where, moved, reading_after, after_event}
use Rattle.r6_stripe.specs.Holds.Standing.{InSync, Target, Out}
use Rattle.r6_stripe.specs.Holds.Reading.{Unread, Recalled, Asked, Unreadable, Fixing, Fixed, AskedAgain, Known, Replaced}
use Rattle.r6_stripe.specs.Holds.Event.{Moves}
use Rattle.r6_stripe.specs.Plans.{Planned, MayFollow, is_in_sync, is_in_error, is_knowable, is_next_move, knowable_count, next}
use Rattle.r6_stripe.specs.Plans.Next.{MoveAt, LoseUnreadable}
use Rattle.r6_stripe.specs.PlanLaws.{MovesLaw}
use Rattle.r6_stripe.proofs.Bound.{within}
use Rattle.r6_stripe.proofs.Over.{first_none}
use Rattle.r6_stripe.proofs.Steps.{comes}

-- what a test counts once a position passes that didn't
count_passes : (test : Cell → Bool) (cells : List Cell) (i : ℕ) (cell : Cell) → i < length cells → test (cell_at cells i) ≡ false → test cell ≡ true
    → count_where test (set cells i cell) ≡ count_where test cells + 1
count_passes test [] i cell below was now = absurd (omega arith)
count_passes test (first ∷ cells) zero cell below was now = rw (was, now) (omega arith)
count_passes test (first ∷ cells) (suc i) cell below was now =
    let rest = count_passes test cells i cell (omega arith) was now in
    omega (arith, rest)

in_sync_is : (s : Standing) → is_in_sync s ≡ true → s ≡ InSync
in_sync_is InSync e = refl
in_sync_is Target e = absurd (false≢true e)
in_sync_is Out e = absurd (false≢true e)

unreadable_is : (s : Standing) (r : Reading) → (is_in_sync s && Rattle.r6_stripe.specs.Plans.is_unreadable r) ≡ true → (s ≡ InSync) × (r ≡ Unreadable)
unreadable_is InSync Unreadable e = (refl, refl)
unreadable_is InSync Unread e = absurd (false≢true e)
unreadable_is InSync Recalled e = absurd (false≢true e)
unreadable_is InSync Asked e = absurd (false≢true e)
unreadable_is InSync Fixing e = absurd (false≢true e)
unreadable_is InSync Fixed e = absurd (false≢true e)
unreadable_is InSync AskedAgain e = absurd (false≢true e)
unreadable_is InSync (Known block) e = absurd (false≢true e)
unreadable_is InSync Replaced e = absurd (false≢true e)
unreadable_is Target r e = absurd (false≢true e)
unreadable_is Out r e = absurd (false≢true e)

-- an unreadable block can't become known, and can once its read is put out to a second device in sync
not_knowable : (cell : Cell) → cell.reading ≡ Unreadable → is_knowable cell ≡ false
not_knowable cell e = by_standing cell.standing
  where
    by_standing : (s : Standing) → (Rattle.r6_stripe.specs.Holds.is_known cell.reading || (is_in_sync s && not (Rattle.r6_stripe.specs.Plans.is_unreadable cell.reading))) ≡ false
    by_standing InSync = rw e refl
    by_standing Target = rw e refl
    by_standing Out = rw e refl

moved_knowable : (cell : Cell) → cell.reading ≡ Unreadable → cell.second ≡ InSync → is_knowable (moved cell) ≡ true
moved_knowable cell e f = rw (e, f) refl

pub moves_law_holds : MovesLaw
moves_law_holds planned = (
  (λ position e.
      let hold : Hold = planned.hold in
      let cell : Cell = cell_at hold.cells position in
      let c = comes planned (MoveAt position) e in
      let parts = and_parts (is_in_error cell) (is_in_sync cell.second) c.2 in
      let met = unreadable_is cell.standing cell.reading parts.0 in
      let second = in_sync_is cell.second parts.1 in
      let there : cell.standing ≢ Out = (λ out. let both : InSync ≡ Out = sym met.0 ∙ out in cc) in (
        (there, (λ out. let both : InSync ≡ Out = sym second ∙ out in cc)),
        count_passes is_knowable hold.cells position (moved cell) (within hold.cells position there) (not_knowable cell met.1) (moved_knowable cell met.1 second),
      )),
  (λ e position met.
      let hold : Hold = planned.hold in
      let cell : Cell = cell_at hold.cells position in
      let c = comes planned LoseUnreadable e in
      let is = unreadable_is cell.standing cell.reading met in
      let below : position < length hold.cells = within hold.cells position (λ out. let both : InSync ≡ Out = sym is.0 ∙ out in cc) in
      let none = first_none (is_next_move hold) 0 (length hold.cells) c.3 position (omega arith) (omega arith) in
      elim (and_cases (is_in_error cell) (is_in_sync cell.second) none) [
        | inl no_error ↦ absurd (true≢false (sym met ∙ no_error))
        | inr no_second ↦ no_second
      ]),
)
