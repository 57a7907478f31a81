-- Where no read has met an error nothing is fixed, nothing is read again, and no position is lost for it.
use Rattle.std.proofs.Common.{◌≡◌, ◌≢◌, ℕ, false, List, [], ◌∷◌, refl, ap, sym, ◌∙◌, Some, inl, inr}
use Rattle.std.proofs.lemmas.Bool.{and_parts}
use Rattle.r6_stripe.specs.Holds.{Standing, Cell, Event, Hold, Reading, cell_at, replaced, ready_for, after_event}
use Rattle.r6_stripe.specs.Holds.Standing.{InSync, Target, Out}
use Rattle.r6_stripe.specs.Holds.Event.{Asks, Fixes, AsksAgain, Restores, Computes, Writes, Copies, Gives, Fails, Confirms, Mends, Settles, Loses, Moves, Drops}
use Rattle.r6_stripe.specs.Holds.Reading.{Unread, Recalled, Asked, Unreadable, Fixing, Fixed, AskedAgain, Known, Replaced}
use Rattle.r6_stripe.specs.Plans.{Planned, can_fix, is_in_error, is_met, next, planned_after, planned_at, AreSilent, IsSilent}
use Rattle.r6_stripe.specs.Plans.Next.{MoveAt, FixAt, LoseUnreadable, ReadAgainAt}
use Rattle.r6_stripe.proofs.CellsAfter.{Became, cell_after}
use Rattle.r6_stripe.proofs.Going.{any_at}
use Rattle.r6_stripe.proofs.Steps.{again_parts, comes, error_parts}
use Rattle.r6_frames.specs.FramesState.{FramesState}
use Rattle.r6_frames.specs.Owed.{IsUnmet, LacksBlocks}
use Rattle.r6_frames.proofs.PuttingOut.{Way, FirstRead, SecondRead, FixWrite, NewBlock, SecondWrite, put_event}

abbrev pub NoneMet : Hold → Type 0
NoneMet hold = (position : ℕ) → is_met (cell_at hold.cells position).reading ≡ false

pub none_again : (planned : Planned) (position : ℕ) → NoneMet planned.hold → next planned ≢ Some (ReadAgainAt position)
none_again planned position unmet e =
    let fixed = (again_parts planned.hold position (comes planned (ReadAgainAt position) e).3).1 in
    let met = sym (ap is_met fixed) ∙ unmet position in
    cc

pub none_fixed : (planned : Planned) (position : ℕ) → NoneMet planned.hold → next planned ≢ Some (FixAt position)
none_fixed planned position unmet e =
    let test = and_parts (can_fix planned.hold) (is_in_error (cell_at planned.hold.cells position)) (comes planned (FixAt position) e).3 in
    let unreadable = (error_parts (cell_at planned.hold.cells position) test.1).1 in
    let met = sym (ap is_met unreadable) ∙ unmet position in
    cc

none_lost : (planned : Planned) → NoneMet planned.hold → next planned ≢ Some LoseUnreadable
none_lost planned unmet e =
    let found = any_at is_in_error planned.hold.cells (comes planned LoseUnreadable e).2 in
    let unreadable = (error_parts (cell_at planned.hold.cells found.0) found.1).1 in
    let met = sym (ap is_met unreadable) ∙ unmet found.0 in
    cc

none_moved : (planned : Planned) (position : ℕ) → NoneMet planned.hold → next planned ≢ Some (MoveAt position)
none_moved planned position unmet e =
    let error = (and_parts (is_in_error (cell_at planned.hold.cells position)) _ (comes planned (MoveAt position) e).2).0 in
    let unreadable = (error_parts (cell_at planned.hold.cells position) error).1 in
    let met = sym (ap is_met unreadable) ∙ unmet position in
    cc

pub unmet_readable : (fs : FramesState) (frame : ℕ) → IsUnmet fs frame → LacksBlocks fs frame → ⊥
unmet_readable fs frame unmet (inl moves) = none_moved moves.1.0.hold.planned moves.0 (unmet moves.1.0 moves.1.1) moves.1.2
unmet_readable fs frame unmet (inr loses) = none_lost loses.0.hold.planned (unmet loses.0 loses.1) loses.2

-- ---- what a hold does then

replaced_unmet : (r : Reading) → is_met r ≡ false → is_met (replaced r) ≡ false
replaced_unmet Unread e = refl
replaced_unmet Recalled e = refl
replaced_unmet Asked e = refl
replaced_unmet Unreadable e = e
replaced_unmet Fixing e = e
replaced_unmet Fixed e = e
replaced_unmet AskedAgain e = e
replaced_unmet (Known block) e = refl
replaced_unmet Replaced e = refl

ready_unmet : (second : Standing) (cell : Cell) (block : List ℕ) → is_met cell.reading ≡ false → is_met (ready_for second cell block).reading ≡ false
ready_unmet InSync cell block unmet = replaced_unmet cell.reading unmet
ready_unmet Target cell block unmet = replaced_unmet cell.reading unmet
ready_unmet Out cell block unmet = replaced_unmet cell.reading unmet

abbrev pub IsFirst : Event → Type 0
IsFirst (Asks i) = record {}
IsFirst (Restores i block) = record {}
IsFirst (Computes new) = record {}
IsFirst (Writes i block) = record {}
IsFirst (Copies i block) = record {}
IsFirst event = ⊥

unmet_became : (event : Event) (j : ℕ) (before later : Cell) → IsFirst event → Became event j before later → is_met before.reading ≡ false → is_met later.reading ≡ false
unmet_became (Asks i) j before later first b unmet = ap (λ (c : Cell). is_met c.reading) b.1
unmet_became (Fixes i block) j before later first b unmet = absurd first
unmet_became (AsksAgain i) j before later first b unmet = absurd first
unmet_became (Restores i block) j before later first b unmet = ap (λ (c : Cell). is_met c.reading) b.1
unmet_became (Computes new) j before later first b unmet = ap (λ (c : Cell). is_met c.reading) b.1.1 ∙ ready_unmet before.second before b.1.0 unmet
unmet_became (Writes i block) j before later first b unmet = ap (λ (c : Cell). is_met c.reading) b.1 ∙ unmet
unmet_became (Gives i block) j before later first b unmet = absurd first
unmet_became (Fails i) j before later first b unmet = absurd first
unmet_became (Confirms i) j before later first b unmet = absurd first
unmet_became (Mends i) j before later first b unmet = absurd first
unmet_became (Copies i block) j before later first b unmet = ap (λ (c : Cell). is_met c.reading) b.1 ∙ unmet
unmet_became (Settles i) j before later first b unmet = absurd first
unmet_became (Loses i) j before later first b unmet = absurd first
unmet_became (Moves i) j before later first b unmet = absurd first
unmet_became (Drops i) j before later first b unmet = absurd first

unmet_after : (hold : Hold) (event : Event) → IsFirst event → NoneMet hold → NoneMet (after_event hold event)
unmet_after hold event first unmet j =
    elim (cell_after hold event j) [
      | inl same ↦ ap (λ (c : Cell). is_met c.reading) same ∙ unmet j
      | inr became ↦ unmet_became event j (cell_at hold.cells j) (cell_at (after_event hold event).cells j) first became (unmet j)
    ]

silent_first : (event : Event) → IsSilent event → IsFirst event
silent_first (Restores i block) silent = record {}
silent_first (Computes new) silent = record {}
silent_first (Asks i) silent = absurd silent
silent_first (Fixes i block) silent = absurd silent
silent_first (AsksAgain i) silent = absurd silent
silent_first (Writes i block) silent = absurd silent
silent_first (Gives i block) silent = absurd silent
silent_first (Fails i) silent = absurd silent
silent_first (Confirms i) silent = absurd silent
silent_first (Mends i) silent = absurd silent
silent_first (Copies i block) silent = absurd silent
silent_first (Settles i) silent = absurd silent
silent_first (Loses i) silent = absurd silent
silent_first (Moves i) silent = absurd silent
silent_first (Drops i) silent = absurd silent

pub unmet_prepared : (planned : Planned) (events : List Event) → AreSilent events → NoneMet planned.hold → NoneMet (planned_at planned events).hold
unmet_prepared planned [] silent unmet = unmet
unmet_prepared planned (event ∷ events) silent unmet = unmet_prepared (planned_after planned event) events silent.1 (unmet_after planned.hold event (silent_first event silent.0) unmet)

-- a first read, or a new block, is put out
abbrev pub IsFirstWay : Way → Type 0
IsFirstWay FirstRead = record {}
IsFirstWay SecondRead = ⊥
IsFirstWay FixWrite = ⊥
IsFirstWay NewBlock = record {}
IsFirstWay SecondWrite = record {}

pub unmet_put : (planned : Planned) (position : ℕ) (way : Way) (buffer : List ℕ) → IsFirstWay way → NoneMet planned.hold → NoneMet (planned_after planned (put_event position way buffer)).hold
unmet_put planned position FirstRead buffer first unmet = unmet_after planned.hold (Asks position) (record {}) unmet
unmet_put planned position SecondRead buffer first unmet = absurd first
unmet_put planned position FixWrite buffer first unmet = absurd first
unmet_put planned position NewBlock buffer first unmet = unmet_after planned.hold (Writes position buffer) (record {}) unmet
unmet_put planned position SecondWrite buffer first unmet = unmet_after planned.hold (Copies position buffer) (record {}) unmet
