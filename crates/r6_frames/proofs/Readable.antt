-- Which events of a hold leave as many blocks that are known or can still become so.
use Rattle.std.proofs.Common.{◌≡◌, ◌⊎◌, ℕ, suc, ◌≤◌, Bool, true, false, List, [], ◌∷◌, length, refl, sym, ap, subst, ◌∙◌, Option, Some, None, inl, inr, arith}
use Rattle.std.specs.Prelude.{◌||◌, ◌&&◌, not, if◌then◌else◌, nat_lt}
use Rattle.std.specs.List.{list_any}
use Rattle.std.proofs.lemmas.Bool.{and_parts, lt-ltb, ltb-true, or_right}
use Rattle.r6_stripe.specs.Holds.{count_where, Hold, Standing, Cell, Kind, Reading, Event, cell_at, is_known, replaced, ready_for, after_event}
use Rattle.r6_stripe.specs.Holds.Standing.{InSync, Target, Out}
use Rattle.r6_stripe.specs.Holds.Reading.{Unread, Recalled, Asked, Unreadable, Fixing, Fixed, AskedAgain, Known, Replaced}
use Rattle.r6_stripe.specs.Holds.Event.{Asks, Fixes, AsksAgain, Restores, Computes, Writes, Copies, Gives, Fails, Confirms, Mends, Settles, Loses, Moves, Drops}
use Rattle.r6_stripe.specs.Holds.Kind.{Idle, Read, Write, Rebuild, Check, Repair}
use Rattle.r6_stripe.specs.Plans.{Planned, data_count, gives_up, has_lost, is_in_error, is_in_sync, is_knowable, is_unreadable, knowable_count, next, planned_after, planned_at, IsPlanned, IsSilent, AreSilent, MayFollow, Next, first_from, is_next_move, is_target, next_loss, or_lose}
use Rattle.r6_stripe.specs.Plans.Next.{ReadAt, FixAt, ReadAgainAt, MoveAt, LoseUnreadable, RestoreAt, ComputeNew, WriteAt, CopyAt}
use Rattle.r6_stripe.specs.Steps.{is_loss, loses_unreadable, move_of, moves_unreadable}
use Rattle.r6_stripe.proofs.Bound.{within}
use Rattle.r6_stripe.proofs.CellsAfter.{Became, cell_after, kind_after, width_after}
use Rattle.r6_stripe.proofs.Going.{any_at}
use Rattle.r6_stripe.proofs.Places.{any_true}
use Rattle.r6_stripe.proofs.Steps.{comes, step_by_rules}
use Rattle.r6_frames.specs.FramesState.{FramesState}
use Rattle.r6_frames.specs.declared.frames.HeldRow.{HeldRow}
use Rattle.r6_frames.specs.Views.{hold_at}
use Rattle.r6_frames.specs.Owed.{LacksBlocks}
use Rattle.r6_frames.proofs.HeldRows.{IsSteady, standing_stays, second_stays}

-- ---- positions are lost next

loss_is : (o : Option Next) → is_loss o ≡ true → o ≡ Some LoseUnreadable
loss_is None e = absurd (cc)
loss_is (Some (ReadAt i)) e = absurd (cc)
loss_is (Some (FixAt i)) e = absurd (cc)
loss_is (Some (ReadAgainAt i)) e = absurd (cc)
loss_is (Some (MoveAt i)) e = absurd (cc)
loss_is (Some LoseUnreadable) e = refl
loss_is (Some (RestoreAt i)) e = absurd (cc)
loss_is (Some ComputeNew) e = absurd (cc)
loss_is (Some (WriteAt i)) e = absurd (cc)
loss_is (Some (CopyAt i)) e = absurd (cc)

pub loses_next : (planned : Planned) → loses_unreadable planned ≡ true → next planned ≡ Some LoseUnreadable
loses_next planned loses = by_tests (gives_up planned.hold) (next_loss planned.hold) refl refl loses
  where
    by_tests : (up : Bool) (loss : Option Next) → gives_up planned.hold ≡ up → next_loss planned.hold ≡ loss → (not up && is_loss loss) ≡ true → next planned ≡ Some LoseUnreadable
    by_tests true loss e f is = absurd (cc)
    by_tests false loss e f is = rw e (rw (f ∙ loss_is loss is) refl)

pub next_loses : (planned : Planned) → next planned ≡ Some LoseUnreadable → loses_unreadable planned ≡ true
next_loses planned is = let c = comes planned LoseUnreadable is in λ i. not (c.0 i) && is_loss (if c.1 i && c.2 i then Some (or_lose (c.3 i)) else None)

-- ---- the first of two devices gives way next

move_is : (o : Option Next) (position : ℕ) → move_of o ≡ Some position → o ≡ Some (MoveAt position)
move_is None position e = absurd (cc)
move_is (Some (ReadAt i)) position e = absurd (cc)
move_is (Some (FixAt i)) position e = absurd (cc)
move_is (Some (ReadAgainAt i)) position e = absurd (cc)
move_is (Some (MoveAt i)) position e = cc
move_is (Some LoseUnreadable) position e = absurd (cc)
move_is (Some (RestoreAt i)) position e = absurd (cc)
move_is (Some ComputeNew) position e = absurd (cc)
move_is (Some (WriteAt i)) position e = absurd (cc)
move_is (Some (CopyAt i)) position e = absurd (cc)

pub moves_next : (planned : Planned) (position : ℕ) → moves_unreadable planned ≡ Some position → next planned ≡ Some (MoveAt position)
moves_next planned position moves = by_tests (gives_up planned.hold) (next_loss planned.hold) refl refl moves
  where
    by_tests : (up : Bool) (loss : Option Next) → gives_up planned.hold ≡ up → next_loss planned.hold ≡ loss → (if up then None else move_of loss) ≡ Some position → next planned ≡ Some (MoveAt position)
    by_tests true loss e f is = absurd (cc)
    by_tests false loss e f is = rw e (rw (f ∙ move_is loss position is) refl)

-- ---- an event that takes no device out, and is no read error

abbrev pub IsHelpful : Event → Type 0
IsHelpful (Fails i) = ⊥
IsHelpful (Loses i) = ⊥
IsHelpful (Moves i) = ⊥
IsHelpful (Drops i) = ⊥
IsHelpful event = record {}

helps_steady : (event : Event) → IsHelpful event → IsSteady event
helps_steady (Asks i) helps = record {}
helps_steady (Fixes i block) helps = record {}
helps_steady (AsksAgain i) helps = record {}
helps_steady (Restores i block) helps = record {}
helps_steady (Computes new) helps = record {}
helps_steady (Writes i block) helps = record {}
helps_steady (Copies i block) helps = record {}
helps_steady (Gives i block) helps = record {}
helps_steady (Fails i) helps = absurd helps
helps_steady (Confirms i) helps = record {}
helps_steady (Mends i) helps = record {}
helps_steady (Settles i) helps = record {}
helps_steady (Loses i) helps = absurd helps
helps_steady (Moves i) helps = absurd helps
helps_steady (Drops i) helps = absurd helps

cut_same : (hold : Hold) (event : Event) → IsHelpful event → (after_event hold event).cut_short ≡ hold.cut_short
cut_same hold (Asks i) helps = refl
cut_same hold (Fixes i block) helps = refl
cut_same hold (AsksAgain i) helps = refl
cut_same hold (Restores i block) helps = refl
cut_same hold (Computes new) helps = refl
cut_same hold (Writes i block) helps = refl
cut_same hold (Copies i block) helps = refl
cut_same hold (Gives i block) helps = refl
cut_same hold (Fails i) helps = absurd helps
cut_same hold (Confirms i) helps = refl
cut_same hold (Mends i) helps = refl
cut_same hold (Settles i) helps = refl
cut_same hold (Loses i) helps = absurd helps
cut_same hold (Moves i) helps = absurd helps
cut_same hold (Drops i) helps = absurd helps

lost_same : (hold : Hold) (event : Event) (kind : Kind) → IsHelpful event → has_lost (after_event hold event) kind ≡ has_lost hold kind
lost_same hold event Idle helps = refl
lost_same hold event (Read index) helps = refl
lost_same hold event (Write batch) helps = refl
lost_same hold event (Rebuild target) helps =
    let first = standing_stays hold event target (helps_steady event helps) in
    let second = second_stays hold event target (helps_steady event helps) in
    λ i. not (is_target (first i) || is_target (second i))
lost_same hold event Check helps = cut_same hold event helps
lost_same hold event Repair helps = cut_same hold event helps

-- ---- what it makes of a position

-- a block that was known, or could become so, is or can still; and no other read met an error
record IsHelped (before later : Cell) : Type 0 where
  pub knowable : is_knowable before ≡ true → is_knowable later ≡ true
  pub error : is_in_error later ≡ true → is_in_error before ≡ true

helped_same : (before later : Cell) → is_knowable later ≡ is_knowable before → is_in_error later ≡ is_in_error before → IsHelped before later
helped_same before later knowable error = record { knowable = λ is. knowable ∙ is; error = λ is. sym error ∙ is }

-- its block can become known, and it has no read error
helped_to : (before later : Cell) → is_knowable later ≡ true → is_in_error later ≡ false → IsHelped before later
helped_to before later knowable error = record { knowable = λ is. knowable; error = λ is. absurd (let both = sym error ∙ is in cc) }

-- a position in sync whose block is to be read
to_read : (before : Cell) (r : Reading) → before.standing ≡ InSync → is_unreadable r ≡ false → IsHelped before (record before { reading = r })
to_read before r in_sync readable =
    helped_to before (record before { reading = r })
    (or_right (is_known r) (is_in_sync before.standing && not (is_unreadable r)) (λ i. is_in_sync (in_sync i) && not (readable i)))
    (λ i. is_in_sync (in_sync i) && readable i)

known_now : (before : Cell) (block : List ℕ) → IsHelped before (record before { reading = Known block })
known_now before block = helped_to before (record before { reading = Known block }) refl (and_none (is_in_sync before.standing))
  where
    and_none : (b : Bool) → (b && false) ≡ false
    and_none true = refl
    and_none false = refl

ready_now : (second : Standing) (before : Cell) (block : List ℕ) → IsHelped before (ready_for second before block)
ready_now second before block = by_second second
  where
    known : (r : Reading) → is_known (replaced r) ≡ is_known r
    known Unread = refl
    known Recalled = refl
    known Asked = refl
    known Unreadable = refl
    known Fixing = refl
    known Fixed = refl
    known AskedAgain = refl
    known (Known b) = refl
    known Replaced = refl

    unreadable : (r : Reading) → is_unreadable (replaced r) ≡ is_unreadable r
    unreadable Unread = refl
    unreadable Recalled = refl
    unreadable Asked = refl
    unreadable Unreadable = refl
    unreadable Fixing = refl
    unreadable Fixed = refl
    unreadable AskedAgain = refl
    unreadable (Known b) = refl
    unreadable Replaced = refl

    by_second : (s : Standing) → IsHelped before (ready_for s before block)
    by_second InSync =
        helped_same before (ready_for InSync before block)
        (λ i. known before.reading i || (is_in_sync before.standing && not (unreadable before.reading i))) (λ i. is_in_sync before.standing && unreadable before.reading i)
    by_second Target =
        helped_same before (ready_for Target before block)
        (λ i. known before.reading i || (is_in_sync before.standing && not (unreadable before.reading i))) (λ i. is_in_sync before.standing && unreadable before.reading i)
    by_second Out =
        helped_same before (ready_for Out before block)
        (λ i. known before.reading i || (is_in_sync before.standing && not (unreadable before.reading i))) (λ i. is_in_sync before.standing && unreadable before.reading i)

helped_became : (planned : Planned) (event : Event) (j : ℕ) (later : Cell) → IsHelpful event → MayFollow planned event → Became event j (cell_at planned.hold.cells j) later
    → IsHelped (cell_at planned.hold.cells j) later
helped_became planned (Asks i) j later helps may b =
    let in_sync = ap (λ (k : ℕ). (cell_at planned.hold.cells k).standing) b.0 ∙ (step_by_rules planned (Asks i) may).in_sync in
    subst (IsHelped (cell_at planned.hold.cells j)) (sym b.1) (to_read (cell_at planned.hold.cells j) Asked in_sync refl)
helped_became planned (Fixes i block) j later helps may b =
    let in_sync = ap (λ (k : ℕ). (cell_at planned.hold.cells k).standing) b.0 ∙ (step_by_rules planned (Fixes i block) may).in_sync in
    subst (IsHelped (cell_at planned.hold.cells j)) (sym b.1) (to_read (cell_at planned.hold.cells j) Fixing in_sync refl)
helped_became planned (AsksAgain i) j later helps may b =
    let in_sync = ap (λ (k : ℕ). (cell_at planned.hold.cells k).standing) b.0 ∙ (step_by_rules planned (AsksAgain i) may).in_sync in
    subst (IsHelped (cell_at planned.hold.cells j)) (sym b.1) (to_read (cell_at planned.hold.cells j) AskedAgain in_sync refl)
helped_became planned (Restores i block) j later helps may b = subst (IsHelped (cell_at planned.hold.cells j)) (sym b.1) (known_now (cell_at planned.hold.cells j) block)
helped_became planned (Computes new) j later helps may b = subst (IsHelped (cell_at planned.hold.cells j)) (sym b.1.1) (ready_now (cell_at planned.hold.cells j).second (cell_at planned.hold.cells j) b.1.0)
helped_became planned (Writes i block) j later helps may b = subst (IsHelped (cell_at planned.hold.cells j)) (sym b.1) (helped_same _ _ refl refl)
helped_became planned (Gives i block) j later helps may b = subst (IsHelped (cell_at planned.hold.cells j)) (sym b.1) (known_now (cell_at planned.hold.cells j) block)
helped_became planned (Fails i) j later helps may b = absurd helps
helped_became planned (Confirms i) j later helps may b = subst (IsHelped (cell_at planned.hold.cells j)) (sym b.1) (helped_same _ _ refl refl)
helped_became planned (Mends i) j later helps may b =
    let before = cell_at planned.hold.cells j in
    let was : before.reading ≡ Fixing = ap (λ (k : ℕ). (cell_at planned.hold.cells k).reading) b.0 ∙ may.1 in
    subst (IsHelped before) (sym b.1)
    (helped_same before (record before { reading = Fixed })
    (λ i. is_known (sym was i) || (is_in_sync before.standing && not (is_unreadable (sym was i)))) (λ i. is_in_sync before.standing && is_unreadable (sym was i)))
helped_became planned (Copies i block) j later helps may b = subst (IsHelped (cell_at planned.hold.cells j)) (sym b.1) (helped_same _ _ refl refl)
helped_became planned (Settles i) j later helps may b = subst (IsHelped (cell_at planned.hold.cells j)) (sym b.1) (helped_same _ _ refl refl)
helped_became planned (Loses i) j later helps may b = absurd helps
helped_became planned (Moves i) j later helps may b = absurd helps
helped_became planned (Drops i) j later helps may b = absurd helps

helped_at : (planned : Planned) (event : Event) (j : ℕ) → IsHelpful event → MayFollow planned event → IsHelped (cell_at planned.hold.cells j) (cell_at (after_event planned.hold event).cells j)
helped_at planned event j helps may =
    elim (cell_after planned.hold event j) [
      | inl same ↦ helped_same (cell_at planned.hold.cells j) (cell_at (after_event planned.hold event).cells j) (ap is_knowable same) (ap is_in_error same)
      | inr became ↦ helped_became planned event j (cell_at (after_event planned.hold event).cells j) helps may became
    ]

-- ---- in the row

one_more : (b c : Bool) → (b ≡ true → c ≡ true) → (if b then 1 else 0) ≤ (if c then 1 else 0)
one_more true true h = omega arith
one_more true false h = absurd (let e = h refl in cc)
one_more false true h = omega arith
one_more false false h = omega arith

count_more : (test : Cell → Bool) (old new : List Cell) → length new ≡ length old → ((j : ℕ) → test (cell_at old j) ≡ true → test (cell_at new j) ≡ true) → count_where test old ≤ count_where test new
count_more test [] [] wide more = omega arith
count_more test [] (c ∷ new) wide more = absurd (omega arith)
count_more test (b ∷ old) [] wide more = absurd (omega arith)
count_more test (b ∷ old) (c ∷ new) wide more =
    let rest = count_more test old new (omega arith) (λ j. more (suc j)) in
    let here = one_more (test b) (test c) (more 0) in
    omega arith

-- ---- too few blocks can still become known

-- the first of two devices gives way next, or positions are lost
abbrev pub Lacks : Planned → Type 0
Lacks planned = ((position : ℕ) × (next planned ≡ Some (MoveAt position))) ⊎ (next planned ≡ Some LoseUnreadable)

-- that is so while the hold goes on, too few can, and a read met an error
record IsLacking (planned : Planned) : Type 0 where
  going : gives_up planned.hold ≡ false
  few : nat_lt (knowable_count planned.hold.cells) (data_count planned.hold) ≡ true
  error : (j : ℕ) × (is_in_error (cell_at planned.hold.cells j) ≡ true)

lacking_of : (planned : Planned) → Lacks planned → IsLacking planned
lacking_of planned (inl moves) =
    let c = comes planned (MoveAt moves.0) moves.1 in
    record { going = c.0; few = c.1; error = (moves.0, (and_parts (is_in_error (cell_at planned.hold.cells moves.0)) _ c.2).0) }
lacking_of planned (inr loses) =
    let c = comes planned LoseUnreadable loses in
    record { going = c.0; few = c.1; error = any_at is_in_error planned.hold.cells c.2 }

some_error : (hold : Hold) (j : ℕ) → is_in_error (cell_at hold.cells j) ≡ true → list_any is_in_error hold.cells ≡ true
some_error hold j error =
    let in_sync = (and_parts (is_in_sync (cell_at hold.cells j).standing) _ error).0 in
    any_true is_in_error hold.cells j (within hold.cells j (λ out. let both = sym in_sync ∙ ap is_in_sync out in cc)) error

some_loss : (planned : Planned) → IsLacking planned → (o : Option ℕ) × (next_loss planned.hold ≡ Some (or_lose o))
some_loss planned l =
    let hold = planned.hold in
    let some = some_error hold l.error.0 l.error.1 in
    (first_from (is_next_move hold) 0 (length hold.cells), λ i. if l.few i && some i then Some (or_lose (first_from (is_next_move hold) 0 (length hold.cells))) else None)

lacking_to : (planned : Planned) → IsLacking planned → Lacks planned
lacking_to planned l = let some = some_loss planned l in by_first some.0 some.1
  where
    by_first : (o : Option ℕ) → next_loss planned.hold ≡ Some (or_lose o) → Lacks planned
    by_first None e = inr (rw l.going (rw e refl))
    by_first (Some position) e = inl (position, rw l.going (rw e refl))

pub next_moves : (planned : Planned) (position : ℕ) → next planned ≡ Some (MoveAt position) → moves_unreadable planned ≡ Some position
next_moves planned position is =
    let c = lacking_of planned (inl (position, is)) in
    by_loss (next_loss planned.hold) refl c.going (some_loss planned c)
  where
    by_loss : (loss : Option Next) → next_loss planned.hold ≡ loss → gives_up planned.hold ≡ false → (o : Option ℕ) × (next_loss planned.hold ≡ Some (or_lose o)) → moves_unreadable planned ≡ Some position
    by_loss loss e going some =
        let first : next planned ≡ Some (or_lose some.0) = rw going (rw (some.1) refl) in
        let both : Some (or_lose some.0) ≡ Some (MoveAt position) = sym first ∙ is in
        let one : or_lose some.0 ≡ MoveAt position = cc in
        rw going (ap move_of (some.1 ∙ ap (λ (n : Next). Some n) one))

-- after such an event it is so only if it was before it
pub lacks_before : (planned : Planned) (event : Event) → IsHelpful event → MayFollow planned event → Lacks (planned_after planned event) → Lacks planned
lacks_before planned event helps may is =
    let hold = planned.hold in
    let later = after_event hold event in
    let l = lacking_of (planned_after planned event) is in
    let wide = width_after hold event in
    let more = count_more is_knowable hold.cells later.cells wide (λ j. (helped_at planned event j helps may).knowable) in
    let few = ltb-true (knowable_count later.cells) (data_count later) l.few in
    lacking_to planned (record {
      going = sym (ap (has_lost later) (kind_after hold event) ∙ lost_same hold event hold.kind helps) ∙ l.going;
      few = lt-ltb (knowable_count hold.cells) (data_count hold) (omega (arith, more, few, wide));
      error = (l.error.0, (helped_at planned event l.error.0 helps may).error l.error.1);
    })

silent_helps : (event : Event) → IsSilent event → IsHelpful event
silent_helps (Asks i) silent = absurd silent
silent_helps (Fixes i block) silent = absurd silent
silent_helps (AsksAgain i) silent = absurd silent
silent_helps (Restores i block) silent = record {}
silent_helps (Computes new) silent = record {}
silent_helps (Writes i block) silent = absurd silent
silent_helps (Copies i block) silent = absurd silent
silent_helps (Gives i block) silent = absurd silent
silent_helps (Fails i) silent = absurd silent
silent_helps (Confirms i) silent = absurd silent
silent_helps (Mends i) silent = absurd silent
silent_helps (Settles i) silent = absurd silent
silent_helps (Loses i) silent = absurd silent
silent_helps (Moves i) silent = absurd silent
silent_helps (Drops i) silent = absurd silent

pub lacks_unprepared : (planned : Planned) (events : List Event) → AreSilent events → IsPlanned planned events → Lacks (planned_at planned events) → Lacks planned
lacks_unprepared planned [] silent may is = is
lacks_unprepared planned (event ∷ events) silent may is =
    lacks_before planned event (silent_helps event silent.0) may.0 (lacks_unprepared (planned_after planned event) events silent.1 may.1 is)

-- ---- of a frame

pub lacks_in : (fs : FramesState) (frame : ℕ) (h : HeldRow) → hold_at fs.uses frame ≡ Some h → LacksBlocks fs frame → Lacks h.hold.planned
lacks_in fs frame h is (inl moves) =
    let same : moves.1.0 ≡ h = let both = sym moves.1.1 ∙ is in cc in
    inl (moves.0, subst (λ (y : HeldRow). next y.hold.planned ≡ Some (MoveAt moves.0)) same moves.1.2)
lacks_in fs frame h is (inr loses) =
    let same : loses.0 ≡ h = let both = sym loses.1 ∙ is in cc in
    inr (subst (λ (y : HeldRow). next y.hold.planned ≡ Some LoseUnreadable) same loses.2)

pub lacks_at : (fs : FramesState) (frame : ℕ) (h : HeldRow) → hold_at fs.uses frame ≡ Some h → Lacks h.hold.planned → LacksBlocks fs frame
lacks_at fs frame h is (inl moves) = inl (moves.0, (h, is, moves.1))
lacks_at fs frame h is (inr loses) = inr (h, is, loses)

-- one of the two is there
pub lacks_there : (fs : FramesState) (frame : ℕ) → LacksBlocks fs frame → (h : HeldRow) × (hold_at fs.uses frame ≡ Some h)
lacks_there fs frame (inl moves) = (moves.1.0, moves.1.1)
lacks_there fs frame (inr loses) = (loses.0, loses.1)
