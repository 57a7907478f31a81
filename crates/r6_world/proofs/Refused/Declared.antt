-- No loss is to be declared but after an error, or where a hold has a read error on the slot, and the shard stops or the
-- slot goes on with its other device.
use Rattle.std.proofs.Common.{◌≡◌, ℕ, zero, suc, ◌≤◌, ◌⊎◌, List, [], ◌∷◌, ◌++◌, length, Bool, true, false, ◌&&◌, if◌then◌else◌, inl, inr, refl, sym, ap, ◌∙◌, subst, arith, Option, Some, None, not, map}
use Rattle.std.proofs.lemmas.Bool.{false≢true, and_parts, cases_lt}
use Rattle.r6_stripe.specs.Holds.{Hold as Course, Cell, Standing, Event as HoldEvent, cell_at, after_event, begun as course_begun, Reading, replaced, read_again, read_no_more, ready_for, reading_after, targeted, Kind}
use Rattle.r6_stripe.specs.Holds.Event.{Asks, Fixes, AsksAgain, Restores, Computes, Writes, Copies, Gives, Fails, Confirms, Mends, Settles, Loses, Moves, Drops}
use Rattle.r6_stripe.specs.Plans.{is_in_error, is_in_sync, is_unreadable, after_error, is_out}
use Rattle.r6_stripe.specs.Holds.Reading.{Unread, Recalled, Asked, Unreadable, Fixing, Fixed, AskedAgain, Known, Replaced}
use Rattle.r6_stripe.specs.Holds.Standing.{InSync, Target, Out}
use Rattle.r6_stripe.specs.Holds.Kind.{Idle, Read, Write, Rebuild, Check, Repair}
use Rattle.r6_stripe.specs.RowWorld.{confirming}
use Rattle.r6_stripe.proofs.CellsAfter.{Became, cell_after, set_cell}
use Rattle.r6_world.specs.Tables.{put}
use Rattle.r6_world.specs.Layouts.{Layout}
use Rattle.r6_world.specs.Tasks.{Hold, kind_of, planned}
use Rattle.r6_world.specs.ShardStates.{Shard, Call, LossOf, RebuildOf, SlotState, Command, begun, found, IsLive, generation_in, Missing, standings_of, has_device, second_in, devices_of}
use Rattle.r6_world.specs.Changes.{Change, Start, Ask, Prepare, Classify, Send, Learn, Confirm, Come_home, Give_direct, Lose, Adopt, See_failed, Finish, Bring_in, Hand_call, Hear, Fix, Ask_again, Fail, Give_over, Allowed, after, told_hold, lost_slot, lost_slots, in_error_from, slots_in_error, put_back, IsWorkedOut, Copy, Move, without, adopted, heard, heard_of, hearing, confirmed_by, Release}
use Rattle.r6_world.specs.Steps.{Event, Look, Deliver, TakesOver, Step, Good, Error, Read_error, Taken, Late, Looks, Completion, Receipt, Takes, GivesOver, GoesOn, GoOn, No_command, Submit, Submit_all, Turn_started, Turn_skipped, Take_command, Take_call, No_call, Told, Take_reply, No_reply, Through, Scans}
use Rattle.r6_world.specs.Refusals.{IsNoError, IsIn, IsToTell, IsInError, IsReadAt, Stops, GoesOnWithout}
use Rattle.r6_world.proofs.Tables.{put-cases, None-not_Some, Some-inj}
use Rattle.r6_world.proofs.Changes.{Keeps, Moves as Moving, step-kept, all-kept, through-scans, through-goes}
use Rattle.r6_world.proofs.Looks.{look_brings_nothing}
use Rattle.r6_world.proofs.Refused.Devices.{goes-devices, SyncedBefore, synced-put, gives-synced, goes-without, goes-on-still, goes-on-beside}
use Rattle.r6_world.proofs.Refused.Refusals.{in_longer, in_put_back, no_loss}
use Rattle.r6_world.proofs.Cells.{found-at, found-long, cell-past}
use Rattle.r6_world.proofs.Lives.{live-before}
use Rattle.std.specs.Prelude.{◌==◌}
use Rattle.r6_world.specs.Registers.{Snapshot}
use Rattle.r6_stripe.proofs.Steps.{comes}
use Rattle.r6_stripe.specs.Plans.Next.{MoveAt}

-- ---- read errors of a hold

replaced-error : (reading : Reading) → is_unreadable (replaced reading) ≡ true → is_unreadable reading ≡ true
replaced-error Unread e = e
replaced-error Recalled e = e
replaced-error Asked e = e
replaced-error Unreadable e = e
replaced-error Fixing e = e
replaced-error Fixed e = e
replaced-error AskedAgain e = e
replaced-error (Known block) e = absurd (false≢true e)
replaced-error Replaced e = e

both-true : (a b : Bool) → a ≡ true → b ≡ true → (a && b) ≡ true
both-true true b e e' = e'
both-true false b e e' = e

-- a block that is ready stands in the cell as one that was read
kept-error : (cell : Cell) → (is_in_sync cell.standing && is_unreadable (replaced cell.reading)) ≡ true → is_in_error cell ≡ true
kept-error cell e =
    let p = and_parts (is_in_sync cell.standing) (is_unreadable (replaced cell.reading)) e in
    both-true (is_in_sync cell.standing) (is_unreadable cell.reading) p.0 (replaced-error cell.reading p.1)

ready-error : (second : Standing) (cell : Cell) (block : List ℕ) → is_in_error (ready_for second cell block) ≡ true → is_in_error cell ≡ true
ready-error InSync cell block e = kept-error cell e
ready-error Target cell block e = kept-error cell e
ready-error Out cell block e = kept-error cell e

-- what is read again met no error on its new device
again-readable : (reading : Reading) → is_unreadable (read_again reading) ≡ false
again-readable Unread = refl
again-readable Recalled = refl
again-readable Asked = refl
again-readable Unreadable = refl
again-readable Fixing = refl
again-readable Fixed = refl
again-readable AskedAgain = refl
again-readable (Known block) = refl
again-readable Replaced = refl

no_more-readable : (reading : Reading) → is_unreadable (read_no_more reading) ≡ false
no_more-readable Unread = refl
no_more-readable Recalled = refl
no_more-readable Asked = refl
no_more-readable Unreadable = refl
no_more-readable Fixing = refl
no_more-readable Fixed = refl
no_more-readable AskedAgain = refl
no_more-readable (Known block) = refl
no_more-readable Replaced = refl

moved-readable : (second : Standing) (reading : Reading) → is_unreadable (reading_after second reading) ≡ false
moved-readable InSync reading = again-readable reading
moved-readable Target reading = no_more-readable reading
moved-readable Out reading = no_more-readable reading

-- no read error comes but by that of a first read
became-error : (event : HoldEvent) → ((at : ℕ) → event ≡ Fails at → ⊥) → (j : ℕ) (before later : Cell) → Became event j before later → is_in_error later ≡ true → is_in_error before ≡ true
became-error (Asks i) none j before later b e = absurd (false≢true (and_parts (is_in_sync before.standing) false (ap is_in_error (sym b.1) ∙ e)).1)
became-error (Fixes i block) none j before later b e = absurd (false≢true (and_parts (is_in_sync before.standing) false (ap is_in_error (sym b.1) ∙ e)).1)
became-error (AsksAgain i) none j before later b e = absurd (false≢true (and_parts (is_in_sync before.standing) false (ap is_in_error (sym b.1) ∙ e)).1)
became-error (Restores i block) none j before later b e = absurd (false≢true (and_parts (is_in_sync before.standing) false (ap is_in_error (sym b.1) ∙ e)).1)
became-error (Gives i block) none j before later b e = absurd (false≢true (and_parts (is_in_sync before.standing) false (ap is_in_error (sym b.1) ∙ e)).1)
became-error (Mends i) none j before later b e = absurd (false≢true (and_parts (is_in_sync before.standing) false (ap is_in_error (sym b.1) ∙ e)).1)
became-error (Computes new) none j before later b e =
    ready-error before.second before b.1.0 (ap is_in_error (sym b.1.1) ∙ e)
became-error (Writes i block) none j before later b e = ap is_in_error (sym b.1) ∙ e
became-error (Confirms i) none j before later b e = ap is_in_error (sym b.1) ∙ e
became-error (Fails i) none j before later b e = absurd (none i refl)
became-error (Copies i block) none j before later b e = ap is_in_error (sym b.1) ∙ e
became-error (Settles i) none j before later b e = ap is_in_error (sym b.1) ∙ e
became-error (Drops i) none j before later b e = ap is_in_error (sym b.1) ∙ e
became-error (Moves i) none j before later b e =
    absurd (false≢true (sym (moved-readable before.second before.reading) ∙ (and_parts (is_in_sync before.second) (is_unreadable (reading_after before.second before.reading)) (ap is_in_error (sym b.1) ∙ e)).1))
became-error (Loses i) none j before later b e = absurd (false≢true (and_parts false (is_unreadable before.reading) (ap is_in_error (sym b.1) ∙ e)).0)

error-before : (course : Course) (event : HoldEvent) → ((at : ℕ) → event ≡ Fails at → ⊥) → (j : ℕ) → is_in_error (cell_at (after_event course event).cells j) ≡ true → is_in_error (cell_at course.cells j) ≡ true
error-before course event none j e = elim (cell_after course event j) [
  | inl same ↦ ap is_in_error (sym same) ∙ e
  | inr became ↦ became-error event none j (cell_at course.cells j) (cell_at (after_event course event).cells j) became e
]

confirming-not-fails : (reading : Reading) (place at : ℕ) → confirming reading place ≡ Fails at → ⊥
confirming-not-fails Unread place at e = cc
confirming-not-fails Recalled place at e = cc
confirming-not-fails Asked place at e = cc
confirming-not-fails Unreadable place at e = cc
confirming-not-fails Fixing place at e = cc
confirming-not-fails Fixed place at e = cc
confirming-not-fails AskedAgain place at e = cc
confirming-not-fails (Known block) place at e = cc
confirming-not-fails Replaced place at e = cc

worked-not-fails : (event : HoldEvent) → IsWorkedOut event → (at : ℕ) → event ≡ Fails at → ⊥
worked-not-fails event k at e = subst IsWorkedOut e k

confirmed-not-fails : (state : SlotState) (generation : ℕ) (reading : Reading) (place at : ℕ) → confirmed_by state generation reading place ≡ Fails at → ⊥
confirmed-not-fails state generation reading place at e = by (generation_in state == generation) e
  where
    by : (b : Bool) → (if b then confirming reading place else Settles place) ≡ Fails at → ⊥
    by true e = confirming-not-fails reading place at e
    by false e = cc

heard-before : (h : Hold) (out doubled first second : Bool) (place j : ℕ) → is_in_error (cell_at (hearing (planned h) (if out then None else heard_of doubled first second place)).hold.cells j) ≡ true → is_in_error (cell_at h.course.cells j) ≡ true
heard-before h true doubled first second place j e = e
heard-before h false false true second place j e = e
heard-before h false false false second place j e = error-before h.course (Loses place) (λ at e'. cc) j e
heard-before h false true true true place j e = e
heard-before h false true true false place j e = error-before h.course (Drops place) (λ at e'. cc) j e
heard-before h false true false true place j e = error-before h.course (Moves place) (λ at e'. cc) j e
heard-before h false true false false place j e = error-before h.course (Loses place) (λ at e'. cc) j e

told-before : (l : Layout) (slot : ℕ) (was now : SlotState) (h : Hold) (j : ℕ) → is_in_error (cell_at (hearing (planned h) (heard l slot was now h)).hold.cells j) ≡ true → is_in_error (cell_at h.course.cells j) ≡ true
told-before l slot was now h j e =
    let cell = cell_at h.course.cells (l.position h.row slot) in
    heard-before h (is_out cell.standing) (not (is_out cell.second)) (has_device now (generation_in was)) (has_device now (second_in was)) (l.position h.row slot) j e

-- a hold that begins has read nothing
fresh-none : (l : Layout) (slots : ℕ → SlotState) (row at : ℕ) → is_in_error (cell_at (found l slots row).cells at) ≡ true → ⊥
fresh-none l slots row at e = elim (cases_lt at l.slots) [
  | inl below ↦
      let standing = (standings_of (slots (l.slot_at row at)) row).0 in
      false≢true (and_parts (is_in_sync standing) false (ap is_in_error (sym (found-at l slots row at below)) ∙ e)).1
  | inr past ↦
      false≢true (ap is_in_error (sym (cell-past (found l slots row).cells at (subst (λ y. y ≤ at) (sym (found-long l slots row)) past))) ∙ e)
]

targeted-error : (standing : Standing) (cell : Cell) → is_in_error (targeted standing cell) ≡ true → is_in_error cell ≡ true
targeted-error InSync cell e = e
targeted-error Target cell e = e
targeted-error Out cell e = absurd (false≢true e)

begun-none : (l : Layout) (slots : ℕ → SlotState) (row : ℕ) (kind : Kind) (at : ℕ) → is_in_error (cell_at (course_begun (found l slots row) kind).cells at) ≡ true → ⊥
begun-none l slots row Idle at e = fresh-none l slots row at e
begun-none l slots row (Read index) at e = fresh-none l slots row at e
begun-none l slots row (Write batch) at e = fresh-none l slots row at e
begun-none l slots row (Rebuild target) at e = elim (set_cell (λ c. targeted c.standing c) (found l slots row).cells target at) [
  | inl same ↦ fresh-none l slots row at (ap is_in_error (sym same) ∙ e)
  | inr new ↦ fresh-none l slots row at (targeted-error _ _ (ap is_in_error (sym new.1) ∙ e))
]
begun-none l slots row Check at e = fresh-none l slots row at e
begun-none l slots row Repair at e = fresh-none l slots row at e

-- ---- the losses that a shard has to declare are among those of another, or of slots with read errors there

abbrev pub ErrorAt : Layout → (ℕ → Option Hold) → ℕ → Type 0
ErrorAt l frame slot = (f : ℕ) × (h : Hold) × (at : ℕ) × (frame f ≡ Some h) × (is_in_error (cell_at h.course.cells at) ≡ true) × (l.slot_at h.row at ≡ slot)

abbrev pub ToldOf : Layout → (old new : Shard) → List Call → Option Call → Type 0
ToldOf l old new calls untold =
    (slot g : ℕ) → IsIn (LossOf slot g) calls ⊎ (untold ≡ Some (LossOf slot g))
    → IsToTell old (LossOf slot g) ⊎ (IsInError l old slot × (Stops l old new ⊎ GoesOnWithout old new slot g))

abbrev pub ErrorsOf : Layout → Shard → (ℕ → Option Hold) → Type 0
ErrorsOf l old frame = (slot : ℕ) → ErrorAt l frame slot → IsInError l old slot

-- and those of slots with read errors only where it is live no more, or the slot has its other device yet
pub record LossesOf (l : Layout) (old s : Shard) : Type 0 where
  pub told : ToldOf l old s s.calls s.untold
  pub errors : ErrorsOf l old s.frame
  pub lived : IsLive l s → IsLive l old

same-lost : (a b c d : ℕ) → LossOf a b ≡ LossOf c d → a ≡ c
same-lost a b c d e = cc

same-device : (a b c d : ℕ) → LossOf a b ≡ LossOf c d → b ≡ d
same-device a b c d e = cc

-- the losses of a slot's devices are of that slot
in_losses : (slot g out : ℕ) (calls : List Call) (devices : List ℕ) → IsIn (LossOf slot g) (calls ++ map (LossOf out) devices) → IsIn (LossOf slot g) calls ⊎ (slot ≡ out)
in_losses slot g out (other ∷ calls) devices (inl same) = inl (inl same)
in_losses slot g out (other ∷ calls) devices (inr later) = elim (in_losses slot g out calls devices later) [ inl y ↦ inl (inr y) | inr y ↦ inr y ]
in_losses slot g out [] [] e = absurd e
in_losses slot g out [] (d ∷ devices) (inl same) = inr (same-lost slot g out d same)
in_losses slot g out [] (d ∷ devices) (inr later) = in_losses slot g out [] devices later

module _ (l : Layout) (n : ℕ) (old : Shard) where
  -- a hold goes on
  errors-on : (s : Shard) (f : ℕ) (h h' : Hold) → s.frame f ≡ Some h → h'.row ≡ h.row
      → ((j : ℕ) → is_in_error (cell_at h'.course.cells j) ≡ true → is_in_error (cell_at h.course.cells j) ≡ true)
      → ErrorsOf l old s.frame → ErrorsOf l old (put s.frame f (Some h'))
  errors-on s f h h' here row before x slot p = elim (put-cases s.frame f (Some h') p.0 (Some p.1) p.3) [
    | inl q ↦
        let is : h' ≡ p.1 = Some-inj h' p.1 q.1 in
        x slot (f, h, p.2, here, before p.2 (ap (λ (k : Hold). is_in_error (cell_at k.course.cells p.2)) is ∙ p.4), ap (λ r. l.slot_at r p.2) (sym row ∙ ap (λ (k : Hold). k.row) is) ∙ p.5)
    | inr q ↦ x slot (p.0, p.1, p.2, q.1, p.4, p.5)
  ]

  errors-ended : (s : Shard) (f : ℕ) → ErrorsOf l old s.frame → ErrorsOf l old (put s.frame f None)
  errors-ended s f x slot p = elim (put-cases s.frame f None p.0 (Some p.1) p.3) [
    | inl q ↦ absurd (None-not_Some p.1 q.1)
    | inr q ↦ x slot (p.0, p.1, p.2, q.1, p.4, p.5)
  ]

  pub errors-told : (s : Shard) (out : ℕ) (was now : SlotState) → ErrorsOf l old s.frame → ErrorsOf l old (λ f. told_hold l out was now (s.frame f))
  errors-told s out was now x slot p = at (s.frame p.0) refl p.3
    where
      at : (o : Option Hold) → s.frame p.0 ≡ o → told_hold l out was now o ≡ Some p.1 → IsInError l old slot
      at None here e = absurd (None-not_Some p.1 e)
      at (Some h) here e =
          let is = Some-inj _ _ e in
          x slot (
            p.0,
            h,
            p.2,
            here,
            told-before l out was now h p.2 (ap (λ (k : Hold). is_in_error (cell_at k.course.cells p.2)) is ∙ p.4),
            ap (λ (k : Hold). l.slot_at k.row p.2) is ∙ p.5,
          )

  abbrev pub AllInError : List ℕ → Type 0
  AllInError [] = record {}
  AllInError (slot ∷ slots) = IsInError l old slot × AllInError slots

  pub errors-in : (s : Shard) → ErrorsOf l old s.frame → (f : ℕ) (h : Hold) → s.frame f ≡ Some h → (at count : ℕ) → AllInError (in_error_from l h at count)
  errors-in s x f h here at zero = record {}
  errors-in s x f h here at (suc count) = by_test (is_in_error (cell_at h.course.cells at)) refl (errors-in s x f h here (suc at) count)
    where
      by_test : (b : Bool) → is_in_error (cell_at h.course.cells at) ≡ b → AllInError (in_error_from l h (suc at) count)
          → AllInError (if b then l.slot_at h.row at ∷ in_error_from l h (suc at) count else in_error_from l h (suc at) count)
      by_test true e rest = (x (l.slot_at h.row at) (f, h, at, here, e, refl), rest)
      by_test false e rest = rest

  -- a hold that loses slots has their losses to declare
  abbrev LostOf : Shard → Type 0
  LostOf s = (slot g : ℕ) → IsToTell s (LossOf slot g) → IsToTell old (LossOf slot g) ⊎ IsInError l old slot

  lost-one : (s : Shard) (out : ℕ) → IsInError l old out → LostOf s → LostOf (lost_slot l s out)
  lost-one s out inside x slot g (inl among) = elim (in_losses slot g out s.calls (devices_of (s.slot out)) among) [
    | inl before ↦ x slot g (inl before)
    | inr same ↦ inr (subst (IsInError l old) (sym same) inside)
  ]
  lost-one s out inside x slot g (inr untold) = x slot g (inr untold)

  lost-all : (slots : List ℕ) (s : Shard) → AllInError slots → LostOf s → LostOf (lost_slots l s slots)
  lost-all [] s all x = x
  lost-all (out ∷ slots) s all x = lost-all slots (lost_slot l s out) all.1 (lost-one s out all.0 x)

  lost-errors : (slots : List ℕ) (s : Shard) → ErrorsOf l old s.frame → ErrorsOf l old (lost_slots l s slots).frame
  lost-errors [] s x = x
  lost-errors (out ∷ slots) s x = lost-errors slots (lost_slot l s out) (errors-told s out (s.slot out) Missing x)

  -- an event that is no error brings no read error
  pub errors-kept : (event : Event) → IsNoError event → Keeps l n (λ s. ErrorsOf l old s.frame) event
  errors-kept event none s (Start f row task) within a x = λ slot p. elim (put-cases s.frame f (Some (begun l s.slot row task)) p.0 (Some p.1) p.3) [
    | inl q ↦
        absurd (begun-none l s.slot row (kind_of l row task) p.2
        (ap (λ (k : Hold). is_in_error (cell_at k.course.cells p.2)) (Some-inj (begun l s.slot row task) p.1 q.1) ∙ p.4))
    | inr q ↦ x slot (p.0, p.1, p.2, q.1, p.4, p.5)
  ]
  errors-kept event none s (Ask f h slot g) within a x = errors-on s f h _ a.0 refl (error-before h.course (Asks (l.position h.row slot)) (λ at e. cc)) x
  errors-kept event none s (Prepare f h e) within a x = errors-on s f h _ a.0 refl (error-before h.course e (worked-not-fails e a.2)) x
  errors-kept event none s (Classify f h class) within a x = errors-on s f h _ a.0 refl (λ j e. e) x
  errors-kept event none s (Send f h slot g b) within a x = errors-on s f h _ a.0 refl (error-before h.course (Writes (l.position h.row slot) b) (λ at e. cc)) x
  errors-kept event none s (Copy f h slot g b) within a x = errors-on s f h _ a.0 refl (error-before h.course (Copies (l.position h.row slot) b) (λ at e. cc)) x
  errors-kept event none s (Fix f h slot g b) within a x = errors-on s f h _ a.0 refl (error-before h.course (Fixes (l.position h.row slot) b) (λ at e. cc)) x
  errors-kept event none s (Ask_again f h slot g) within a x = errors-on s f h _ a.0 refl (error-before h.course (AsksAgain (l.position h.row slot)) (λ at e. cc)) x
  errors-kept event none s (Learn t c h b) within a x = errors-on s c.frame h _ a.2 refl (error-before h.course (Gives (l.position h.row c.slot) b) (λ at e. cc)) x
  errors-kept event none s (Confirm t c h) within a x =
      let place = l.position h.row c.slot in
      let reading = (cell_at h.course.cells place).reading in
      errors-on s c.frame h _ a.2 refl (error-before h.course (confirmed_by (s.slot c.slot) c.generation reading place) (confirmed-not-fails (s.slot c.slot) c.generation reading place)) x
  errors-kept event none s (Fail t c h) within a x = absurd (subst IsNoError within none)
  errors-kept event none s (Lose t c) within a x = elim within [ inl e ↦ absurd (subst IsNoError e none) | inr e ↦ absurd (subst IsNoError e none) ]
  errors-kept event none s (Give_over f h) within a x = lost-errors (slots_in_error l h) s x
  errors-kept event none s (Move f h slot g) within a x = errors-told s slot (s.slot slot) (without (s.slot slot) g) x
  errors-kept event none s (Adopt slot status) within a x = errors-told s slot (s.slot slot) (adopted (s.slot slot) status) x
  errors-kept event none s See_failed within a x = λ slot p. absurd (None-not_Some p.1 p.3)
  errors-kept event none s (Finish f h outcome) within a x = errors-ended s f x
  errors-kept event none s change within a x = x

  -- a change that adds none, after which the shard is live only if it was
  later : (s : Shard) (change : Change) → Allowed l n s change → ((slot g : ℕ) → GoesOnWithout old s slot g → GoesOnWithout old (after l s change) slot g) → LossesOf l old s → ToldOf l old (after l s change) s.calls s.untold
  later s change a there x slot g told = elim (x.told slot g told) [
    | inl before ↦ inl before
    | inr p ↦ inr (p.0, elim p.1 [ inl stops ↦ inl (stops.0, λ live. stops.1 (live-before l n s change a live)) | inr on ↦ inr (there slot g on) ])
  ]

  same-devices : (s : Shard) (change : Change) → GoesOn change → Allowed l n s change → (slot g : ℕ) → GoesOnWithout old s slot g → GoesOnWithout old (after l s change) slot g
  same-devices s change k a slot g on = goes-on-still l n old s (after l s change) slot g (goes-devices l n s change k a slot) on

  lived-on : (s : Shard) (change : Change) → Allowed l n s change → LossesOf l old s → IsLive l (after l s change) → IsLive l old
  lived-on s change a x live = x.lived (live-before l n s change a live)

  -- whatever happens but that a hold gives over
  losses-kept : (event : Event) → IsNoError event → (Moving event → ⊥) → Keeps l n (LossesOf l old) event
  losses-kept event none still s (Fail t c h) within a x = absurd (subst IsNoError within none)
  losses-kept event none still s (Lose t c) within a x = elim within [ inl e ↦ absurd (subst IsNoError e none) | inr e ↦ absurd (subst IsNoError e none) ]
  losses-kept event none still s (Give_over f h) within a x = absurd (still within)
  losses-kept event none still s (Move f h slot g0) within a x = absurd (still within)
  losses-kept event none still s (Adopt slot status) within a x = absurd (still (subst Moving (sym within.1) (record {})))
  losses-kept event none still s See_failed within a x = absurd (still (subst Moving (sym within.1) (record {})))
  losses-kept event none still s (Finish f h outcome) within a x =
      record { told = later s (Finish f h outcome) a (same-devices s (Finish f h outcome) (record {}) a) x; errors = errors-kept event none s (Finish f h outcome) within a x.errors; lived = lived-on s (Finish f h outcome) a x }
  losses-kept event none still s (Bring_in other current) within a x = record { told = bring; errors = x.errors; lived = lived-on s (Bring_in other current) a x }
    where
      bring : ToldOf l old (after l s (Bring_in other current)) (s.calls ++ RebuildOf other current ∷ []) s.untold
      bring slot g (inl among) = elim (in_longer (LossOf slot g) (RebuildOf other current) s.calls among) [
        | inl y ↦ later s (Bring_in other current) a (same-devices s (Bring_in other current) (record {}) a) x slot g (inl y)
        | inr e ↦ absurd (no_loss slot g other current e)
      ]
      bring slot g (inr untold) = later s (Bring_in other current) a (same-devices s (Bring_in other current) (record {}) a) x slot g (inr untold)
  losses-kept event none still s (Hand_call call rest) within a x = record { told = hand; errors = x.errors; lived = x.lived }
    where
      hand : ToldOf l old s rest (Some call)
      hand slot g (inl among) = x.told slot g (inl (subst (IsIn (LossOf slot g)) (sym a.0) (inr among)))
      hand slot g (inr untold) = x.told slot g (inl (subst (IsIn (LossOf slot g)) (sym a.0) (inl (sym (Some-inj _ _ untold)))))
  losses-kept event none still s (Hear call answer) within a x = record { told = hear; errors = x.errors; lived = x.lived }
    where
      hear : ToldOf l old s (put_back call answer s.calls) None
      hear slot g (inl among) = elim (in_put_back (LossOf slot g) call answer s.calls among) [ inl same ↦ x.told slot g (inr (a ∙ ap (λ y. Some y) (sym same))) | inr y ↦ x.told slot g (inl y) ]
      hear slot g (inr untold) = absurd (None-not_Some _ untold)
  losses-kept event none still s change within a x = record { told = x.told; errors = errors-kept event none s change within a x.errors; lived = x.lived }

  -- ---- a hold gives over, before holds go on: what is in sync was so

  pub record GivenOver (s : Shard) : Type 0 where
    pub losses : LossesOf l old s
    pub synced : SyncedBefore l n old s.slot

  gives-kept : (s : Shard) (change : Change) → GivesOver change → Allowed l n s change → GivenOver s → GivenOver (after l s change)
  gives-kept s (Give_over f h) k a y = record {
    losses = record { told = gave; errors = lost-errors (slots_in_error l h) s x.errors; lived = lived-on s (Give_over f h) a x };
    synced = gives-synced l n old s (Give_over f h) k a y.synced;
  }
    where
      x : LossesOf l old s
      x = y.losses

      before : LostOf s
      before slot g told = elim (x.told slot g told) [ inl was ↦ inl was | inr p ↦ inr p.0 ]

      gave : (slot g : ℕ) → IsToTell (after l s (Give_over f h)) (LossOf slot g) → IsToTell old (LossOf slot g) ⊎ (IsInError l old slot × (Stops l old (after l s (Give_over f h)) ⊎ GoesOnWithout old (after l s (Give_over f h)) slot g))
      gave slot g told = elim (lost-all (slots_in_error l h) s (errors-in s x.errors f h a.0 0 (length h.course.cells)) before slot g told) [
        | inl was ↦ inl was
        | inr meets ↦ inr (meets, inl (x.lived a.1, λ live. let few = live.0 in let three = a.3 in absurd (omega arith)))
      ]
  gives-kept s (Move f h slot g0) k a y = record {
    losses = record { told = moved; errors = errors-told s slot (s.slot slot) (without (s.slot slot) g0) x.errors; lived = lived-on s (Move f h slot g0) a x };
    synced = gives-synced l n old s (Move f h slot g0) k a y.synced;
  }
    where
      x : LossesOf l old s
      x = y.losses

      there : (d g : ℕ) → GoesOnWithout old s d g → GoesOnWithout old (after l s (Move f h slot g0)) d g
      there d g on = goes-on-beside l n old s f h slot g0 a d g on

      moved : (d g : ℕ) → IsToTell (after l s (Move f h slot g0)) (LossOf d g) → IsToTell old (LossOf d g) ⊎ (IsInError l old d × (Stops l old (after l s (Move f h slot g0)) ⊎ GoesOnWithout old (after l s (Move f h slot g0)) d g))
      moved d g (inl among) = elim (in_longer (LossOf d g) (LossOf slot g0) s.calls among) [
        | inl before ↦ later s (Move f h slot g0) a there x d g (inl before)
        | inr e ↦
            let same : d ≡ slot = same-lost d g slot g0 e in
            let met : is_in_error (cell_at h.course.cells a.6) ≡ true = (and_parts _ _ (comes (planned h) (MoveAt a.6) a.8).2).0 in
            inr (
              subst (IsInError l old) (sym same) (x.errors slot (f, h, a.6, a.0, met, a.7)),
              inr (subst (λ k. GoesOnWithout old (after l s (Move f h slot g0)) k g) (sym same) (subst (GoesOnWithout old (after l s (Move f h slot g0)) slot) (sym (same-device d g slot g0 e)) (goes-without l n old s f h slot g0 a y.synced))),
            )
      ]
      moved d g (inr untold) = later s (Move f h slot g0) a there x d g (inr untold)
  gives-kept s change k a y = absurd k

  kept : Keeps l n (LossesOf l old) No_command
  kept = losses-kept No_command (record {}) (λ moves. moves)

  go-on-losses : (mid last : Shard) → GoOn l n mid last → GivenOver mid → LossesOf l old last
  go-on-losses mid last t y =
      through-goes l n (LossesOf l old) No_command kept t.0 last t.2 (all-kept l n GivenOver GivesOver gives-kept t.1.0 mid t.0 t.1.1 y).losses

  -- a look takes over, and declares nothing yet
  record Before (s : Shard) : Type 0 where
    told : (slot g : ℕ) → IsToTell s (LossOf slot g) → IsToTell old (LossOf slot g)
    errors : ErrorsOf l old s.frame
    lived : IsLive l s → IsLive l old
    synced : SyncedBefore l n old s.slot

  before-losses : (s : Shard) → Before s → GivenOver s
  before-losses s x = record { losses = record { told = λ slot g y. inl (x.told slot g y); errors = x.errors; lived = x.lived }; synced = x.synced }

  take-before : (seen : Snapshot) (s : Shard) (change : Change) → TakesOver seen change → Allowed l n s change → Before s → Before (after l s change)
  take-before seen s (Adopt slot status) k a x = record {
    told = x.told;
    errors = errors-told s slot (s.slot slot) (adopted (s.slot slot) status) x.errors;
    lived = λ live. x.lived (live-before l n s (Adopt slot status) a live);
    synced = synced-put l n old s.slot slot (adopted (s.slot slot) status) (λ row g sync. look_brings_nothing (s.slot slot) status row g sync) x.synced;
  }
  take-before seen s change k a x = absurd k

  at_first : Before old
  at_first = record { told = λ slot g y. y; errors = λ slot p. p; lived = λ live. live; synced = λ slot row g sync. sync }

  look-kept : (failed : Bool) (mid new : Shard) → Looks l n failed mid new → Before mid → LossesOf l old new
  look-kept true mid new k x =
      let y = (before-losses mid x).losses in
      subst (LossesOf l old) (sym k)
      (record { told = later mid See_failed (record {}) (λ slot g on. on) y; errors = λ slot p. absurd (None-not_Some p.1 p.3); lived = lived-on mid See_failed (record {}) y })
  look-kept false mid new k x =
      let y = go-on-losses mid k.0 k.1 (before-losses mid x) in
      through-scans l n (LossesOf l old) No_command kept (after l k.0 Release) new k.2 (record { told = y.told; errors = y.errors; lived = y.lived })

  -- once its first change has happened, an event of a shard declares no others
  pub goes-on : (mid new : Shard) → GoOn l n old mid → Through l n Scans mid new → LossesOf l old new
  goes-on mid new goes scans = through-scans l n (LossesOf l old) No_command kept mid new scans (go-on-losses old mid goes (before-losses old at_first))

  -- an answer that is no error leaves the slots as they are
  pub opened : (token : ℕ) (completion : Completion) (receipt : Receipt) (change : Change) → IsNoError (Deliver token completion receipt) → Takes l old token completion receipt change → Allowed l n old change
      → GivenOver (after l old change)
  opened token Error Taken change none k a = absurd none
  opened token Read_error Taken change none k a = absurd none
  opened token (Good b) Taken (Learn t c h learned) none k a = record { losses = kept old (Learn t c h learned) (record {}) a (before-losses old at_first).losses; synced = λ slot row g sync. sync }
  opened token (Good b) Taken (Give_direct t c id block given) none k a = record { losses = kept old (Give_direct t c id block given) (record {}) a (before-losses old at_first).losses; synced = λ slot row g sync. sync }
  opened token (Good b) Taken (Confirm t c h) none k a = record { losses = kept old (Confirm t c h) (record {}) a (before-losses old at_first).losses; synced = λ slot row g sync. sync }
  opened token (Good b) Late (Come_home t c) none k a = record { losses = kept old (Come_home t c) (record {}) a (before-losses old at_first).losses; synced = λ slot row g sync. sync }
  opened token Error Late (Come_home t c) none k a = record { losses = kept old (Come_home t c) (record {}) a (before-losses old at_first).losses; synced = λ slot row g sync. sync }
  opened token Read_error Late (Come_home t c) none k a = record { losses = kept old (Come_home t c) (record {}) a (before-losses old at_first).losses; synced = λ slot row g sync. sync }
  opened token completion receipt change none k a = absurd k

  by_others : (event : Event) (new : Shard) → IsNoError event → (Moving event → ⊥) → Step l n old event new → LossesOf l old new
  by_others event new none still st = step-kept l n (LossesOf l old) event (losses-kept event none still) old new st (before-losses old at_first).losses

  pub declares : (event : Event) (new : Shard) → IsNoError event → Step l n old event new → LossesOf l old new
  declares (Look seen) new none st = look-kept seen.failed st.2 new st.5 (all-kept l n Before (TakesOver seen) (take-before seen) st.3.0 old st.2 st.3.1 at_first)
  declares (Deliver token completion receipt) new none st =
      through-scans l n (LossesOf l old) No_command kept st.3 new st.5 (go-on-losses (after l old st.0) st.3 st.4 (opened token completion receipt st.0 none st.1 st.2))
  declares (Submit op id) new none st = by_others (Submit op id) new none (λ moves. moves) st
  declares (Submit_all ops first) new none st = by_others (Submit_all ops first) new none (λ moves. moves) st
  declares (Turn_started task) new none st = by_others (Turn_started task) new none (λ moves. moves) st
  declares (Turn_skipped task row) new none st = by_others (Turn_skipped task row) new none (λ moves. moves) st
  declares (Take_command token c) new none st = by_others (Take_command token c) new none (λ moves. moves) st
  declares No_command new none st = by_others No_command new none (λ moves. moves) st
  declares (Take_call call) new none st = by_others (Take_call call) new none (λ moves. moves) st
  declares No_call new none st = by_others No_call new none (λ moves. moves) st
  declares (Told call answer) new none st = by_others (Told call answer) new none (λ moves. moves) st
  declares (Take_reply id reply) new none st = by_others (Take_reply id reply) new none (λ moves. moves) st
  declares No_reply new none st = by_others No_reply new none (λ moves. moves) st

-- a read error of a first read adds its own
pub errors-failed : (l : Layout) (n : ℕ) (s : Shard) (token : ℕ) (c : Command) (h : Hold) → Allowed l n s (Fail token c h) → (slot : ℕ)
    → IsInError l (after l s (Fail token c h)) slot → IsInError l s slot ⊎ IsReadAt l s c slot
errors-failed l n s token c h a slot p =
    let place = l.position h.row c.slot in
    let failed : Hold = record h { course = after_event h.course (Fails place); plan = after_error h.plan } in
    elim (put-cases s.frame c.frame (Some failed) p.0 (Some p.1) p.3) [
      | inr q ↦ inl (p.0, p.1, p.2, q.1, p.4, p.5)
      | inl q ↦
          let is : failed ≡ p.1 = Some-inj failed p.1 q.1 in
          let there : l.slot_at h.row p.2 ≡ slot = ap (λ (k : Hold). l.slot_at k.row p.2) is ∙ p.5 in
          elim (cell_after h.course (Fails place) p.2) [
            | inl same ↦
                inl (c.frame, h, p.2, a.2, ap is_in_error (sym same) ∙ ap (λ (k : Hold). is_in_error (cell_at k.course.cells p.2)) is ∙ p.4, there)
            | inr became ↦ inr (h, a.2, ap (l.slot_at h.row) (sym became.0) ∙ there)
          ]
    ]
