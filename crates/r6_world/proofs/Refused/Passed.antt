-- A position is passed on only when its slot has lost the first of two devices to which writes were put out, and no direct
-- read is put out to it then.
use Rattle.std.proofs.Common.{◌≡◌, ◌≢◌, ℕ, ◌≤◌, ◌⊎◌, List, [], ◌∷◌, ◌++◌, map, Bool, true, false, inl, inr, refl, sym, ap, ◌∙◌, subst, Option, Some, None, if◌then◌else◌, ◌==◌, not, eq-eqb}
use Rattle.std.proofs.lemmas.Bool.{cases_eq, cases_Bool, cases_lt, false≢true, or_left}
use Rattle.r6_stripe.specs.Holds.{Hold as Course, Cell, Standing, Event as HoldEvent, cell_at, after_event, begun as course_begun, Reading as CellReading, ready_for, moved, passed, targeted, Kind}
use Rattle.r6_stripe.specs.Holds.Doubling.{Single, Passed}
use Rattle.r6_stripe.specs.Holds.Event.{Asks, Fixes, AsksAgain, Restores, Computes, Writes, Copies, Gives, Fails, Confirms, Mends, Settles, Loses, Moves, Drops}
use Rattle.r6_stripe.specs.Holds.Standing.{InSync, Target, Out}
use Rattle.r6_stripe.specs.Holds.Kind.{Idle, Read as Reads, Write as Writing, Rebuild as Rebuilding, Check as Checking, Repair as Repairing}
use Rattle.r6_stripe.specs.Plans.{is_out}
use Rattle.r6_stripe.specs.RowWorld.{confirming}
use Rattle.r6_stripe.proofs.CellsAfter.{Became, cell_after, set_cell}
use Rattle.r6_world.specs.Tables.{put}
use Rattle.r6_world.specs.Layouts.{Layout, slot_of}
use Rattle.r6_world.specs.PlainArray.{Read}
use Rattle.r6_world.specs.Registers.{Snapshot}
use Rattle.r6_world.specs.Tasks.{Hold, kind_of, planned, serves}
use Rattle.r6_world.specs.ShardStates.{Shard, Command, Request, Waiting, Erred, Held, Reading, Finished, SlotState, Synced, Missing, Building, Doubled, Paired, begun, found, generation_in, second_in, has_device, devices_of, LossOf, IsPassedOn}
use Rattle.r6_world.specs.Changes.{Change, Accept, Start, Ask, Prepare, Classify, Send, Copy, Read_direct, Give_direct, Learn, Confirm, Fix, Ask_again, Fail, Set_back, Move, Give_over, Come_home, Lose, Adopt, See_failed, Finish, Bring_in, Release, Skip_turn, Hand_command, Hand_call, Hear, Hand_reply, Allowed, IsWorkedOut, adopted, differs, after, confirmed_by, heard_of, hearing, told_hold, abandoned_to, slots_in_error, without, taken_out, lost_slot}
use Rattle.r6_world.specs.Steps.{Event, Scans, GoesOn, GivesOver, TakesOver, Takes, Completion, Good, Error, Read_error, Receipt, Taken, Late, Through, GoOn, Looks, Step, Deliver, Look, Submit, Submit_all, entered, Turn_started, Turn_skipped, Take_command, No_command, Take_call, No_call, Told, Take_reply, No_reply}
use Rattle.r6_world.specs.Refusals.{PassedOnWaits, OnlyLossesPassOn, HasLostFirst, IsWrittenToBoth}
use Rattle.r6_world.proofs.Rows.Doubles.{doubled-before}
use Rattle.r6_world.proofs.Stages.{finished-reading, released-reading, failed-reading}
use Rattle.r6_world.proofs.Tables.{put-same, put-other, put-cases, None-not_Some, Some-inj}
use Rattle.r6_world.proofs.Acts.Requests.{request_at, same_stage, held_now-served, held_now-other, staged-cases, released-cases, finished-cases, failed-cases}
use Rattle.r6_world.proofs.Acts.ReadOns.{read-reading}
use Rattle.r6_world.proofs.Cells.{found-at, found-long, cell-past}
use Rattle.r6_world.proofs.Changes.{Within, IsNoRead, step-scanned, lost-kept, all-kept, enter-kept}
use Rattle.r6_world.proofs.Looks.{look_brings_nothing, look_keeps_first, loss_keeps_first}
use Rattle.r6_world.proofs.Register.PutAway.{without-was}
use Rattle.r6_world.proofs.Uses.{sync-uses, used-has}
use Rattle.r6_world.proofs.Refused.Devices.{fewer-has, goes-has, SyncedBefore, synced-put, gives-synced, taken-synced, TakenOnce, take-once}
use Rattle.r6_world.proofs.Refused.Origins.{HasNoSecond, Origins, at-first, told-origin, opened-origin}

-- ---- a position that is passed on

single-not-passed : Single ≡ Passed → ⊥
single-not-passed e = cc

ready-before : (second : Standing) (cell : Cell) (block : List ℕ) → (ready_for second cell block).doubling ≡ Passed → cell.doubling ≡ Passed
ready-before InSync cell block e = e
ready-before Target cell block e = e
ready-before Out cell block e = e

-- no event of a hold passes one on but that the first device is taken out
abbrev IsNoMove : HoldEvent → Type 0
IsNoMove (Moves position) = ⊥
IsNoMove event = record {}

became-before : (event : HoldEvent) → IsNoMove event → (j : ℕ) (before later : Cell) → Became event j before later → later.doubling ≡ Passed → before.doubling ≡ Passed
became-before (Asks i) k j before later b e = ap (λ (c : Cell). c.doubling) (sym b.1) ∙ e
became-before (Fixes i block) k j before later b e = ap (λ (c : Cell). c.doubling) (sym b.1) ∙ e
became-before (AsksAgain i) k j before later b e = ap (λ (c : Cell). c.doubling) (sym b.1) ∙ e
became-before (Restores i block) k j before later b e = ap (λ (c : Cell). c.doubling) (sym b.1) ∙ e
became-before (Computes new) k j before later b e = ready-before before.second before b.1.0 (ap (λ (c : Cell). c.doubling) (sym b.1.1) ∙ e)
became-before (Writes i block) k j before later b e = doubled-before before.second before.doubling (ap (λ (c : Cell). c.doubling) (sym b.1) ∙ e)
became-before (Copies i block) k j before later b e = ap (λ (c : Cell). c.doubling) (sym b.1) ∙ e
became-before (Gives i block) k j before later b e = ap (λ (c : Cell). c.doubling) (sym b.1) ∙ e
became-before (Fails i) k j before later b e = ap (λ (c : Cell). c.doubling) (sym b.1) ∙ e
became-before (Confirms i) k j before later b e = ap (λ (c : Cell). c.doubling) (sym b.1) ∙ e
became-before (Mends i) k j before later b e = ap (λ (c : Cell). c.doubling) (sym b.1) ∙ e
became-before (Settles i) k j before later b e = ap (λ (c : Cell). c.doubling) (sym b.1) ∙ e
became-before (Loses i) k j before later b e = ap (λ (c : Cell). c.doubling) (sym b.1) ∙ e
became-before (Drops i) k j before later b e = ap (λ (c : Cell). c.doubling) (sym b.1) ∙ e
became-before (Moves i) k j before later b e = absurd k

passed-before : (course : Course) (event : HoldEvent) → IsNoMove event → (j : ℕ) → (cell_at (after_event course event).cells j).doubling ≡ Passed → (cell_at course.cells j).doubling ≡ Passed
passed-before course event k j e = elim (cell_after course event j) [
  | inl same ↦ ap (λ (c : Cell). c.doubling) (sym same) ∙ e
  | inr became ↦ became-before event k j (cell_at course.cells j) (cell_at (after_event course event).cells j) became e
]

worked-no-move : (event : HoldEvent) → IsWorkedOut event → IsNoMove event
worked-no-move (Restores position block) k = record {}
worked-no-move (Computes new) k = record {}
worked-no-move event k = absurd k

confirming-no-move : (reading : CellReading) (place : ℕ) → IsNoMove (confirming reading place)
confirming-no-move CellReading.Unread place = record {}
confirming-no-move CellReading.Recalled place = record {}
confirming-no-move CellReading.Asked place = record {}
confirming-no-move CellReading.Unreadable place = record {}
confirming-no-move CellReading.Fixing place = record {}
confirming-no-move CellReading.Fixed place = record {}
confirming-no-move CellReading.AskedAgain place = record {}
confirming-no-move (CellReading.Known b) place = record {}
confirming-no-move CellReading.Replaced place = record {}

confirmed-no-move : (state : SlotState) (generation : ℕ) (reading : CellReading) (place : ℕ) → IsNoMove (confirmed_by state generation reading place)
confirmed-no-move state generation reading place = by (generation_in state == generation)
  where
    by : (b : Bool) → IsNoMove (if b then confirming reading place else Settles place)
    by true = confirming-no-move reading place
    by false = record {}

-- a hold that begins has passed none on
fresh-none : (l : Layout) (slots : ℕ → SlotState) (row at : ℕ) → (cell_at (found l slots row).cells at).doubling ≡ Passed → ⊥
fresh-none l slots row at e = elim (cases_lt at l.slots) [
  | inl below ↦ single-not-passed (ap (λ (c : Cell). c.doubling) (sym (found-at l slots row at below)) ∙ e)
  | inr past ↦ single-not-passed (ap (λ (c : Cell). c.doubling) (sym (cell-past (found l slots row).cells at (subst (λ y. y ≤ at) (sym (found-long l slots row)) past))) ∙ e)
]

targeted-none : (standing : Standing) (cell : Cell) → (targeted standing cell).doubling ≡ Passed → cell.doubling ≡ Passed
targeted-none InSync cell e = e
targeted-none Target cell e = e
targeted-none Out cell e = absurd (single-not-passed e)

begun-none : (l : Layout) (slots : ℕ → SlotState) (row : ℕ) (kind : Kind) (at : ℕ) → (cell_at (course_begun (found l slots row) kind).cells at).doubling ≡ Passed → ⊥
begun-none l slots row Idle at e = fresh-none l slots row at e
begun-none l slots row (Reads index) at e = fresh-none l slots row at e
begun-none l slots row (Writing batch) at e = fresh-none l slots row at e
begun-none l slots row (Rebuilding target) at e = elim (set_cell (λ c. targeted c.standing c) (found l slots row).cells target at) [
  | inl same ↦ fresh-none l slots row at (ap (λ (c : Cell). c.doubling) (sym same) ∙ e)
  | inr new ↦ fresh-none l slots row at (targeted-none _ _ (ap (λ (c : Cell). c.doubling) (sym new.1) ∙ e))
]
begun-none l slots row Checking at e = fresh-none l slots row at e
begun-none l slots row Repairing at e = fresh-none l slots row at e

abbrev pub PassedAt : (ℕ → Option Hold) → (row at : ℕ) → Type 0
PassedAt frame row at = (f : ℕ) × (h : Hold) × (frame f ≡ Some h) × (h.row ≡ row) × ((cell_at h.course.cells at).doubling ≡ Passed)

single-passed : (before : Cell) → (moved before).doubling ≡ Passed → before.doubling ≢ Single
single-passed before e single = single-not-passed (ap passed (sym single) ∙ e)

-- a hold that hears of a device that is taken out passes its position on only if that is the first of two, and writes to
-- both were put out
passed-heard : (h : Hold) (out two first second : Bool) (place j : ℕ) → (cell_at (hearing (planned h) (if out then None else heard_of two first second place)).hold.cells j).doubling ≡ Passed
    → ((cell_at h.course.cells j).doubling ≡ Passed)
    ⊎ ((j ≡ place) × (first ≡ false) × (second ≡ true) × (out ≡ false) × (two ≡ true) × ((cell_at h.course.cells j).doubling ≢ Single))
passed-heard h true two first second place j e = inl e
passed-heard h false false true second place j e = inl e
passed-heard h false false false second place j e = inl (passed-before h.course (Loses place) (record {}) j e)
passed-heard h false true true true place j e = inl e
passed-heard h false true true false place j e = inl (passed-before h.course (Drops place) (record {}) j e)
passed-heard h false true false true place j e = elim (cell_after h.course (Moves place) j) [
  | inl same ↦ inl (ap (λ (c : Cell). c.doubling) (sym same) ∙ e)
  | inr became ↦ inr (
    became.0,
    refl,
    refl,
    refl,
    refl,
    single-passed (cell_at h.course.cells j) (ap (λ (c : Cell). c.doubling) (sym became.1) ∙ e),
  )
]
passed-heard h false true false false place j e = inl (passed-before h.course (Loses place) (record {}) j e)

-- and then it was a device of the slot
first-there : (was now : SlotState) → has_device now (generation_in was) ≡ false → has_device now (second_in was) ≡ true → has_device was (generation_in was) ≡ true
first-there (Synced current) now e e' = eq-eqb current current refl
first-there Missing now e e' = absurd (false≢true (sym e ∙ e'))
first-there (Building current built) now e e' = eq-eqb current current refl
first-there (Doubled old new built) now e e' = or_left _ _ (eq-eqb old old refl)
first-there (Paired old new) now e e' = or_left _ _ (eq-eqb old old refl)

-- a position that isn't out has a second device, as the hold hears
two-there : (cell : Cell) → HasNoSecond cell → is_out cell.standing ≡ false → not (is_out cell.second) ≡ true → ⊥
two-there cell (inl e) first second = false≢true (sym first ∙ e)
two-there cell (inr e) first second = false≢true (ap not (sym e) ∙ second)

-- ---- changes that take no device out pass none on

abbrev pub TakesNone : Change → Type 0
TakesNone (Move f h slot g) = ⊥
TakesNone (Give_over f h) = ⊥
TakesNone (Lose t c) = ⊥
TakesNone (Adopt slot status) = ⊥
TakesNone change = record {}

module _ (l : Layout) (n : ℕ) where
  passed-on : (s : Shard) (f : ℕ) (h h' : Hold) → s.frame f ≡ Some h → h'.row ≡ h.row → ((j : ℕ) → (cell_at h'.course.cells j).doubling ≡ Passed → (cell_at h.course.cells j).doubling ≡ Passed)
      → (row at : ℕ) → PassedAt (put s.frame f (Some h')) row at → PassedAt s.frame row at
  passed-on s f h h' here same before row at p = elim (put-cases s.frame f (Some h') p.0 (Some p.1) p.2) [
    | inl q ↦
        let is : h' ≡ p.1 = Some-inj h' p.1 q.1 in
        (f, h, here, sym same ∙ ap (λ (k : Hold). k.row) is ∙ p.3, before at (ap (λ (k : Hold). (cell_at k.course.cells at).doubling) is ∙ p.4))
    | inr q ↦ (p.0, p.1, q.1, p.3, p.4)
  ]

  passed-event : (s : Shard) (f : ℕ) (h : Hold) (event : HoldEvent) → IsNoMove event → s.frame f ≡ Some h → (row at : ℕ)
      → PassedAt (put s.frame f (Some (record h { course = after_event h.course event }))) row at → PassedAt s.frame row at
  passed-event s f h event k here row at p = passed-on s f h (record h { course = after_event h.course event }) here refl (passed-before h.course event k) row at p

  pub passed-back : (s : Shard) (change : Change) → TakesNone change → Allowed l n s change → (row slot : ℕ) → IsPassedOn l (after l s change) row slot → IsPassedOn l s row slot
  passed-back s (Start f row task) k a r slot p = elim (put-cases s.frame f (Some (begun l s.slot row task)) p.0 (Some p.1) p.2) [
    | inl q ↦ absurd (begun-none l s.slot row (kind_of l row task) (l.position r slot)
        (ap (λ (k : Hold). (cell_at k.course.cells (l.position r slot)).doubling) (Some-inj (begun l s.slot row task) p.1 q.1) ∙ p.4))
    | inr q ↦ (p.0, p.1, q.1, p.3, p.4)
  ]
  passed-back s (Ask f h d g) k a row slot p = passed-event s f h (Asks (l.position h.row d)) (record {}) a.0 row (l.position row slot) p
  passed-back s (Prepare f h event) k a row slot p = passed-event s f h event (worked-no-move event a.2) a.0 row (l.position row slot) p
  passed-back s (Classify f h class) k a row slot p = passed-on s f h (record h { class = Some class }) a.0 refl (λ j e. e) row (l.position row slot) p
  passed-back s (Send f h d g b) k a row slot p = passed-event s f h (Writes (l.position h.row d) b) (record {}) a.0 row (l.position row slot) p
  passed-back s (Copy f h d g b) k a row slot p = passed-event s f h (Copies (l.position h.row d) b) (record {}) a.0 row (l.position row slot) p
  passed-back s (Fix f h d g b) k a row slot p = passed-event s f h (Fixes (l.position h.row d) b) (record {}) a.0 row (l.position row slot) p
  passed-back s (Ask_again f h d g) k a row slot p = passed-event s f h (AsksAgain (l.position h.row d)) (record {}) a.0 row (l.position row slot) p
  passed-back s (Learn t c h b) k a row slot p = passed-event s c.frame h (Gives (l.position h.row c.slot) b) (record {}) a.2 row (l.position row slot) p
  passed-back s (Confirm t c h) k a row slot p =
      let place = l.position h.row c.slot in
      let reading = (cell_at h.course.cells place).reading in
      passed-event s c.frame h (confirmed_by (s.slot c.slot) c.generation reading place) (confirmed-no-move (s.slot c.slot) c.generation reading place) a.2 row (l.position row slot) p
  passed-back s (Fail t c h) k a row slot p = passed-on s c.frame h _ a.2 refl (passed-before h.course (Fails (l.position h.row c.slot)) (record {})) row (l.position row slot) p
  passed-back s (Finish f h outcome) k a row slot p = elim (put-cases s.frame f None p.0 (Some p.1) p.2) [
    | inl q ↦ absurd (None-not_Some p.1 q.1)
    | inr q ↦ (p.0, p.1, q.1, p.3, p.4)
  ]
  passed-back s See_failed k a row slot p = absurd (None-not_Some p.1 p.2)
  passed-back s (Move f h d g) k a row slot p = absurd k
  passed-back s (Give_over f h) k a row slot p = absurd k
  passed-back s (Lose t c) k a row slot p = absurd k
  passed-back s (Adopt d status) k a row slot p = absurd k
  passed-back s change k a row slot p = p

  -- nor do they change the devices
  same-devices : (s : Shard) (change : Change) → TakesNone change → Allowed l n s change → (d g : ℕ) → has_device ((after l s change).slot d) g ≡ has_device (s.slot d) g
  same-devices s (Finish f h outcome) k a d g = goes-has l n s (Finish f h outcome) (record {}) a d g
  same-devices s (Bring_in slot current) k a d g = goes-has l n s (Bring_in slot current) (record {}) a d g
  same-devices s (Move f h slot current) k a d g = absurd k
  same-devices s (Give_over f h) k a d g = absurd k
  same-devices s (Lose t c) k a d g = absurd k
  same-devices s (Adopt slot status) k a d g = absurd k
  same-devices s change k a d g = refl

  goes-take-none : (change : Change) → GoesOn change → TakesNone change
  goes-take-none (Ask f h d g) k = record {}
  goes-take-none (Prepare f h event) k = record {}
  goes-take-none (Classify f h class) k = record {}
  goes-take-none (Send f h d g b) k = record {}
  goes-take-none (Copy f h d g b) k = record {}
  goes-take-none (Fix f h d g b) k = record {}
  goes-take-none (Ask_again f h d g) k = record {}
  goes-take-none (Finish f h outcome) k = record {}
  goes-take-none (Bring_in slot g) k = record {}
  goes-take-none change k = absurd k

  scans-take-none : (change : Change) → Scans change → TakesNone change
  scans-take-none (Start f row task) k = record {}
  scans-take-none (Ask f h d g) k = record {}
  scans-take-none (Prepare f h event) k = record {}
  scans-take-none (Send f h d g b) k = record {}
  scans-take-none (Copy f h d g b) k = record {}
  scans-take-none (Read_direct buffer id block g) k = record {}
  scans-take-none change k = absurd k

  -- ---- direct reads

  waiting-not : (t : ℕ) → Waiting ≡ Reading t → ⊥
  waiting-not t e = cc

  erred-not : (t : ℕ) → Erred ≡ Reading t → ⊥
  erred-not t e = cc

  held-not : (f t : ℕ) → Held f ≡ Reading t → ⊥
  held-not f t e = cc

  finished-not : (reply : Rattle.r6_world.specs.PlainArray.Reply) (t : ℕ) → Finished reply ≡ Reading t → ⊥
  finished-not reply t e = cc

module _ (l : Layout) (n : ℕ) (old : Shard) where
  -- a direct read that is out was out
  abbrev ReadsOf : (ℕ → Option Request) → Type 0
  ReadsOf request = (id block t : ℕ) → request id ≡ Some (request_at (Read block) (Reading t)) → old.request id ≡ Some (request_at (Read block) (Reading t))

  abbrev Unread : Shard → Type 0
  Unread s = ReadsOf s.request

  reads-put : (s : Shard) (i : ℕ) (o : Option Request) → ((block t : ℕ) → o ≡ Some (request_at (Read block) (Reading t)) → ⊥) → Unread s → ReadsOf (put s.request i o)
  reads-put s i o none x id block t e = elim (put-cases s.request i o id _ e) [ inl q ↦ absurd (none block t q.1) | inr q ↦ x id block t q.1 ]

  reads-kept : (event : Event) (s : Shard) (change : Change) → Within event change → IsNoRead change → Allowed l n s change → Unread s → Unread (after l s change)
  reads-kept event s (Accept op) within k a x = reads-put s s.accepted _ (λ block t e. waiting-not l n t (same_stage _ _ _ _ e).1) x
  reads-kept event s (Start f row task) within k a x = λ id block t e. elim (cases_Bool (serves task id)) [
    | inl mine ↦ absurd (held-not l n f t (staged-cases (s.request id) f (Read block) (Reading t) (sym (held_now-served s.request task f id mine) ∙ e)).2)
    | inr other ↦ x id block t (sym (held_now-other s.request task f id other) ∙ e)
  ]
  reads-kept event s (Read_direct buffer id block g) within k a x = absurd k
  reads-kept event s (Give_direct token c i b given) within k a x = reads-put s i _ (λ block t e. finished-not l n _ t (same_stage _ _ _ _ e).1) x
  reads-kept event s (Set_back token c i b) within k a x = reads-put s i _ (λ block t e. erred-not l n t (same_stage _ _ _ _ e).1) x
  reads-kept event s (Move f h slot g) within k a x = λ id block t e. x id block t (read-reading (λ u. abandoned_to _ slot (without (s.slot slot) g) (s.command u)) (s.request id) (Read block) t e).0
  reads-kept event s (Give_over f h) within k a x =
      lost-kept l Unread (λ s' slot y id block t e. y id block t (read-reading (λ u. abandoned_to _ slot Missing (s'.command u)) (s'.request id) (Read block) t e).0) (slots_in_error l h) s x
  reads-kept event s (Lose token c) within k a x = λ id block t e. x id block t (read-reading (λ u. abandoned_to _ c.slot (without (s.slot c.slot) c.generation) (put s.command token None u)) (s.request id) (Read block) t e).0
  reads-kept event s (Adopt slot status) within k a x = λ id block t e. x id block t (read-reading (λ u. abandoned_to _ slot (adopted (s.slot slot) status) (s.command u)) (s.request id) (Read block) t e).0
  reads-kept event s See_failed within k a x = λ id block t e. let p = failed-cases (s.request id) (Read block) (Reading t) e in absurd (failed-reading p.0 t p.2)
  reads-kept event s (Finish f h outcome) within k a x = λ id block t e.
      let p = finished-cases f outcome (s.request id) (Read block) (Reading t) e in
      x id block t (p.1 ∙ ap (λ y. Some (request_at (Read block) y)) (finished-reading f outcome (Read block) p.0 t p.2))
  reads-kept event s Release within k a x = λ id block t e.
      let p = released-cases (s.request id) (Read block) (Reading t) e in
      x id block t (p.1 ∙ ap (λ y. Some (request_at (Read block) y)) (released-reading p.0 t p.2))
  reads-kept event s (Hand_reply i op reply) within k a x = reads-put s i None (λ block t e. None-not_Some _ e) x
  reads-kept event s change within k a x = x

  -- one that is put out is of no position that is passed on
  abbrev Apart : Shard → Type 0
  Apart s =
      (id block t : ℕ) → s.request id ≡ Some (request_at (Read block) (Reading t)) → IsPassedOn l s (l.row_of block) (slot_of l block)
      → old.request id ≡ Some (request_at (Read block) (Reading t))

  read-block : (a b : ℕ) → Read a ≡ Read b → a ≡ b
  read-block a b e = cc

  scans-apart : (s : Shard) (change : Change) → Scans change → Allowed l n s change → Apart s → Apart (after l s change)
  scans-apart s (Start f row task) k a x id block t e p = elim (cases_Bool (serves task id)) [
    | inl mine ↦ absurd (held-not l n f t (staged-cases (s.request id) f (Read block) (Reading t) (sym (held_now-served s.request task f id mine) ∙ e)).2)
    | inr other ↦ x id block t (sym (held_now-other s.request task f id other) ∙ e) (passed-back l n s (Start f row task) (record {}) a (l.row_of block) (slot_of l block) p)
  ]
  scans-apart s (Read_direct buffer i b g) k a x id block t e p = elim (put-cases s.request i _ id _ e) [
    | inl q ↦
        let same : b ≡ block = read-block b block (same_stage (Read b) (Read block) (Reading s.tokens) (Reading t) q.1).0 in
        absurd (a.7 (subst (λ y. IsPassedOn l s (l.row_of y) (slot_of l y)) (sym same) p))
    | inr q ↦ x id block t q.1 p
  ]
  scans-apart s (Ask f h d g) k a x id block t e p = x id block t e (passed-back l n s (Ask f h d g) (record {}) a (l.row_of block) (slot_of l block) p)
  scans-apart s (Prepare f h event) k a x id block t e p = x id block t e (passed-back l n s (Prepare f h event) (record {}) a (l.row_of block) (slot_of l block) p)
  scans-apart s (Send f h d g b) k a x id block t e p = x id block t e (passed-back l n s (Send f h d g b) (record {}) a (l.row_of block) (slot_of l block) p)
  scans-apart s (Copy f h d g b) k a x id block t e p = x id block t e (passed-back l n s (Copy f h d g b) (record {}) a (l.row_of block) (slot_of l block) p)
  scans-apart s change k a x id block t e p = absurd k

pub passed_on_waits : PassedOnWaits
passed_on_waits l n old new event id block token st here passed =
    step-scanned l n (Unread l n old) (Apart l n old) event (reads-kept l n old event) (λ s x id block t e p. x id block t e) (scans-apart l n old) old new st
    (λ id block t e. e) id block token here passed

-- ---- only the loss of the first device passes a position on

module _ (l : Layout) (n : ℕ) (old : Shard) where
  abbrev LostAt : Shard → (row slot : ℕ) → Type 0
  LostAt s row slot = IsWrittenToBoth l old row slot × (own : ℕ) × (l.position row own ≡ l.position row slot) × HasLostFirst old s own

  abbrev Passes : Shard → Type 0
  Passes s = (row slot : ℕ) → IsPassedOn l s row slot → IsPassedOn l old row slot ⊎ LostAt s row slot

  still-lost : (s s' : Shard) → ((d g : ℕ) → has_device (old.slot d) g ≡ true → has_device (s.slot d) g ≡ false → has_device (s'.slot d) g ≡ false) → (row slot : ℕ) → LostAt s row slot → LostAt s' row slot
  still-lost s s' on row slot x = (x.0, x.1, x.2, (x.3.0, on x.1 (generation_in (old.slot x.1)) x.3.0 x.3.1))

  none-passes : (s : Shard) (change : Change) → TakesNone change → Allowed l n s change → Passes s → Passes (after l s change)
  none-passes s change k a x row slot p = elim (x row slot (passed-back l n s change k a row slot p)) [
    | inl was ↦ inl was
    | inr lost ↦ inr (still-lost s (after l s change) (λ d g there e. same-devices l n s change k a d g ∙ e) row slot lost)
  ]

  -- a slot has another state
  taken-passes : (s : Shard) (out : ℕ) (now : SlotState) → (has_device now (generation_in (s.slot out)) ≡ false → has_device now (second_in (s.slot out)) ≡ true → has_device (old.slot out) (generation_in (s.slot out)) ≡ true)
      → ((g : ℕ) → has_device (old.slot out) g ≡ true → has_device (s.slot out) g ≡ false → has_device now g ≡ false)
      → Origins l n old s.frame s.slot → Passes s → Passes (taken_out l s out now)
  taken-passes s out now there still origins x row slot p = at (s.frame p.0) refl p.2
    where
      was : SlotState
      was = s.slot out

      on : (d g : ℕ) → has_device (old.slot d) g ≡ true → has_device (s.slot d) g ≡ false → has_device (put s.slot out now d) g ≡ false
      on d g here e = elim (cases_eq d out) [
        | inl same ↦ ap (λ z. has_device z g) (put-same s.slot out now d same) ∙ still g (ap (λ k. has_device (old.slot k) g) (sym same) ∙ here) (ap (λ k. has_device (s.slot k) g) (sym same) ∙ e)
        | inr ne ↦ ap (λ z. has_device z g) (put-other s.slot out now d ne) ∙ e
      ]

      at : (o : Option Hold) → s.frame p.0 ≡ o → told_hold l out was now o ≡ Some p.1 → IsPassedOn l old row slot ⊎ LostAt (taken_out l s out now) row slot
      at None here e = absurd (None-not_Some p.1 e)
      at (Some h) here e =
          let is = Some-inj _ _ e in
          let in-row : h.row ≡ row = ap (λ (k : Hold). k.row) is ∙ p.3 in
          let cell = cell_at h.course.cells (l.position h.row out) in
          elim (passed-heard h (is_out cell.standing) (not (is_out cell.second)) (has_device now (generation_in was)) (has_device now (second_in was)) (l.position h.row out) (l.position row slot)
          (ap (λ (k : Hold). (cell_at k.course.cells (l.position row slot)).doubling) is ∙ p.4)) [
            | inl before ↦ elim (x row slot (p.0, h, here, in-row, before)) [
              | inl first ↦ inl first
              | inr lost ↦ inr (still-lost s (taken_out l s out now) on row slot lost)
            ]
            | inr moves ↦ elim ((origins p.0 h here).first out) [
              | inr none ↦ absurd (two-there cell none moves.3 moves.4)
              | inl same ↦
                  let origin = origins p.0 h here in
                  let first : has_device now (generation_in (old.slot out)) ≡ false = ap (has_device now) (sym same) ∙ moves.1 in inr (
                    (
                      p.0,
                      origin.hold,
                      origin.there,
                      origin.in_row ∙ in-row,
                      (λ single. moves.5 (origin.single (l.position row slot) single)),
                    ),
                    out,
                    ap (λ r. l.position r out) (sym in-row) ∙ sym moves.0,
                    (
                      ap (has_device (old.slot out)) (sym same) ∙ there moves.1 moves.2,
                      ap (λ z. has_device z (generation_in (old.slot out))) (put-same s.slot out now out refl) ∙ first,
                    ),
                  )
            ]
          ]

  -- slots become others
  record Taking (s : Shard) : Type 0 where
    origins : Origins l n old s.frame s.slot
    passes : Passes s

  -- a hold gives devices over
  record Giving (s : Shard) : Type 0 where
    synced : SyncedBefore l n old s.slot
    taking : Taking s

  lost-taking : (s : Shard) (out : ℕ) → Taking s → Taking (lost_slot l s out)
  lost-taking s out x = record {
    origins = told-origin l n old s.frame s.slot out Missing (λ e. absurd (false≢true e)) x.origins;
    passes = taken-passes (record s { calls = s.calls ++ map (LossOf out) (devices_of (s.slot out)) }) out Missing (λ e e'. absurd (false≢true e')) (λ g e e'. refl) x.origins x.passes;
  }

  gives-passes : (s : Shard) (change : Change) → GivesOver change → Allowed l n s change → Giving s → Giving (after l s change)
  gives-passes s (Give_over f h) k a x = record {
    synced = gives-synced l n old s (Give_over f h) k a x.synced;
    taking = lost-kept l Taking lost-taking (slots_in_error l h) s x.taking;
  }
  gives-passes s (Move f h slot g) k a x = record {
    synced = gives-synced l n old s (Move f h slot g) k a x.synced;
    taking = record {
      origins = told-origin l n old s.frame s.slot slot (without (s.slot slot) g) (loss_keeps_first (s.slot slot) g) x.taking.origins;
      passes = taken-passes (record s { calls = s.calls ++ LossOf slot g ∷ [] }) slot (without (s.slot slot) g)
          (λ e e'. subst (λ z. has_device (old.slot slot) z ≡ true) a.2.1 (used-has (old.slot slot) g (sync-uses (old.slot slot) h.row g (x.synced slot h.row g a.2.0))))
          (λ g' e e'. fewer-has (without (s.slot slot) g) (s.slot slot) g' (without-was (s.slot slot) g g') e') x.taking.origins x.taking.passes;
    };
  }
  gives-passes s change k a x = absurd k

  go-on-passes : (mid last : Shard) → GoOn l n mid last → Giving mid → Passes last
  go-on-passes mid last t x =
      all-kept l n Passes GoesOn (λ s change k a y. none-passes s change (goes-take-none l n change k) a y) t.2.0 t.0 last t.2.1
      (all-kept l n Giving GivesOver gives-passes t.1.0 mid t.0 t.1.1 x).taking.passes

  scans-pass : (mid new : Shard) → Through l n Scans mid new → Passes mid → Passes new
  scans-pass mid new t x = all-kept l n Passes Scans (λ s change k a y. none-passes s change (scans-take-none l n change k) a y) t.0 mid new t.1 x

  at_first : Passes old
  at_first row slot p = inl p

  -- a look takes over
  record Looking (seen : Snapshot) (s : Shard) : Type 0 where
    giving : Giving s
    once : TakenOnce l n old seen s.slot

  take-passes : (seen : Snapshot) (s : Shard) (change : Change) → TakesOver seen change → Allowed l n s change → Looking seen s → Looking seen (after l s change)
  take-passes seen s (Adopt slot status) k a x = record {
    giving = record {
      synced = synced-put l n old s.slot slot (adopted (s.slot slot) status) (λ r g sync. look_brings_nothing (s.slot slot) status r g sync) x.giving.synced;
      taking = record {
        origins = told-origin l n old s.frame s.slot slot (adopted (s.slot slot) status) (look_keeps_first (s.slot slot) status) x.giving.taking.origins;
        passes = taken-passes s slot (adopted (s.slot slot) status)
            (λ e e'. ap (λ z. has_device z (generation_in (s.slot slot))) (sym same) ∙ first-there (s.slot slot) (adopted (s.slot slot) status) e e')
            (λ g e e'. absurd (false≢true (sym e' ∙ ap (λ z. has_device z g) same ∙ e))) x.giving.taking.origins x.giving.taking.passes;
      };
    };
    once = take-once l n old seen s.slot slot status k x.once;
  }
    where
      same : s.slot slot ≡ old.slot slot
      same = elim (x.once slot) [ inl is ↦ is | inr settled ↦ absurd (false≢true (sym settled ∙ ap (differs (s.slot slot)) (sym k) ∙ a.1)) ]
  take-passes seen s change k a x = absurd k

  look-passes : (failed : Bool) (mid new : Shard) → Looks l n failed mid new → Giving mid → Passes new
  look-passes true mid new k x = subst Passes (sym k) (none-passes mid See_failed (record {}) (record {}) x.taking.passes)
  look-passes false mid new k x = scans-pass (after l k.0 Release) new k.2 (none-passes k.0 Release (record {}) (record {}) (go-on-passes mid k.0 k.1 x))

  -- a completion comes
  lose-passes : (t : ℕ) (c : Command) → Passes (after l old (Lose t c))
  lose-passes t c =
      taken-passes (record old { command = put old.command t None; calls = old.calls ++ LossOf c.slot c.generation ∷ [] }) c.slot (without (old.slot c.slot) c.generation)
      (λ e e'. first-there (old.slot c.slot) (without (old.slot c.slot) c.generation) e e')
      (λ g e e'. fewer-has (without (old.slot c.slot) c.generation) (old.slot c.slot) g (without-was (old.slot c.slot) c.generation g) e') (at-first l n old) at_first

  opened : (token : ℕ) (completion : Completion) (receipt : Receipt) (change : Change) → Takes l old token completion receipt change → Allowed l n old change → Passes (after l old change)
  opened token (Good b) Taken (Learn t c h learned) k a = none-passes old (Learn t c h learned) (record {}) a at_first
  opened token (Good b) Taken (Give_direct t c id block given) k a = none-passes old (Give_direct t c id block given) (record {}) a at_first
  opened token (Good b) Taken (Confirm t c h) k a = none-passes old (Confirm t c h) (record {}) a at_first
  opened token Error Taken (Lose t c) k a = lose-passes t c
  opened token Read_error Taken (Fail t c h) k a = none-passes old (Fail t c h) (record {}) a at_first
  opened token Read_error Taken (Set_back t c id block) k a = none-passes old (Set_back t c id block) (record {}) a at_first
  opened token Read_error Taken (Lose t c) k a = lose-passes t c
  opened token (Good b) Late (Come_home t c) k a = none-passes old (Come_home t c) (record {}) a at_first
  opened token Error Late (Come_home t c) k a = none-passes old (Come_home t c) (record {}) a at_first
  opened token Read_error Late (Come_home t c) k a = none-passes old (Come_home t c) (record {}) a at_first
  opened token completion receipt change k a = absurd k

  passes : (event : Event) (new : Shard) → Step l n old event new → Passes new
  passes (Submit op id) new st = scans-pass (after l old (Accept op)) new st.2 (none-passes old (Accept op) (record {}) st.1 at_first)
  passes (Submit_all ops first) new st = scans-pass (entered l old ops) new st.2 (enter-kept l n Passes (λ s op a x. none-passes s (Accept op) (record {}) a x) ops old st.1 at_first)
  passes (Deliver token completion receipt) new st =
      scans-pass st.3 new st.5 (go-on-passes (after l old st.0) st.3 st.4 (record {
        synced = taken-synced l n old old token completion receipt st.0 st.1 (λ slot r g sync. sync);
        taking = record {
          origins = opened-origin l n old token completion receipt st.0 st.1 st.2;
          passes = opened token completion receipt st.0 st.1 st.2;
        };
      }))
  passes (Look seen) new st =
      look-passes seen.failed st.2 new st.5
      (all-kept l n (Looking seen) (TakesOver seen) (take-passes seen) st.3.0 old st.2 st.3.1 (record { giving = record { synced = λ slot r g sync. sync; taking = record { origins = at-first l n old; passes = at_first } }; once = λ d. inl refl })).giving
  passes (Turn_started task) new st = scans-pass (after l old (Start st.1 st.2 task)) new st.4 (none-passes old (Start st.1 st.2 task) (record {}) st.3 at_first)
  passes (Turn_skipped task row) new st = scans-pass (after l old (Skip_turn task row)) new st.1 (none-passes old (Skip_turn task row) (record {}) st.0 at_first)
  passes (Take_command token c) new st = subst Passes (sym st.1) (none-passes old (Hand_command token c) (record {}) st.0 at_first)
  passes No_command new st = subst Passes (sym st.1) at_first
  passes (Take_call call) new st = subst Passes (sym st.2) (none-passes old (Hand_call call st.0) (record {}) st.1 at_first)
  passes No_call new st = subst Passes (sym st.1) at_first
  passes (Told call answer) new st = subst Passes (sym st.1) (none-passes old (Hear call answer) (record {}) st.0 at_first)
  passes (Take_reply id reply) new st = subst Passes (sym st.2) (none-passes old (Hand_reply id st.0 reply) (record {}) st.1 at_first)
  passes No_reply new st = subst Passes (sym st.1) at_first

pub only_losses_pass_on : OnlyLossesPassOn
only_losses_pass_on l n old new event row slot st p = passes l n old event new st row slot p
