-- What the holds of a shard were when a step began, until they go on: what they had written to both devices of a
-- position, and which device of its slot was the first one.
use Rattle.std.proofs.Common.{◌≡◌, ℕ, ◌<◌, ◌⊎◌, length, Bool, true, false, inl, inr, refl, sym, ap, ◌∙◌, subst, Option, Some, None, if◌then◌else◌, ◌==◌, not}
use Rattle.std.proofs.lemmas.Bool.{cases_eq, false≢true}
use Rattle.r6_stripe.specs.Holds.{Hold as Course, Cell, Event as HoldEvent, Reading as CellReading, cell_at, after_event, moved, passed}
use Rattle.r6_stripe.specs.Holds.Doubling.{Single}
use Rattle.r6_stripe.specs.Holds.Event.{Gives, Fails, Confirms, Mends, Settles, Loses, Moves, Drops}
use Rattle.r6_stripe.specs.Holds.Standing.{Out}
use Rattle.r6_stripe.specs.Plans.{is_out}
use Rattle.r6_stripe.specs.RowWorld.{confirming}
use Rattle.r6_stripe.proofs.CellsAfter.{Became, cell_after}
use Rattle.r6_world.specs.Tables.{put}
use Rattle.r6_world.specs.Layouts.{Layout}
use Rattle.r6_world.specs.Tasks.{Hold, planned}
use Rattle.r6_world.specs.ShardStates.{Shard, SlotState, generation_in, second_in, has_device}
use Rattle.r6_world.specs.Changes.{Change, Learn, Give_direct, Confirm, Fail, Set_back, Come_home, Lose, Allowed, after, confirmed_by, heard_of, hearing, told_hold, without}
use Rattle.r6_world.specs.Steps.{Takes, Completion, Good, Error, Read_error, Receipt, Taken, Late}
use Rattle.r6_world.proofs.Tables.{put-same, put-other, put-cases, None-not_Some, Some-inj}
use Rattle.r6_world.proofs.Cells.{cell-same, not-out-within}
use Rattle.r6_world.proofs.Looks.{loss_keeps_first}

-- a position that is out, or has no second device: its hold doesn't pass it on
abbrev pub HasNoSecond : Cell → Type 0
HasNoSecond cell = (is_out cell.standing ≡ true) ⊎ (is_out cell.second ≡ true)

-- ---- what the answer of a command leaves of a position

abbrev IsAnswer : HoldEvent → Type 0
IsAnswer (Gives i block) = record {}
IsAnswer (Fails i) = record {}
IsAnswer (Confirms i) = record {}
IsAnswer (Mends i) = record {}
IsAnswer (Settles i) = record {}
IsAnswer event = ⊥

record IsAlike (before later : Cell) : Type 0 where
  standing : later.standing ≡ before.standing
  second : later.second ≡ before.second
  doubling : later.doubling ≡ before.doubling

answered-alike : (event : HoldEvent) → IsAnswer event → (j : ℕ) (before later : Cell) → Became event j before later → IsAlike before later
answered-alike (Gives i block) k j before later b = record { standing = ap (λ (c : Cell). c.standing) b.1; second = ap (λ (c : Cell). c.second) b.1; doubling = ap (λ (c : Cell). c.doubling) b.1 }
answered-alike (Fails i) k j before later b = record { standing = ap (λ (c : Cell). c.standing) b.1; second = ap (λ (c : Cell). c.second) b.1; doubling = ap (λ (c : Cell). c.doubling) b.1 }
answered-alike (Confirms i) k j before later b = record { standing = ap (λ (c : Cell). c.standing) b.1; second = ap (λ (c : Cell). c.second) b.1; doubling = ap (λ (c : Cell). c.doubling) b.1 }
answered-alike (Mends i) k j before later b = record { standing = ap (λ (c : Cell). c.standing) b.1; second = ap (λ (c : Cell). c.second) b.1; doubling = ap (λ (c : Cell). c.doubling) b.1 }
answered-alike (Settles i) k j before later b = record { standing = ap (λ (c : Cell). c.standing) b.1; second = ap (λ (c : Cell). c.second) b.1; doubling = ap (λ (c : Cell). c.doubling) b.1 }
answered-alike event k j before later b = absurd k

alike-after : (course : Course) (event : HoldEvent) → IsAnswer event → (j : ℕ) → IsAlike (cell_at course.cells j) (cell_at (after_event course event).cells j)
alike-after course event k j = elim (cell_after course event j) [
  | inl same ↦ record { standing = ap (λ (c : Cell). c.standing) same; second = ap (λ (c : Cell). c.second) same; doubling = ap (λ (c : Cell). c.doubling) same }
  | inr became ↦ answered-alike event k j (cell_at course.cells j) (cell_at (after_event course event).cells j) became
]

alike-none : (before later : Cell) → IsAlike before later → HasNoSecond before → HasNoSecond later
alike-none before later x (inl e) = inl (ap is_out x.standing ∙ e)
alike-none before later x (inr e) = inr (ap is_out x.second ∙ e)

confirming-answers : (reading : CellReading) (place : ℕ) → IsAnswer (confirming reading place)
confirming-answers CellReading.Unread place = record {}
confirming-answers CellReading.Recalled place = record {}
confirming-answers CellReading.Asked place = record {}
confirming-answers CellReading.Unreadable place = record {}
confirming-answers CellReading.Fixing place = record {}
confirming-answers CellReading.Fixed place = record {}
confirming-answers CellReading.AskedAgain place = record {}
confirming-answers (CellReading.Known b) place = record {}
confirming-answers CellReading.Replaced place = record {}

confirmed-answers : (state : SlotState) (generation : ℕ) (reading : CellReading) (place : ℕ) → IsAnswer (confirmed_by state generation reading place)
confirmed-answers state generation reading place = by (generation_in state == generation)
  where
    by : (b : Bool) → IsAnswer (if b then confirming reading place else Settles place)
    by true = confirming-answers reading place
    by false = record {}

-- ---- and what a device that is gone leaves of one

abbrev heard_cell : (h : Hold) (out two first second : Bool) (place j : ℕ) → Cell
heard_cell h out two first second place j = cell_at (hearing (planned h) (if out then None else heard_of two first second place)).hold.cells j

-- a position that changes has no second device any more
abbrev GoesAlone : (before later : Cell) → Type 0
GoesAlone before later = (later.second ≡ Out) × (before.doubling ≡ Single → later.doubling ≡ Single)

loses-alone : (course : Course) (place j : ℕ) → (cell_at (after_event course (Loses place)).cells j ≡ cell_at course.cells j) ⊎ GoesAlone (cell_at course.cells j) (cell_at (after_event course (Loses place)).cells j)
loses-alone course place j = elim (cell_after course (Loses place) j) [
  | inl same ↦ inl same
  | inr became ↦ inr (ap (λ (c : Cell). c.second) became.1, λ e. ap (λ (c : Cell). c.doubling) became.1 ∙ e)
]

drops-alone : (course : Course) (place j : ℕ) → (cell_at (after_event course (Drops place)).cells j ≡ cell_at course.cells j) ⊎ GoesAlone (cell_at course.cells j) (cell_at (after_event course (Drops place)).cells j)
drops-alone course place j = elim (cell_after course (Drops place) j) [
  | inl same ↦ inl same
  | inr became ↦ inr (ap (λ (c : Cell). c.second) became.1, λ e. ap (λ (c : Cell). c.doubling) became.1 ∙ e)
]

moves-alone : (course : Course) (place j : ℕ) → (cell_at (after_event course (Moves place)).cells j ≡ cell_at course.cells j) ⊎ GoesAlone (cell_at course.cells j) (cell_at (after_event course (Moves place)).cells j)
moves-alone course place j = elim (cell_after course (Moves place) j) [
  | inl same ↦ inl same
  | inr became ↦ inr (ap (λ (c : Cell). c.second) became.1, λ e. ap (λ (c : Cell). c.doubling) became.1 ∙ ap passed e)
]

heard-alone : (h : Hold) (out two first second : Bool) (place j : ℕ) → (heard_cell h out two first second place j ≡ cell_at h.course.cells j) ⊎ GoesAlone (cell_at h.course.cells j) (heard_cell h out two first second place j)
heard-alone h true two first second place j = inl refl
heard-alone h false false true second place j = inl refl
heard-alone h false false false second place j = loses-alone h.course place j
heard-alone h false true true true place j = inl refl
heard-alone h false true true false place j = drops-alone h.course place j
heard-alone h false true false true place j = moves-alone h.course place j
heard-alone h false true false false place j = loses-alone h.course place j

heard-single : (h : Hold) (out two first second : Bool) (place j : ℕ) → (cell_at h.course.cells j).doubling ≡ Single → (heard_cell h out two first second place j).doubling ≡ Single
heard-single h out two first second place j e = elim (heard-alone h out two first second place j) [
  | inl same ↦ ap (λ (c : Cell). c.doubling) same ∙ e
  | inr alone ↦ alone.1 e
]

heard-none : (h : Hold) (out two first second : Bool) (place j : ℕ) → HasNoSecond (cell_at h.course.cells j) → HasNoSecond (heard_cell h out two first second place j)
heard-none h out two first second place j none = elim (heard-alone h out two first second place j) [
  | inl same ↦ subst HasNoSecond (sym same) none
  | inr alone ↦ inr (ap is_out alone.0)
]

within : (h : Hold) (place : ℕ) → is_out (cell_at h.course.cells place).standing ≡ false → place < length h.course.cells
within h place e = not-out-within h.course.cells place (λ is. false≢true (sym e ∙ ap is_out is))

-- the position of the slot itself has no second device then, unless the slot keeps the first one
heard-own : (h : Hold) (out two first second : Bool) (place : ℕ) → is_out (cell_at h.course.cells place).standing ≡ out → (first ≡ true) ⊎ HasNoSecond (heard_cell h out two first second place place)
heard-own h true two first second place e = inr (inl e)
heard-own h false two true second place e = inl refl
heard-own h false false false second place e =
    inr (inr (ap (λ (c : Cell). is_out c.second) (cell-same h.course.cells place place (record (cell_at h.course.cells place) { standing = Out; second = Out }) refl (within h place e))))
heard-own h false true false true place e = inr (inr (ap (λ (c : Cell). is_out c.second) (cell-same h.course.cells place place (moved (cell_at h.course.cells place)) refl (within h place e))))
heard-own h false true false false place e =
    inr (inr (ap (λ (c : Cell). is_out c.second) (cell-same h.course.cells place place (record (cell_at h.course.cells place) { standing = Out; second = Out }) refl (within h place e))))

-- ---- the holds of a shard in a step

module _ (l : Layout) (n : ℕ) (old : Shard) where
  -- the hold was there: what it has put out to both devices of a position it had put out, and a position has a second
  -- device only as long as its slot has the first one that it had
  pub record Origin (slots : ℕ → SlotState) (f : ℕ) (h : Hold) : Type 0 where
    pub hold : Hold
    pub there : old.frame f ≡ Some hold
    pub in_row : hold.row ≡ h.row
    pub single : (at : ℕ) → (cell_at hold.course.cells at).doubling ≡ Single → (cell_at h.course.cells at).doubling ≡ Single
    pub first : (slot : ℕ) → (generation_in (slots slot) ≡ generation_in (old.slot slot)) ⊎ HasNoSecond (cell_at h.course.cells (l.position h.row slot))

  abbrev pub Origins : (frame : ℕ → Option Hold) (slots : ℕ → SlotState) → Type 0
  Origins frame slots = (f : ℕ) (h : Hold) → frame f ≡ Some h → Origin slots f h

  pub at-first : Origins old.frame old.slot
  at-first f h e = record { hold = h; there = e; in_row = refl; single = λ at e'. e'; first = λ slot. inl refl }

  -- a command is answered
  answered-origin : (frame : ℕ → Option Hold) (slots : ℕ → SlotState) (f : ℕ) (h h' : Hold) → frame f ≡ Some h → h'.row ≡ h.row → ((j : ℕ) → IsAlike (cell_at h.course.cells j) (cell_at h'.course.cells j))
      → Origins frame slots → Origins (put frame f (Some h')) slots
  answered-origin frame slots f h h' here row alike x k held e = elim (put-cases frame f (Some h') k (Some held) e) [
    | inl q ↦ subst (Origin slots k) (Some-inj h' held q.1) (subst (λ z. Origin slots z h') (sym q.0) origin)
    | inr q ↦ x k held q.1
  ]
    where
      was : Origin slots f h
      was = x f h here

      origin : Origin slots f h'
      origin = record {
        hold = was.hold;
        there = was.there;
        in_row = was.in_row ∙ sym row;
        single = λ at e'. (alike at).doubling ∙ was.single at e';
        first = λ slot. elim (was.first slot) [
          | inl same ↦ inl same
          | inr none ↦ inr (subst (λ r. HasNoSecond (cell_at h'.course.cells (l.position r slot))) (sym row) (alike-none _ _ (alike (l.position h.row slot)) none))
        ];
      }

  -- a slot has another state
  pub told-origin : (frame : ℕ → Option Hold) (slots : ℕ → SlotState) (out : ℕ) (now : SlotState)
      → (has_device now (generation_in (slots out)) ≡ true → generation_in now ≡ generation_in (slots out))
      → Origins frame slots → Origins (λ f. told_hold l out (slots out) now (frame f)) (put slots out now)
  told-origin frame slots out now keeps x f held e = at (frame f) refl e
    where
      was : SlotState
      was = slots out

      at : (o : Option Hold) → frame f ≡ o → told_hold l out was now o ≡ Some held → Origin (put slots out now) f held
      at None here e' = absurd (None-not_Some held e')
      at (Some h) here e' = subst (Origin (put slots out now) f) (Some-inj _ _ e') (record {
        hold = origin.hold;
        there = origin.there;
        in_row = origin.in_row;
        single = λ j single. heard-single h gone two first second place j (origin.single j single);
        first = λ slot. elim (origin.first slot) [
          | inr none ↦ inr (heard-none h gone two first second place (l.position h.row slot) none)
          | inl same ↦ elim (cases_eq slot out) [
            | inr ne ↦ inl (ap generation_in (put-other slots out now slot ne) ∙ same)
            | inl own ↦ elim (heard-own h gone two first second place refl) [
              | inl kept ↦ inl (ap generation_in (put-same slots out now slot own) ∙ keeps kept ∙ ap (λ k. generation_in (slots k)) (sym own) ∙ same)
              | inr none ↦ inr (subst (λ k. HasNoSecond (heard_cell h gone two first second place (l.position h.row k))) (sym own) none)
            ]
          ]
        ];
      })
        where
          origin : Origin slots f h
          origin = x f h here

          place : ℕ
          place = l.position h.row out

          gone : Bool
          gone = is_out (cell_at h.course.cells place).standing

          two : Bool
          two = not (is_out (cell_at h.course.cells place).second)

          first : Bool
          first = has_device now (generation_in was)

          second : Bool
          second = has_device now (second_in was)

  -- a completion comes
  pub opened-origin : (token : ℕ) (completion : Completion) (receipt : Receipt) (change : Change) → Takes l old token completion receipt change → Allowed l n old change → Origins (after l old change).frame (after l old change).slot
  opened-origin token (Good b) Taken (Learn t c h learned) k a = answered-origin old.frame old.slot c.frame h _ a.2 refl (alike-after h.course (Gives (l.position h.row c.slot) learned) (record {})) at-first
  opened-origin token (Good b) Taken (Give_direct t c id block given) k a = at-first
  opened-origin token (Good b) Taken (Confirm t c h) k a =
      let place = l.position h.row c.slot in
      let reading = (cell_at h.course.cells place).reading in
      answered-origin old.frame old.slot c.frame h _ a.2 refl (alike-after h.course (confirmed_by (old.slot c.slot) c.generation reading place) (confirmed-answers (old.slot c.slot) c.generation reading place)) at-first
  opened-origin token Error Taken (Lose t c) k a = told-origin old.frame old.slot c.slot (without (old.slot c.slot) c.generation) (loss_keeps_first (old.slot c.slot) c.generation) at-first
  opened-origin token Read_error Taken (Fail t c h) k a = answered-origin old.frame old.slot c.frame h _ a.2 refl (alike-after h.course (Fails (l.position h.row c.slot)) (record {})) at-first
  opened-origin token Read_error Taken (Set_back t c id block) k a = at-first
  opened-origin token Read_error Taken (Lose t c) k a = told-origin old.frame old.slot c.slot (without (old.slot c.slot) c.generation) (loss_keeps_first (old.slot c.slot) c.generation) at-first
  opened-origin token (Good b) Late (Come_home t c) k a = at-first
  opened-origin token Error Late (Come_home t c) k a = at-first
  opened-origin token Read_error Late (Come_home t c) k a = at-first
  opened-origin token completion receipt change k a = absurd k
