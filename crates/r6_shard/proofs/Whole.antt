-- A shard that loses no slot and sees none out skips no row.
use Rattle.std.proofs.Common.{◌≡◌, ℕ, zero, suc, ◌<◌, ◌⊎◌, List, [], ◌∷◌, if◌then◌else◌, length, Bool, true, false, inl, inr, refl, sym, ap, subst, ◌∙◌, arith, get_or-set_same, Option, Some, None, Result, Ok, Err}
use Rattle.std.specs.Prelude.{◌≤◌, ◌==◌, slice_index_or, slice_set, is_err}
use Rattle.std.proofs.lemmas.Bool.{true≢false, false≢true, and_parts, or_parts}
use Rattle.r6_layout.specs.Shape.{Shape}
use Rattle.r6_recover.specs.declared.class.RowClass.{RowClass}
use Rattle.r6_recover.specs.declared.class.RowClass.TheVariants.{Consistent, WrongP, WrongQ, WrongData, Many}
use Rattle.r6_stripe.specs.Holds.{Hold as Course, Kind, MayEnd, Owes, Reading, after_event, cell_at, passes_over}
use Rattle.r6_stripe.specs.Holds.Reading.{Unread, Recalled, Asked, Unreadable, Fixing, Fixed, AskedAgain, Known, Replaced}
use Rattle.r6_stripe.specs.Plans.{is_in_error}
use Rattle.r6_stripe.specs.Plans.Next.{MoveAt}
use Rattle.r6_stripe.proofs.Steps.{comes}
use Rattle.r6_stripe.specs.RowWorld.{confirming}
use Rattle.r6_stripe.specs.Holds.{Event as RowEvent}
use Rattle.r6_stripe.specs.Holds.Kind.{Idle, Read as RowRead, Write as RowWrite, Rebuild as RowRebuild, Check as RowCheck, Repair as RowRepair}
use Rattle.r6_stripe.specs.Holds.Event.{Restores, Computes, Settles}
use Rattle.r6_stripe.specs.Holds.Outcome.{GivenUp as RowGivenUp}
use Rattle.r6_world.specs.Tables.{put}
use Rattle.r6_health.specs.declared.history.View.{View}
use Rattle.r6_health.specs.Histories.{held, StartsWith}
use Rattle.r6_health.proofs.Histories.{starts_with-trans}
use Rattle.r6_world.specs.Layouts.{Layout}
use Rattle.r6_world.specs.Geometries.{layout_of}
use Rattle.r6_world.specs.Registers.{Snapshot, Status, InSync, Lost, Rebuilding, Replacing, is_in_sync, status_of}
use Rattle.r6_world.specs.Tasks.{planned, Task, Hold, Outcome, ReadFor, WriteFor, Rebuild, Check, Repair, Answered, Wrote, Rebuilt, GivenUp, Classed, Skipped, kind_of}
use Rattle.r6_world.specs.ShardStates as world
use Rattle.r6_world.specs.ShardStates.{SlotState, Synced, InSyncFor, Counts, generation_in, begun}
use Rattle.r6_world.specs.Changes.{Change, Allowed, Fix, Ask_again, Fail, Move, Give_over, in_error_from, lost_slots, Start, Ask, Prepare, Classify, Send, Copy, Learn, Confirm, Lose, Adopt, See_failed, Finish, Bring_in, Skip_turn, IsWorkedOut, Ends, counted, with_class, with_repair, differs, slots_after, with_row, brought_in, confirmed_by, after}
use Rattle.r6_world.specs.Steps as steps
use Rattle.r6_world.specs.Steps.{Event, Look, Deliver, Error, Read_error, Taken, Late}
use Rattle.r6_world.specs.Worlds.{slot_at_start}
use Rattle.r6_world.proofs.Tables.{put-cases, Some-inj, not_both, None-not_Some}
use Rattle.r6_world.proofs.Changes.{Within, step-kept}
use Rattle.r6_world.proofs.Refused.Declared.{ErrorsOf, errors-kept}
use Rattle.r6_world.specs.declared.values.DeviceFault.{DeviceFault}
use Rattle.r6_world.specs.declared.values.FaultKind.{FaultKind}
use Rattle.r6_world.specs.declared.values.FaultKind.TheVariants as fault_kind
use Rattle.r6_world.specs.declared.values.Receipt.{Receipt as CoreReceipt}
use Rattle.r6_world.specs.declared.values.Receipt.TheVariants as core-receipt
use Rattle.r6_core.specs.Effects.{IsMade}
use Rattle.r6_world.specs.Values.{completion_of, receipt_of, error_of}
use Rattle.r6_core.specs.Shards.{CoreView, Step, core_layout, world_shard}
use Rattle.r6_core.specs.declared.turn.Task.{Task as CoreTask}
use Rattle.r6_core.specs.declared.turn.Turn.{Turn}
use Rattle.r6_core.specs.Effects.{TakesTurn}
use Rattle.r6_world.specs.Refusals.{IsInError, IsNoError, IsNoLook}
use Rattle.r6_shard.proofs.Keeping.{IsPlain, turned, turned-no-look}
use Rattle.r6_shard.specs.Kept.{named_by}
use Rattle.r6_shard.specs.Whole.{IsClean, IsWhole, SkipsNone, WereAllInSync, SawWithPass, Remembers, is_rebuild, rebuilds}

-- ---- each small change

kind-rebuilds : (l : Layout) (row : ℕ) (task : Task) → is_rebuild (kind_of l row task) ≡ rebuilds task
kind-rebuilds l row (ReadFor id block) = refl
kind-rebuilds l row (WriteFor writes) = refl
kind-rebuilds l row (Rebuild slot generation) = refl
kind-rebuilds l row Check = refl
kind-rebuilds l row Repair = refl

-- a slot that is in sync on its first device
synced-for : (state : SlotState) → state ≡ Synced 0 → (row : ℕ) → InSyncFor state row 0
synced-for state here row = subst (λ y. InSyncFor y row 0) (sym here) refl

none-differs : (now : SlotState) (status : Status) → now ≡ Synced 0 → status ≡ InSync 0 → differs now status ≡ true → {A : Type 0} → A
none-differs now status e e' d = absurd (false≢true (subst (λ y. differs (Synced 0) y ≡ true) e' (subst (λ y. differs y status ≡ true) e d)))

put-first : (states : ℕ → SlotState) (d : ℕ) (state : SlotState) (slot : ℕ) → (slot ≡ d → state ≡ Synced 0)
    → states slot ≡ Synced 0 → put states d state slot ≡ Synced 0
put-first states d state slot here there = elim (put-cases states d state slot (put states d state slot) refl) [
  | inl p ↦ sym p.1 ∙ here p.0
  | inr p ↦ sym p.1 ∙ there
]

finished-first : (s : world.Shard) (h : Hold) (task : Task) (outcome : Outcome) (slot : ℕ) → s.slot slot ≡ Synced 0
    → slots_after s h task outcome slot ≡ Synced 0
finished-first s h (Rebuild target g) Rebuilt slot e =
    put-first s.slot target (with_row (s.slot target) h.row) slot (λ same. ap (λ y. with_row y h.row) (ap s.slot (sym same) ∙ e)) e
finished-first s h (Rebuild target g) GivenUp slot e = e
finished-first s h (Rebuild target g) (Answered b) slot e = e
finished-first s h (Rebuild target g) Wrote slot e = e
finished-first s h (Rebuild target g) (Classed class) slot e = e
finished-first s h (Rebuild target g) Skipped slot e = e
finished-first s h (ReadFor id block) outcome slot e = e
finished-first s h (WriteFor writes) outcome slot e = e
finished-first s h Check outcome slot e = e
finished-first s h Repair outcome slot e = e

-- a class that is counted is no row skipped
class-skips : (k : Counts) (class : RowClass) → (with_class k class).skipped ≡ k.skipped
class-skips k Consistent = refl
class-skips k WrongP = refl
class-skips k WrongQ = refl
class-skips k (WrongData z) = refl
class-skips k Many = refl

repair-skips : (k : Counts) (task : Task) (class : RowClass) → (with_repair k task class).skipped ≡ k.skipped
repair-skips k Repair Consistent = refl
repair-skips k Repair WrongP = refl
repair-skips k Repair WrongQ = refl
repair-skips k Repair (WrongData z) = refl
repair-skips k Repair Many = refl
repair-skips k Check class = refl
repair-skips k (ReadFor id block) class = refl
repair-skips k (WriteFor writes) class = refl
repair-skips k (Rebuild slot g) class = refl

passed : (course : Course) {A : Type 0} → passes_over course ≡ false → (course.cut_short ≡ true) ⊎ ((course.met_error ≡ true) × A) → ⊥
passed course uncut owes =
    let p = or_parts course.cut_short course.met_error uncut in
    elim owes [ inl cut ↦ false≢true (sym p.0 ∙ cut) | inr met ↦ false≢true (sym p.1 ∙ met.0) ]

-- a hold that wasn't cut short and met no read error doesn't end skipped
owes-none : (course : Course) (k : Kind) → passes_over course ≡ false → is_rebuild k ≡ false → Owes course k RowGivenUp → ⊥
owes-none course Idle uncut none owes = owes
owes-none course (RowRead index) uncut none owes = owes
owes-none course (RowWrite batch) uncut none owes = owes
owes-none course (RowRebuild target) uncut none owes = true≢false none
owes-none course RowCheck uncut none owes = passed course uncut owes
owes-none course RowRepair uncut none owes = passed course uncut owes

never-skipped : (s : world.Shard) (h : Hold) (task : Task) → passes_over h.course ≡ false → is_rebuild h.course.kind ≡ rebuilds task
    → MayEnd h.course RowGivenUp → Ends s h task Skipped → ⊥
never-skipped s h (Rebuild target g) uncut same may ends = ends
never-skipped s h (ReadFor id block) uncut same may ends = owes-none h.course h.course.kind uncut same may.owes_nothing
never-skipped s h (WriteFor writes) uncut same may ends = owes-none h.course h.course.kind uncut same may.owes_nothing
never-skipped s h Check uncut same may ends = owes-none h.course h.course.kind uncut same may.owes_nothing
never-skipped s h Repair uncut same may ends = owes-none h.course h.course.kind uncut same may.owes_nothing

-- what a hold works out neither cuts it short nor changes its kind
worked-out : (course : Course) (e : RowEvent) → IsWorkedOut e → (passes_over (after_event course e) ≡ passes_over course) × ((after_event course e).kind ≡ course.kind)
worked-out course (Restores position block) k = (refl, refl)
worked-out course (Computes new) k = (refl, refl)
worked-out course e k = absurd k

-- nor does a confirmation
confirmed : (course : Course) (reading : Reading) (position : ℕ)
    → (passes_over (after_event course (confirming reading position)) ≡ passes_over course) × ((after_event course (confirming reading position)).kind ≡ course.kind)
confirmed course Unread position = (refl, refl)
confirmed course Recalled position = (refl, refl)
confirmed course Asked position = (refl, refl)
confirmed course Unreadable position = (refl, refl)
confirmed course Fixing position = (refl, refl)
confirmed course Fixed position = (refl, refl)
confirmed course AskedAgain position = (refl, refl)
confirmed course (Known block) position = (refl, refl)
confirmed course Replaced position = (refl, refl)

confirmed-by : (course : Course) (state : SlotState) (generation : ℕ) (reading : Reading) (position : ℕ)
    → (passes_over (after_event course (confirmed_by state generation reading position)) ≡ passes_over course)
    × ((after_event course (confirmed_by state generation reading position)).kind ≡ course.kind)
confirmed-by course state generation reading position = by (generation_in state == generation)
  where
    by : (b : Bool) → (passes_over (after_event course (if b then confirming reading position else Settles position)) ≡ passes_over course)
        × ((after_event course (if b then confirming reading position else Settles position)).kind ≡ course.kind)
    by true = confirmed course reading position
    by false = (refl, refl)

-- the event takes no slot out, is no read error, and sees each slot in sync on its first device
abbrev pub IsCalm : (slots : ℕ) → Event → Type 0
IsCalm slots (Look seen) = (slot : ℕ) → slot < slots → status_of seen slot ≡ InSync 0
IsCalm slots (Deliver token Error Taken) = ⊥
IsCalm slots (Deliver token Read_error Taken) = ⊥
IsCalm slots event = record {}

calm-errs : (slots : ℕ) (event : Event) → IsCalm slots event → IsNoError event
calm-errs slots (Deliver token Error Taken) calm = calm
calm-errs slots (Deliver token Read_error Taken) calm = calm
calm-errs slots event calm = record {}

-- all of that but the read errors
record IsSteady (l : Layout) (s : world.Shard) : Type 0 where
  in_sync : (slot : ℕ) → slot < l.slots → s.slot slot ≡ Synced 0
  unskipped : s.counts.skipped ≡ 0
  uncut : (f : ℕ) (h : Hold) → s.frame f ≡ Some h → passes_over h.course ≡ false
  tasks : (f : ℕ) (h : Hold) → s.frame f ≡ Some h → is_rebuild h.course.kind ≡ rebuilds h.task

module _ (l : Layout) (n : ℕ) where
  -- the frames where one has another hold
  framed : (s : world.Shard) (f : ℕ) (new : Hold) (Q : Hold → Type 0) → Q new → ((g : ℕ) (h : Hold) → s.frame g ≡ Some h → Q h)
      → (g : ℕ) (h : Hold) → put s.frame f (Some new) g ≡ Some h → Q h
  framed s f new Q here there g h e = elim (put-cases s.frame f (Some new) g (Some h) e) [
    | inl p ↦ subst Q (Some-inj new h p.1) here
    | inr p ↦ there g h p.1
  ]

  unframed : (s : world.Shard) (f : ℕ) (Q : Hold → Type 0) → ((g : ℕ) (h : Hold) → s.frame g ≡ Some h → Q h)
      → (g : ℕ) (h : Hold) → put s.frame f None g ≡ Some h → Q h
  unframed s f Q there g h e = elim (put-cases s.frame f None g (Some h) e) [
    | inl p ↦ absurd (not_both None h refl p.1)
    | inr p ↦ there g h p.1
  ]

  abbrev Uncut : Hold → Type 0
  Uncut h = passes_over h.course ≡ false

  abbrev Fits : Hold → Type 0
  Fits h = is_rebuild h.course.kind ≡ rebuilds h.task

  -- a hold goes on
  held-on : (s new : world.Shard) (f : ℕ) (h h' : Hold) → IsSteady l s → s.frame f ≡ Some h → h'.task ≡ h.task
      → passes_over h'.course ≡ passes_over h.course → h'.course.kind ≡ h.course.kind
      → new.slot ≡ s.slot → new.counts ≡ s.counts → new.frame ≡ put s.frame f (Some h') → IsSteady l new
  held-on s new f h h' x there task cut kind' slots counts frames = record {
    in_sync = subst (λ (y : ℕ → SlotState). (slot : ℕ) → slot < l.slots → y slot ≡ Synced 0) (sym slots) x.in_sync;
    unskipped = ap (λ (y : Counts). y.skipped) counts ∙ x.unskipped;
    uncut = subst (λ (y : ℕ → Option Hold). (g : ℕ) (k : Hold) → y g ≡ Some k → Uncut k) (sym frames)
        (framed s f h' Uncut (cut ∙ x.uncut f h there) x.uncut);
    tasks = subst (λ (y : ℕ → Option Hold). (g : ℕ) (k : Hold) → y g ≡ Some k → Fits k) (sym frames)
        (framed s f h' Fits (ap is_rebuild kind' ∙ x.tasks f h there ∙ sym (ap rebuilds task)) x.tasks);
  }

  -- slots, holds and counts stay
  same-steady : (s new : world.Shard) → new.slot ≡ s.slot → new.counts ≡ s.counts → new.frame ≡ s.frame → IsSteady l s → IsSteady l new
  same-steady s new slots counts frames x = record {
    in_sync = subst (λ (y : ℕ → SlotState). (slot : ℕ) → slot < l.slots → y slot ≡ Synced 0) (sym slots) x.in_sync;
    unskipped = ap (λ (y : Counts). y.skipped) counts ∙ x.unskipped;
    uncut = subst (λ (y : ℕ → Option Hold). (g : ℕ) (k : Hold) → y g ≡ Some k → Uncut k) (sym frames) x.uncut;
    tasks = subst (λ (y : ℕ → Option Hold). (g : ℕ) (k : Hold) → y g ≡ Some k → Fits k) (sym frames) x.tasks;
  }

  finished-counts : (s : world.Shard) (h : Hold) (task : Task) (outcome : Outcome) → Uncut h → is_rebuild h.course.kind ≡ rebuilds task
      → MayEnd h.course (Rattle.r6_world.specs.Tasks.end_of outcome) → Ends s h task outcome → (counted s.counts task outcome).skipped ≡ s.counts.skipped
  finished-counts s h task (Answered b) uncut fits may ends = refl
  finished-counts s h task Wrote uncut fits may ends = refl
  finished-counts s h task Rebuilt uncut fits may ends = refl
  finished-counts s h task GivenUp uncut fits may ends = refl
  finished-counts s h task (Classed class) uncut fits may ends =
      repair-skips (with_class s.counts class) task class ∙ class-skips s.counts class
  finished-counts s h task Skipped uncut fits may ends = absurd (never-skipped s h task uncut fits may ends)

  -- where no hold has a read error, none gives slots over
  no-slots : (s : world.Shard) (f : ℕ) (h : Hold) → s.frame f ≡ Some h → ((slot : ℕ) → IsInError l s slot → ⊥) → (at count : ℕ)
      → in_error_from l h at count ≡ []
  no-slots s f h there none at zero = refl
  no-slots s f h there none at (suc count) = by_test (is_in_error (cell_at h.course.cells at)) refl (no-slots s f h there none (suc at) count)
    where
      by_test : (b : Bool) → is_in_error (cell_at h.course.cells at) ≡ b → in_error_from l h (suc at) count ≡ []
          → (if b then l.slot_at h.row at ∷ in_error_from l h (suc at) count else in_error_from l h (suc at) count) ≡ []
      by_test true e rest = absurd (none (l.slot_at h.row at) (f, h, at, there, e, refl))
      by_test false e rest = rest

  steady-kept : (event : Event) → IsCalm l.slots event → (s : world.Shard) (change : Change) → Within event change → Allowed l n s change
      → ((slot : ℕ) → IsInError l s slot → ⊥) → IsSteady l s → IsSteady l (after l s change)
  steady-kept event calm s (Start f row task) within a none x = record {
    in_sync = x.in_sync;
    unskipped = x.unskipped;
    uncut = framed s f (begun l s.slot row task) Uncut refl x.uncut;
    tasks = framed s f (begun l s.slot row task) Fits (kind-rebuilds l row task) x.tasks;
  }
  steady-kept event calm s (Ask f h d g) within a none x = held-on s (after l s (Ask f h d g)) f h _ x a.0 refl refl refl refl refl refl
  steady-kept event calm s (Prepare f h e) within a none x =
      let same = worked-out h.course e a.2 in
      held-on s (after l s (Prepare f h e)) f h _ x a.0 refl same.0 same.1 refl refl refl
  steady-kept event calm s (Classify f h class) within a none x = held-on s (after l s (Classify f h class)) f h _ x a.0 refl refl refl refl refl refl
  steady-kept event calm s (Send f h d g b) within a none x = held-on s (after l s (Send f h d g b)) f h _ x a.0 refl refl refl refl refl refl
  steady-kept event calm s (Copy f h d g b) within a none x = held-on s (after l s (Copy f h d g b)) f h _ x a.0 refl refl refl refl refl refl
  steady-kept event calm s (Fix f h d g b) within a none x = held-on s (after l s (Fix f h d g b)) f h _ x a.0 refl refl refl refl refl refl
  steady-kept event calm s (Ask_again f h d g) within a none x = held-on s (after l s (Ask_again f h d g)) f h _ x a.0 refl refl refl refl refl refl
  steady-kept event calm s (Fail t c h) within a none x = absurd (subst (IsCalm l.slots) within calm)
  steady-kept event calm s (Move f h d g) within a none x =
      let met : is_in_error (cell_at h.course.cells a.6) ≡ true = (and_parts _ _ (comes (planned h) (MoveAt a.6) a.8).2).0 in
      absurd (none (l.slot_at h.row a.6) (f, h, a.6, a.0, met, refl))
  steady-kept event calm s (Give_over f h) within a none x =
      subst (IsSteady l) (sym (ap (lost_slots l s) (no-slots s f h a.0 none 0 (length h.course.cells)))) x
  steady-kept event calm s (Learn t c h b) within a none x = held-on s (after l s (Learn t c h b)) c.frame h _ x a.2 refl refl refl refl refl refl
  steady-kept event calm s (Confirm t c h) within a none x =
      let at = l.position h.row c.slot in
      let same = confirmed-by h.course (s.slot c.slot) c.generation (cell_at h.course.cells at).reading at in
      held-on s (after l s (Confirm t c h)) c.frame h _ x a.2 refl same.0 same.1 refl refl refl
  steady-kept event calm s (Lose t c) within a none x =
      elim within [ inl e ↦ absurd (subst (IsCalm l.slots) e calm) | inr e ↦ absurd (subst (IsCalm l.slots) e calm) ]
  steady-kept event calm s (Adopt d status) within a none x =
      let sees : IsCalm l.slots (Look within.0) = subst (IsCalm l.slots) within.1 calm in
      none-differs (s.slot d) status (x.in_sync d a.0) (within.2 ∙ sees d a.0) a.1
  steady-kept event calm s See_failed within a none x = record {
    in_sync = x.in_sync;
    unskipped = x.unskipped;
    uncut = λ g h e. absurd (None-not_Some h e);
    tasks = λ g h e. absurd (None-not_Some h e);
  }
  steady-kept event calm s (Finish f h outcome) within a none x = record {
    in_sync = λ slot below. finished-first s h h.task outcome slot (x.in_sync slot below);
    unskipped = finished-counts s h h.task outcome (x.uncut f h a.0) (x.tasks f h a.0) a.1 a.3 ∙ x.unskipped;
    uncut = unframed s f Uncut x.uncut;
    tasks = unframed s f Fits x.tasks;
  }
  steady-kept event calm s (Bring_in d g) within a none x = record {
    in_sync = λ slot below.
        put-first s.slot d (brought_in (s.slot d)) slot (λ same. ap brought_in (ap s.slot (sym same) ∙ x.in_sync slot below)) (x.in_sync slot below);
    unskipped = x.unskipped;
    uncut = x.uncut;
    tasks = x.tasks;
  }
  steady-kept event calm s (Skip_turn task row) within a none x =
      absurd (a.5 0 (synced-for (s.slot a.3) (x.in_sync a.3 a.4) row))
  steady-kept event calm s change within a none x = same-steady s (after l s change) refl refl refl x

  pub whole-on : (event : Event) → IsCalm l.slots event → (old new : world.Shard) → steps.Step l n old event new → IsWhole l old → IsWhole l new
  whole-on event calm old new step x =
      let errs = calm-errs l.slots event calm in
      let y = step-kept l n (λ s. IsSteady l s × ErrorsOf l old s.frame) event
      (λ s change within a y. (
        steady-kept event calm s change within a (λ slot i. x.none_in_error slot (y.1 slot i)) y.0,
        errors-kept l n old event errs s change within a y.1,
      )) old new step (
        record { in_sync = x.in_sync; unskipped = x.unskipped; uncut = x.uncut; tasks = x.tasks },
        λ slot i. i,
      ) in
      record {
        in_sync = y.0.in_sync;
        unskipped = y.0.unskipped;
        uncut = y.0.uncut;
        none_in_error = λ slot i. x.none_in_error slot (y.1 slot i);
        tasks = y.0.tasks;
      }

-- ---- each call of the core

module _ (named : List Bool) (saw_out : Bool) where
  pub skips-by : (old : CoreView) (event : Event) (new : CoreView) → (IsClean named saw_out → IsCalm old.shape.slots event) → Step old event new
      → SkipsNone old named saw_out → SkipsNone new named saw_out
  skips-by old event new calm step x = λ clean.
      subst (λ (y : Shape). IsWhole (layout_of y) (world_shard new)) (sym step.0.0)
      (whole-on (core_layout old) old.shard event (calm clean) (world_shard old) (world_shard new) step.1 (x clean))

  pub skips-same : (old new : CoreView) → new ≡ old → SkipsNone old named saw_out → SkipsNone new named saw_out
  skips-same old new same x = subst (λ y. SkipsNone y named saw_out) (sym same) x

-- a slot that is named is seen to be so
still-clean : (slot : ℕ) (named : List Bool) → slot < length named → ((k : ℕ) → slice_index_or (slice_set named slot true) k false ≡ false) → ⊥
still-clean slot named below none = false≢true (sym (none slot) ∙ get_or-set_same named slot true false below)

-- what was named before stays named
pub clean-before : (failed : Bool) (receipt : CoreReceipt) (slot : ℕ) (named : List Bool) (saw_out : Bool) → slot < length named
    → Remembers named saw_out (named_by failed receipt slot named) saw_out
clean-before true core-receipt.Taken slot named saw_out below x = absurd (still-clean slot named below x.0)
clean-before true core-receipt.Late slot named saw_out below x = x
clean-before false receipt slot named saw_out below x = x

late-calm : (slots token : ℕ) (kind : FaultKind) → IsCalm slots (Deliver token (error_of kind) Late)
late-calm slots token fault_kind.ReadFault = record {}
late-calm slots token fault_kind.WriteFault = record {}
late-calm slots token fault_kind.Gone = record {}
late-calm slots token fault_kind.Length = record {}

-- a completion that names no slot takes none out
calm-delivery : (slots : ℕ) (failed : Bool) (token : ℕ) (completion : Result (List ℕ) DeviceFault) (receipt : CoreReceipt) (slot : ℕ) (named : List Bool)
    → slot < length named → failed ≡ is_err completion → ((k : ℕ) → slice_index_or (named_by failed receipt slot named) k false ≡ false)
    → IsCalm slots (Deliver token (completion_of completion) (receipt_of receipt))
calm-delivery slots failed token (Ok came) core-receipt.Taken slot named below is none = record {}
calm-delivery slots failed token (Ok came) core-receipt.Late slot named below is none = record {}
calm-delivery slots failed token (Err fault) core-receipt.Late slot named below is none = late-calm slots token fault.kind
calm-delivery slots true token (Err fault) core-receipt.Taken slot named below is none = absurd (still-clean slot named below none)
calm-delivery slots false token (Err fault) core-receipt.Taken slot named below is none = absurd (false≢true is)

pub skips-received : (old new : CoreView) (token : ℕ) (completion : Result (List ℕ) DeviceFault) (receipt : CoreReceipt) (failed : Bool) (slot : ℕ)
    (named : List Bool) (saw_out : Bool) → Step old (Deliver token (completion_of completion) (receipt_of receipt)) new → slot < length named
    → failed ≡ is_err completion → SkipsNone old named saw_out → SkipsNone new (named_by failed receipt slot named) saw_out
skips-received old new token completion receipt failed slot named saw_out delivers below is x = λ clean.
    let before = clean-before failed receipt slot named saw_out below clean in
    subst (λ (y : Shape). IsWhole (layout_of y) (world_shard new)) (sym delivers.0.0)
    (whole-on (core_layout old) old.shard (Deliver token (completion_of completion) (receipt_of receipt))
    (calm-delivery old.shape.slots failed token completion receipt slot named below is clean.0) (world_shard old) (world_shard new) delivers.1 (x before))

-- a look that sees no slot out
pub skips-looked : (old : CoreView) (seen : Snapshot) (new : CoreView) (named : List Bool) (before now : Bool)
    → (now ≡ false → (before ≡ false) × ((slot : ℕ) → slot < old.shape.slots → status_of seen slot ≡ InSync 0))
    → Step old (Look seen) new → SkipsNone old named before → SkipsNone new named now
skips-looked old seen new named before now sees step x = λ clean.
    let s = sees clean.1 in
    skips-by named before old (Look seen) new (λ y. s.1) step x (clean.0, s.0)

-- ---- the start

first-here : (status : Status) → is_in_sync status ≡ true → slot_at_start status ≡ Synced 0
first-here (InSync generation) e = refl
first-here Lost e = absurd (false≢true e)
first-here (Rebuilding generation reported) e = absurd (false≢true e)
first-here (Replacing old new reported) e = absurd (false≢true e)

pub skips-at-first : (shape : Shape) (snapshot : Snapshot) (number : ℕ) (core : CoreView) (named : List Bool) (saw_out : Bool)
    → (saw_out ≡ false → (slot : ℕ) → slot < shape.slots → is_in_sync (status_of snapshot slot) ≡ true) → IsMade shape snapshot number core
    → SkipsNone core named saw_out
skips-at-first shape snapshot number core named saw_out sees made = λ clean.
    subst (λ (y : Shape). IsWhole (layout_of y) (world_shard core)) (sym made.geometry)
    (subst (IsWhole (layout_of shape)) (sym made.start)
    (record {
      in_sync = λ slot below. first-here (status_of snapshot slot) (sees clean.1 slot below);
      unskipped = refl;
      uncut = λ f h e. absurd (None-not_Some h e);
      none_in_error = λ slot i. absurd (None-not_Some i.1 i.3);
      tasks = λ f h e. absurd (None-not_Some h e);
    }))

-- a turn is no completion and no look
plain-calm : (slots : ℕ) (event : Event) → IsPlain event → IsNoLook event → IsCalm slots event
plain-calm slots (Look seen) plain none = absurd none
plain-calm slots (Deliver token completion receipt) plain none = absurd plain
plain-calm slots event plain none = record {}

pub turned-calm : (old : CoreView) (own : CoreTask) (turn : Turn) (new : CoreView) (x : TakesTurn old own turn new) (slots : ℕ)
    → IsCalm slots (turned old own turn new x).0
turned-calm old own turn new x slots =
    plain-calm slots (turned old own turn new x).0 (turned old own turn new x).1 (turned-no-look old own turn new x)

-- what was in sync in all that a pass has seen was so in what it saw before
were-before : (v w : View) → w.start ≡ v.start → StartsWith w.seen v.seen → WereAllInSync w → WereAllInSync v
were-before v w same longer were = λ front starts slot below.
    subst (λ s. is_in_sync (status_of (held s front) slot) ≡ true) same
    (were front (starts_with-trans w.seen v.seen front longer starts) slot below)

pub saw-later : (saw_out : Bool) (v w : View) → w.start ≡ v.start → StartsWith w.seen v.seen → SawWithPass saw_out v
    → SawWithPass saw_out w
saw-later saw_out v w same longer x = λ were. x (were-before v w same longer were)

-- no slot was out before, and none of the array is seen out
pub seen-whole : (before now : Bool) (snapshot : Snapshot) (slots : ℕ) → slots ≤ 32
    → (now ≡ false → (before ≡ false) × ((slot : ℕ) → slot < 32 → status_of snapshot slot ≡ InSync 0))
    → now ≡ false → (before ≡ false) × ((slot : ℕ) → slot < slots → status_of snapshot slot ≡ InSync 0)
seen-whole before now snapshot slots few sees none =
    let s = sees none in (s.0, λ slot below. s.1 slot (omega (arith, few, below)))
