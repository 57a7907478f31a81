-- A completion is taken, or comes late; with what starts behind it, it is one step of the shard.
use Rattle.std.proofs.Common.{◌≡◌, ◌≢◌, inl, inr, length, ℕ, true, List, [], drop, refl, sym, ap, subst, ◌∙◌, Option, Some, None, Result, Ok, Err, IfOk, arith, append-nil}
use Rattle.std.specs.Prelude.{option_map}
use Rattle.r6_layout.specs.Shape.{Shape}
use Rattle.r6_stripe.specs.Plans.{Planned, next}
use Rattle.r6_stripe.specs.Steps.{has_outcome}
use Rattle.r6_world.specs.Geometries.{layout_of}
use Rattle.r6_world.specs.ShardStates as shards
use Rattle.r6_world.specs.ShardStates.{Shard}
use Rattle.r6_world.specs.Changes.{Come_home, after}
use Rattle.r6_world.specs.Steps.{AtRest, Completion, Deliver, GoesOn, Late, Scans, Takes, Through}
use Rattle.r6_world.specs.Steps as steps
use Rattle.r6_core.specs.declared.queued.Queued.{Queued}
use Rattle.r6_frames.specs.declared.frames.Frames.{Frames}
use Rattle.r6_frames.specs.declared.frames.Job.{Job}
use Rattle.r6_frames.specs.declared.frames.HeldRow.{HeldRow}
use Rattle.r6_frames.specs.declared.frames.FrameUse.{FrameUse}
use Rattle.r6_frames.specs.Views.{hold_at, held_requests, plan_in, hold_of, row_in}
use Rattle.r6_frames.specs.Calls.{ComesHome, KeepsHeld, KeepsOthers}
use Rattle.r6_frames.specs.Owed.{owed, IsDriven, IsOver}
use Rattle.r6_frames.specs.Sound as held
use Rattle.r6_world.specs.declared.values.DeviceFault.{DeviceFault}
use Rattle.r6_world.specs.declared.values.FaultKind.{FaultKind}
use Rattle.r6_world.specs.declared.values.FaultKind.TheVariants as fault_kind
use Rattle.r6_world.specs.declared.values.Receipt.{Receipt}
use Rattle.r6_core.specs.declared.state.State.{State}
use Rattle.std.proofs.lemmas.Bool.{cases_lt}
use Rattle.r6_world.specs.Values.{buffer_in, completion_of, error_of, receipt_of}
use Rattle.r6_core.specs.Shards.{Step, state_of, rest_of, layout_in, core_of, waiting_of, requests_in}
use Rattle.r6_core.specs.Order.{FinishesBy, HaveTurns, HaveTurnsBehind, SameReplies, KeepsFrames}
use Rattle.r6_core.specs.Inside.{ReadAgainFor, SameFrames, IsSettled, Seen, TakesThrough}
use Rattle.r6_core.proofs.Throughs.{goes_on_only, through_in, through_none}
use Rattle.r6_core.proofs.Scanned.{turns_in}
use Rattle.r6_core.proofs.CountedRows.{rows_of_holds}
use Rattle.r6_core.proofs.Going.{no_rest, Goes, SlotsStay, goes_still, gone_state, gone_sound, reading_kept}
use Rattle.r6_core.proofs.Answering.{live_still}

-- a completion that isn't refused for its length has the right one
pub sized : (completion : Result (List ℕ) DeviceFault) (size : ℕ) → (length (buffer_in completion) ≢ size → ⊥) → length (buffer_in completion) ≡ size
sized completion size same =
    elim (cases_lt (length (buffer_in completion)) size) [
      | inl less ↦ absurd (same (λ is. omega (arith, less, is)))
      | inr more ↦ elim (cases_lt size (length (buffer_in completion))) [
        | inl less ↦ absurd (same (λ is. omega (arith, less, is)))
        | inr most ↦ omega (arith, more, most)
      ]
    ]

-- ---- a completion that comes late

-- a row that is held still was held, with the same plan
planned_before : (old new : Option HeldRow) (h : HeldRow) → option_map plan_in new ≡ option_map plan_in old → new ≡ Some h
    → (x : HeldRow) × (old ≡ Some x) × (h.hold.planned ≡ x.hold.planned)
planned_before None new h same is = absurd (let none : Some (plan_in h) ≡ None = ap (option_map plan_in) (sym is) ∙ same in cc)
planned_before (Some x) new h same is =
    let plans : Some (plan_in h) ≡ Some (plan_in x) = ap (option_map plan_in) (sym is) ∙ same in
    let one : plan_in h ≡ plan_in x = cc in
    (x, refl, ap (λ (plan : (ℕ × Job) × Planned). plan.1) one)

rested_still : (old new : Frames) (frame : ℕ) → KeepsHeld old new → IsDriven old frame × (IsOver old frame → ⊥) → IsDriven new frame × (IsOver new frame → ⊥)
rested_still old new frame keeps rested = (
  λ h is. let before = planned_before (hold_at old.uses frame) (hold_at new.uses frame) h (keeps frame) is in ap next before.2 ∙ rested.0 before.0 before.1,
  λ over.
      let before = planned_before (hold_at old.uses frame) (hold_at new.uses frame) over.0 (keeps frame) over.1 in
      rested.1 (before.0, before.1, ap has_outcome (sym before.2) ∙ over.2),
)

comes_still : (old new : Frames) (token : ℕ) → ComesHome old token new → SlotsStay old new
comes_still old new token comes = let is = (comes.2 no_rest).3 in (ap (λ (x : Shard). x.slot) is, ap (λ (x : Shard). x.saw_failed) is)

module _ (s : State) (token : ℕ) (fs : Frames) (core : IsSettled s) (sound : held.IsSound fs) (comes : ComesHome s.frames token fs)
    (tokens : (owed fs ≡ owed s.frames) × (fs.commands.next ≡ s.frames.commands.next)) (requests : held_requests fs ≡ held_requests s.frames) (keeps : KeepsHeld s.frames fs) where
  late_goes : Goes s fs s.calls
  late_goes =
      goes_still s fs core.sound sound comes.0 comes.1 (comes_still s.frames fs token comes) requests comes.3 (rows_of_holds s.frames fs keeps) (let a = tokens.0 in let b = tokens.1 in omega (arith, a, b)) (let b = tokens.1 in omega (arith, b))

  pub late_core : IsSettled (record s { frames = fs })
  late_core =
      record {
        sound = gone_sound s fs s.calls core.sound late_goes;
        reading = reading_kept s.frames fs comes.3 core.reading;
        rested = λ live frame. rested_still s.frames fs frame keeps (core.rested (live_still s.frames fs comes.0 (comes_still s.frames fs token comes) live) frame);
      }

  pub late_takes : (completion : Result (List ℕ) DeviceFault) → TakesThrough s token (completion_of completion) Late (record s { frames = fs })
  late_takes completion =
      let home = comes.2 (rest_of s) in
      let change = Come_home token home.0 in (
        change,
        takes home.0 home.1 completion,
        home.2,
        goes_on_only (layout_in s) s.frames.shard (after (layout_in s) (state_of s) change) (state_of (record s { frames = fs }))
            (through_none (layout_in s) s.frames.shard GoesOn (after (layout_in s) (state_of s) change) (state_of (record s { frames = fs })) (gone_state s fs s.calls late_goes comes.3 ∙ home.3)),
      )
    where
      takes : (c : shards.Command) → c.taken ≡ true → (completion : Result (List ℕ) DeviceFault) → Takes (layout_in s) (state_of s) token (completion_of completion) Late (Come_home token c)
      takes c taken (Ok buffer) = (refl, taken)
      takes c taken (Err fault) = by_kind fault.kind
        where
          by_kind : (kind : FaultKind) → Takes (layout_in s) (state_of s) token (error_of kind) Late (Come_home token c)
          by_kind fault_kind.ReadFault = (refl, taken)
          by_kind fault_kind.WriteFault = (refl, taken)
          by_kind fault_kind.Gone = (refl, taken)
          by_kind fault_kind.Length = (refl, taken)

-- nothing is finished
pub finishes_none : (completion : Result (List ℕ) DeviceFault) (s : State) (fs : Frames) → Seen (FinishesBy completion) s (record s { frames = fs })
finishes_none (Ok buffer) s fs = ([], tt, (0, tt), sym (append-nil (drop s.released s.replies.items)), refl)
finishes_none (Err fault) s fs = ([], tt, sym (append-nil (drop s.released s.replies.items)), refl)

pub if_ok_all : (completion : Result (List ℕ) DeviceFault) (P : Type 0) → P → IfOk completion (λ _. P)
if_ok_all (Ok buffer) P p = p
if_ok_all (Err fault) P p = tt

-- no direct read waits again
pub none_again : (completion : Result (List ℕ) DeviceFault) (s new : State) → (token : ℕ) → new.waiting ≡ s.waiting → ReadAgainFor completion s token new
none_again (Ok buffer) s new token waiting = ([], refl, ap requests_in waiting ∙ sym (append-nil (waiting_of s)))
none_again (Err fault) s new token waiting = ([], inl tt, ap requests_in waiting ∙ sym (append-nil (waiting_of s)))

-- ---- the whole call

pub delivered : (s mid new : State) (token : ℕ) (completion : Completion) (receipt : steps.Receipt) → TakesThrough s token completion receipt mid → SameFrames s mid
    → Through (layout_in mid) mid.frames.shard Scans (state_of mid) (state_of new) → SameFrames mid new → AtRest (layout_in new) new.frames.shard (state_of new)
    → Step (core_of s) (Deliver token completion receipt) (core_of new)
delivered s mid new token completion receipt took same leads still rest =
    let geometry = still.0 ∙ same.0 in
    let shard = still.1 ∙ same.1 in
    let rests = subst (λ (g : Shape). AtRest (layout_of g) s.frames.shard (state_of new)) geometry (subst (λ (n : ℕ). AtRest (layout_in new) n (state_of new)) shard rest) in (
      (geometry, shard),
      (
        took.0,
        took.1,
        took.2,
        state_of mid,
        took.3,
        through_in s.frames.geometry mid.frames.geometry s.frames.shard mid.frames.shard Scans (state_of mid) (state_of new) same.0 same.1 leads,
        rests,
      ),
    )

pub finishes_on : (completion : Result (List ℕ) DeviceFault) (s mid new : State) → Seen (FinishesBy completion) s mid → Seen SameReplies mid new → Seen (FinishesBy completion) s new
finishes_on (Ok buffer) s mid new order same = (order.0, order.1, order.2, same.0 ∙ order.3, same.1 ∙ order.4)
finishes_on (Err fault) s mid new order same = (order.0, order.1, same.0 ∙ order.2, same.1 ∙ order.3)

-- what a frame holds depends on its use alone
frames_kept : (s mid : State) → (frame : ℕ) × KeepsOthers s.frames frame mid.frames → KeepsFrames (state_of s) (state_of mid)
frames_kept s mid kept = (kept.0, λ other ne. ap (λ (u : FrameUse). option_map hold_of (row_in u)) (kept.1 other ne))

pub turns_behind : (completion : Result (List ℕ) DeviceFault) (s mid new : State) (token : ℕ) (receipt : Receipt)
    → TakesThrough s token (completion_of completion) (receipt_of receipt) mid → SameFrames s mid
    → IfOk completion (λ _. (frame : ℕ) × KeepsOthers s.frames frame mid.frames) → ReadAgainFor completion s token mid
    → HaveTurns (core_of mid) (state_of mid) (waiting_of mid) (core_of new) → HaveTurnsBehind (core_of s) token completion receipt (core_of new)
turns_behind completion s mid new token receipt took same others again turns = (
  took.0,
  took.1,
  took.2,
  state_of mid,
  took.3,
  kept completion others,
  again.0,
  again.1,
  subst (λ (rs : List Queued). HaveTurns (core_of s) (state_of mid) rs (core_of new)) again.2 (
    turns.0,
    turns_in s.frames.geometry mid.frames.geometry s.frames.shard mid.frames.shard (state_of mid) (state_of new) (waiting_of mid) (waiting_of new) same.0 same.1 turns.1,
  ),
)
  where
    kept : (completion : Result (List ℕ) DeviceFault) → IfOk completion (λ _. (frame : ℕ) × KeepsOthers s.frames frame mid.frames)
        → IfOk completion (λ _. KeepsFrames (state_of s) (state_of mid))
    kept (Ok buffer) others = frames_kept s mid others
    kept (Err fault) others = tt
