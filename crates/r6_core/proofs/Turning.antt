-- Turns of checks and repairs.
use Rattle.std.proofs.Common.{◌≡◌, ◌≢◌, ℕ, ◌+◌, ◌<◌, ◌≤◌, [], refl, subst, inl, inr, arith}
use Rattle.r6_stripe.specs.Holds.{MayBegin}
use Rattle.r6_world.specs.Tasks.{kind_of}
use Rattle.r6_world.specs.ShardStates.{found}
use Rattle.r6_world.specs.Changes.{IsNext, MayStart, Skip_turn, Start, Allowed, after}
use Rattle.r6_world.specs.Steps as steps
use Rattle.r6_world.specs.Steps.{Through, Scans}
use Rattle.r6_frames.specs.declared.frames.Scrub.{Scrub}
use Rattle.r6_frames.specs.declared.frames.Scrub.TheVariants as scrub
use Rattle.r6_frames.specs.Views.{is_scrub, scrub_task, AreLive}
use Rattle.r6_frames.specs.Calls.{AreAllInSync, NotHeldBy}
use Rattle.r6_frames.specs.Slots.{slot_in, states_of}
use Rattle.r6_frames.proofs.BegunFor.{may_scrub}
use Rattle.r6_frames.proofs.Devices.{in_sync_of, not_in_sync}
use Rattle.r6_core.specs.declared.state.State.{State}
use Rattle.r6_world.specs.ShardStates.{limit}
use Rattle.r6_core.specs.Refusals.{HasTurnFault, IsTurnHeld, IsTurnWhole}
use Rattle.r6_core.specs.declared.refusal.Refusal.TheVariants.{NothingToDo}
use Rattle.r6_core.specs.Effects.{turn_event}
use Rattle.r6_core.specs.declared.turn.Turn.TheVariants.{Started, Skipped}
use Rattle.r6_core.specs.Shards.{Step, core_of, layout_in, rest_of, state_of}
use Rattle.r6_core.specs.Inside.{AreOwnRows, IsCore, IsPassedOver, IsSound, IsTakenUp, HasSlotOut, SameFrames, next_row}
use Rattle.r6_core.proofs.AtRest.{not_held_by, rests_in}
use Rattle.r6_core.proofs.Starting.{not_held}
use Rattle.r6_core.proofs.HeldTurns.{turn_allowed}
use Rattle.r6_core.proofs.Rooms.{few_rows}
use Rattle.r6_layout.specs.Layout.{first_row}
use Rattle.r6_layout.specs.Shape.{Shape, IsShape}
use Rattle.r6_world.specs.Layouts.{IsRowOf}
use Rattle.r6_world.specs.Geometries.{layout_of}
use Rattle.r6_world.proofs.Geometries.{layouts}

-- the row behind a row of the shard is one of its rows, but behind its last
pub next_own : (shape : Shape) (shard row : ℕ) → IsShape shape → IsRowOf (layout_of shape) shard row → row + 1 ≢ first_row shape (shard + 1)
    → IsRowOf (layout_of shape) shard (row + 1)
next_own shape shard row lawful own ne =
    let l = layouts shape lawful in
    let shared = l.shared row own.0 in
    let below = subst (λ n. n < shape.shards) own.1 shared.0 in
    let from = subst (λ n. first_row shape n ≤ row) own.1 shared.1 in
    let before = subst (λ n. row < first_row shape (n + 1)) own.1 shared.2 in
    l.owned shard (row + 1) below (omega (arith, from)) (omega (arith, before, ne))

-- ---- a check or repair may begin

pub next_own_row : (s : State) (scrub : Scrub) → IsSound s → IsRowOf (layout_in s) s.frames.shard (next_row scrub s)
next_own_row s scrub.Check sound = sound.next_rows.0
next_own_row s scrub.Repair sound = sound.next_rows.1

pub whole_for_turn : (s : State) (scrub : Scrub) → AreAllInSync s.frames (next_row scrub s) → IsTurnWhole (core_of s) scrub
whole_for_turn s scrub whole = λ slot lt. in_sync_of (slot_in s.frames.slots slot).device (next_row scrub s) (whole slot lt)

may_start : (s : State) (scrub : Scrub) → AreAllInSync s.frames (next_row scrub s) → MayStart (layout_in s) (state_of s) (next_row scrub s) (scrub_task scrub)
may_start s scrub.Check whole = (refl, whole_for_turn s scrub.Check whole)
may_start s scrub.Repair whole = (refl, whole_for_turn s scrub.Repair whole)

may_begin : (s : State) (scrub : Scrub) → IsSound s → AreAllInSync s.frames (next_row scrub s)
    → MayBegin (found (layout_in s) (states_of s.frames.slots) (next_row scrub s)) (kind_of (layout_in s) (next_row scrub s) (scrub_task scrub))
may_begin s scrub.Check sound whole = (may_scrub s.frames scrub.Check s.check_row sound.frames.shape whole sound.next_rows.0).may_begin
may_begin s scrub.Repair sound whole = (may_scrub s.frames scrub.Repair s.repair_row sound.frames.shape whole sound.next_rows.1).may_begin

pub scrub_allowed : (s : State) (scrub : Scrub) (frame : ℕ) → IsSound s → IsTakenUp s scrub frame
    → Allowed (layout_in s) s.frames.shard (state_of s) (Start frame (next_row scrub s) (scrub_task scrub))
scrub_allowed s scrub frame sound taken_up =
    turn_allowed s (scrub_task scrub) frame (next_row scrub s) sound taken_up.1 (next_own_row s scrub sound) (may_start s scrub taken_up.0) (may_begin s scrub sound taken_up.0)

-- ---- a row is passed over

is_next : (s : State) (scrub : Scrub) → IsNext (state_of s) (scrub_task scrub) (next_row scrub s)
is_next s scrub.Check = refl
is_next s scrub.Repair = refl

pub skip_allowed : (s : State) (scrub : Scrub) → IsSound s → IsPassedOver s scrub → Allowed (layout_in s) s.frames.shard (state_of s) (Skip_turn (scrub_task scrub) (next_row scrub s))
skip_allowed s scrub sound passed = let out = passed.1 in (
  next_own_row s scrub sound,
  passed.0,
  is_next s scrub,
  out.0,
  out.1,
  λ generation there. not_in_sync (slot_in s.frames.slots out.0).device (next_row scrub s) generation out.2 there,
)

pub not_whole : (s : State) (scrub : Scrub) → HasSlotOut s.frames (next_row scrub s) → IsTurnWhole (core_of s) scrub → ⊥
not_whole s scrub out whole = let there = whole out.0 out.1 in not_in_sync (slot_in s.frames.slots out.0).device (next_row scrub s) there.0 out.2 there.1

module _ (s : State) (check_row repair_row : ℕ) (core : IsCore s) (few : s.counts.skipped < limit) (own : AreOwnRows s.frames check_row repair_row) where
  abbrev pub skipped : State
  skipped = record s { check_row = check_row; repair_row = repair_row; counts = record s.counts { skipped = s.counts.skipped + 1 } }

  pub skipped_core : IsCore skipped
  skipped_core =
      let sound = core.settled.sound in
      let requests = sound.requests in
      let rows = few_rows is_scrub s.frames.uses in
      record {
        settled = record {
          sound = record {
            frames = sound.frames;
            requests = record {
              distinct = requests.distinct;
              numbered = requests.numbered;
              counted = requests.counted;
              few = requests.few;
              waiting = requests.waiting;
              sized = requests.sized;
              marked = requests.marked;
            };
            room = record { waiting = sound.room.waiting; causes = sound.room.causes; replies = sound.room.replies; calls = sound.room.calls; few_calls = sound.room.few_calls; rooms = sound.room.rooms; space = sound.room.space };
            tokens = sound.tokens;
            accepted = sound.accepted;
            counted = record { found = sound.counted.found; skipped = omega (arith, rows, sound.frames.frames.count, few) };
            next_rows = own;
          };
          reading = core.settled.reading;
          rested = core.settled.rested;
        };
        waits = core.waits;
      }

-- ---- why a turn is refused

pub not_held_for_turn : (s : State) (scrub : Scrub) → NotHeldBy s.frames (next_row scrub s) → IsTurnHeld (core_of s) scrub → ⊥
not_held_for_turn s scrub unheld held = held.1 (not_held (rest_of s) s.frames (next_row scrub s) unheld)

pub held_for_turn : (s : State) (scrub : Scrub) → AreAllInSync s.frames (next_row scrub s) → (NotHeldBy s.frames (next_row scrub s) → ⊥) → IsTurnHeld (core_of s) scrub
held_for_turn s scrub whole held = (whole_for_turn s scrub whole, λ unheld. held (not_held_by s (next_row scrub s) unheld))

-- where every slot is in sync and the row isn't held there is something to do
pub something_to_do : (s : State) (scrub : Scrub) → AreLive s.frames → NotHeldBy s.frames (next_row scrub s) → HasTurnFault (core_of s) scrub NothingToDo → ⊥
something_to_do s scrub live unheld (inl stopped) = stopped live
something_to_do s scrub live unheld (inr held) = not_held_for_turn s scrub unheld held

-- and where a slot is out, whether it is held or not
pub nothing_in_the_way : (s : State) (scrub : Scrub) → IsPassedOver s scrub → HasTurnFault (core_of s) scrub NothingToDo → ⊥
nothing_in_the_way s scrub passed (inl stopped) = stopped passed.0
nothing_in_the_way s scrub passed (inr held) = not_whole s scrub passed.1 held.0

-- ---- the whole turn

pub turn_is : (scrub : Scrub) → steps.IsTurn (scrub_task scrub)
turn_is scrub.Check = record {}
turn_is scrub.Repair = record {}

pub started : (s new : State) (scrub : Scrub) (frame : ℕ) → SameFrames s new → IsCore new
    → Allowed (layout_in s) s.frames.shard (state_of s) (Start frame (next_row scrub s) (scrub_task scrub))
    → Through (layout_in s) s.frames.shard Scans (after (layout_in s) (state_of s) (Start frame (next_row scrub s) (scrub_task scrub))) (state_of new)
    → Step (core_of s) (turn_event Started scrub (next_row scrub s)) (core_of new)
started s new scrub frame same core allowed leads = (same, (turn_is scrub, frame, next_row scrub s, allowed, leads, rests_in s new same core))

pub passed_over : (s new : State) (scrub : Scrub) → SameFrames s new → IsCore new
    → Allowed (layout_in s) s.frames.shard (state_of s) (Skip_turn (scrub_task scrub) (next_row scrub s))
    → state_of new ≡ after (layout_in s) (state_of s) (Skip_turn (scrub_task scrub) (next_row scrub s))
    → Step (core_of s) (turn_event Skipped scrub (next_row scrub s)) (core_of new)
passed_over s new scrub same core allowed skips = (same, (allowed, ([], skips), rests_in s new same core))
