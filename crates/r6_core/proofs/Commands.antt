-- What taking a command does to the state.
use Rattle.std.proofs.Common.{◌≡◌, ℕ, ◌*◌, ◌<◌, ◌≤◌, List, ◌++◌, Bool, length, map, sym, ap, subst, ◌∙◌, Option, Some, None, MatchOption, arith, ◌+◌}
use Rattle.std.specs.Prelude.{nat_eq}
use Rattle.std.specs.List.{IsDistinct, AllByRecursion}
use Rattle.std.specs.Map.{keys_of}
use Rattle.r6_layout.specs.Shape.{Shape}
use Rattle.r6_world.specs.ShardStates as shards
use Rattle.r6_world.specs.ShardStates.{Shard}
use Rattle.r6_world.specs.Steps as steps
use Rattle.r6_world.specs.Steps.{Take_command, No_command}
use Rattle.r6_world.specs.declared.values.Command.{Command}
use Rattle.r6_frames.specs.declared.frames.Frames.{Frames}
use Rattle.r6_core.specs.declared.state.State.{State}
use Rattle.r6_world.specs.Values.{world_command}
use Rattle.r6_frames.specs.Views.{held_requests, Rest, shard_with, hold_at, AreLive}
use Rattle.r6_frames.specs.Calls.{Steps, KeepsHolds, KeepsReads, KeepsDirects}
use Rattle.r6_frames.specs.Owed.{owed_in, most_owed}
use Rattle.r6_frames.specs.Slots.{count_out, states_of}
use Rattle.r6_frames.specs.Sound as held
use Rattle.r6_core.specs.Shards.{Step, layout_in, state_of, rest_of, requests_of, waiting_request, replied_requests, core_of, waiting_of}
use Rattle.r6_core.specs.Effects.{HandsCommand}
use Rattle.r6_core.specs.Inside.{IsCore, IsLike, IsSettled, count_rows}
use Rattle.r6_core.specs.Limits.{most_calls, count_unheld}
use Rattle.r6_core.proofs.PassedOn.{passed_same}
use Rattle.r6_core.proofs.Rooms.{rooms_same}
use Rattle.r6_core.proofs.SlotsKept.{calls_same}
use Rattle.r6_frames.proofs.Lists.{table}
use Rattle.r6_core.proofs.CountedRows.{counted_kept}
use Rattle.r6_core.proofs.Answering.{rested_kept}
use Rattle.r6_core.proofs.Going.{no_rest, reading_kept}
use Rattle.r6_core.proofs.Kept.{own_rows_kept, requests_kept, sizes_kept}
use Rattle.r6_core.proofs.Waking.{all_wait_still, frees_kept, full_same, holders_same}
use Rattle.r6_waiters.specs.Line.{entries_of}

-- the frames with the holds of before
pub record IsTaken (old new : Frames) : Type 0 where
  pub sound : held.IsSound new
  pub holds : KeepsHolds old new
  pub reads : KeepsReads old new
  pub directs : KeepsDirects old new
  pub geometry : new.geometry ≡ old.geometry
  pub shard : new.shard ≡ old.shard
  pub tokens : new.commands.next ≡ old.commands.next
  pub slots : new.slots ≡ old.slots
  pub saw_failed : new.saw_failed ≡ old.saw_failed

same_requests : (s : State) (new : Frames) → KeepsHolds s.frames new → KeepsReads s.frames new → new.saw_failed ≡ s.frames.saw_failed → requests_of (record s { frames = new }) ≡ requests_of s
same_requests s new holds reads failed =
    λ i. map waiting_request (waiting_of s) ++ ((held_requests (record new { uses = holds i }) ++ reads i) ++ replied_requests (failed i) s.released s.replies.items)

live_before : (old new : Frames) → IsTaken old new → AreLive new → AreLive old
live_before old new is live =
    (subst (λ (shape : Shape). count_out old.slots shape.slots ≤ 2) is.geometry (subst (λ slots. count_out slots new.geometry.slots ≤ 2) is.slots live.0), sym is.saw_failed ∙ live.1)

taken_core : (s : State) (new : Frames) → IsSettled s → IsTaken s.frames new → IsSettled (record s { frames = new })
taken_core s new core is =
    let sound = core.sound in
    let same = same_requests s new is.holds is.reads is.saw_failed in
    let out : most_calls new ≡ most_calls s.frames = calls_same s.frames new (ap states_of is.slots) is.geometry in
    record {
      sound = record {
        frames = is.sound;
        requests = record {
          distinct = subst (λ es. IsDistinct nat_eq (keys_of es)) (sym same) sound.requests.distinct;
          numbered = subst (λ es. AllByRecursion (λ id. id < s.accepted) (keys_of es)) (sym same) sound.requests.numbered;
          counted = ap length same ∙ sound.requests.counted;
          few = sound.requests.few;
          waiting = requests_kept s.frames new (waiting_of s) is.geometry is.shard sound.requests.waiting;
          sized = sizes_kept s.frames.geometry new.geometry s.replies.items is.geometry sound.requests.sized;
          marked = sound.requests.marked;
        };
        room = record {
          waiting = sound.room.waiting;
          causes = sound.room.causes;
          replies = sound.room.replies;
          calls = sound.room.calls;
          few_calls = omega (arith, sound.room.few_calls, out);
          rooms = rooms_same s.rooms.items s.frames new is.holds sound.room.rooms;
          space = sound.room.space;
        };
        tokens =
            let slots : most_owed new.geometry.slots * count_unheld (record s { frames = new }) ≡ most_owed s.frames.geometry.slots * count_unheld s =
            λ i. most_owed (is.geometry i).slots * (length (waiting_of s) + length (is.reads i)) in
            let owes = ap (λ held. owed_in held) is.holds in
            omega (arith, slots, owes, is.tokens, sound.tokens);
        accepted = sound.accepted;
        counted = counted_kept s.counts s.frames new sound.counted (λ test. let many = ap (λ held. count_rows test held) is.holds in omega (arith, many)) (let next = is.tokens in omega (arith, next));
        next_rows = own_rows_kept s.frames new s.check_row s.repair_row is.geometry is.shard sound.next_rows;
      };
      reading = reading_kept s.frames new is.reads core.reading;
      rested = λ live frame.
          rested_kept s.frames new frame (ap (λ held. hold_at held frame) is.holds) (core.rested (live_before s.frames new is live) frame);
    }

step_of : (s : State) (new : Frames) (event : steps.Event) → KeepsHolds s.frames new → new.saw_failed ≡ s.frames.saw_failed → Steps s.frames event new → Step (core_of s) event (core_of (record s { frames = new }))
step_of s new event holds failed stepped =
    let same = same_requests s new holds stepped.3 failed in
    let rest : List (ℕ × shards.Request) → Rest = λ es. record (rest_of s) { request = table es } in
    ((stepped.0, stepped.1), subst (λ es. steps.Step (layout_in s) s.frames.shard (state_of s) event (shard_with (rest es) new)) (sym same) (stepped.2 (rest_of s)))

abbrev pub TakesCommand : Frames → Option Command → Frames → Type 0
TakesCommand old result new = MatchOption result (Steps old No_command new) (λ c. (frame : ℕ) × (abandoned copy : Bool) × Steps old (Take_command c.token (world_command frame abandoned copy c)) new)

abbrev pub SameSlots : Frames → Frames → Type 0
SameSlots old new = (new.slots ≡ old.slots) × (new.saw_failed ≡ old.saw_failed)

is_taken : (old new : Frames) (result : Option Command) → held.IsSound new → KeepsHolds old new → SameSlots old new → KeepsDirects old new → TakesCommand old result new → IsTaken old new
is_taken old new None sound holds same directs took =
    record { sound = sound; holds = holds; reads = took.3; directs = directs; geometry = took.0; shard = took.1; tokens = ap (λ (s : Shard). s.tokens) (took.2 no_rest).1; slots = same.0; saw_failed = same.1 }
is_taken old new (Some c) sound holds same directs took =
    let stepped = took.3 in
    record { sound = sound; holds = holds; reads = stepped.3; directs = directs; geometry = stepped.0; shard = stepped.1; tokens = ap (λ (s : Shard). s.tokens) (stepped.2 no_rest).1; slots = same.0; saw_failed = same.1 }

pub taken_rests : (s : State) (new : Frames) (result : Option Command) → IsCore s → held.IsSound new → KeepsHolds s.frames new → SameSlots s.frames new → KeepsDirects s.frames new → TakesCommand s.frames result new → IsCore (record s { frames = new })
taken_rests s new result core sound holds same directs took =
    let is = is_taken s.frames new result sound holds same directs took in
    record {
      settled = taken_core s new core.settled is;
      waits = λ live.
          let like : IsLike s.frames new = record { geometry = is.geometry; live = live_before s.frames new is; slots = ap states_of is.slots; passed = passed_same s.frames new is.geometry is.holds; tokens = let next = is.tokens in omega arith } in
          all_wait_still s.frames new like (frees_kept s.frames new is.directs) (holders_same s.frames new is.holds) (full_same s.frames new is.holds)
          (entries_of s.waiting) (core.waits (live_before s.frames new is live));
    }

pub taken_step : (s : State) (new : Frames) (result : Option Command) → KeepsHolds s.frames new → SameSlots s.frames new → TakesCommand s.frames result new
    → MatchOption result (Step (core_of s) No_command (core_of (record s { frames = new }))) (λ c. HandsCommand (core_of s) c (core_of (record s { frames = new })))
taken_step s new None holds same took = step_of s new No_command holds same.1 took
taken_step s new (Some c) holds same took = (took.0, took.1, took.2, step_of s new (Take_command c.token (world_command took.0 took.1 took.2 c)) holds same.1 took.3)
