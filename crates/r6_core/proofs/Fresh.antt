-- A state with no request, in which nothing was put out.
use Rattle.std.proofs.Common.{◌≡◌, ℕ, zero, suc, ◌+◌, ◌*◌, ◌<◌, ◌≤◌, List, [], ◌∷◌, ◌++◌, length, map, refl, sym, ap, subst, ◌∙◌, None, arith}
use mathlib.Core.Path.{fun_ext}
use Rattle.std.specs.Prelude.{nat_eq, option_map, replicate, vec_capacity}
use Rattle.std.specs.List.{IsDistinct, AllByRecursion}
use Rattle.std.specs.Map.{keys_of}
use Rattle.std.proofs.lemmas.List.{length-replicate}
use Rattle.circular_buffer.specs.Buffer.{buffer}
use Rattle.r6_layout.specs.Layout.{first_row}
use Rattle.r6_layout.specs.Shape.{Shape, IsShape}
use Rattle.r6_world.specs.Layouts.{IsRowOf}
use Rattle.r6_world.proofs.Geometries.{layouts}
use Rattle.r6_world.specs.Geometries.{layout_of}
use Rattle.r6_world.specs.Registers.{Snapshot, status_of}
use Rattle.r6_world.specs.Worlds.{shard_at_start, slot_at_start}
use Rattle.r6_core.specs.declared.queued.Queued.{Queued}
use Rattle.r6_frames.specs.declared.frames.FrameUse.{FrameUse}
use Rattle.r6_frames.specs.declared.frames.FrameUse.TheVariants as uses
use Rattle.r6_frames.specs.declared.slots.Device.{Device}
use Rattle.r6_frames.specs.Slots.{states_of, slot_before}
use Rattle.r6_world.specs.ShardStates as shards
use Rattle.r6_world.specs.ShardStates.{Synced}
use Rattle.r6_core.specs.declared.state.State.{State}
use Rattle.r6_frames.specs.Views.{use_at, is_scrub, row_in, hold_of, frame_of, command_of}
use Rattle.r6_frames.specs.Calls.{HasOneBlock, IsAtStart}
use Rattle.r6_frames.specs.Owed.{owed_in, most_owed}
use Rattle.r6_frames.specs.Writes.{Entry}
use Rattle.r6_frames.specs.Sound as held
use Rattle.r6_core.specs.declared.counts.Counts.{Counts}
use Rattle.r6_core.specs.Shards.{call_of, counts_of, devices_state, state_of, requests_of, waiting_request, replied_requests, waiting_of, requests_in}
use Rattle.r6_core.specs.Refusals.{most_unanswered}
use Rattle.r6_core.specs.Inside.{AreOwnRows, IsCore, Waits, causes, IsFresh, IsReadOn, is_turn, is_written, none_counted, rows_found}
use Rattle.r6_core.specs.Limits.{count_unheld, count_untold}
use Rattle.r6_frames.proofs.Lists.{table}
use Rattle.r6_core.proofs.CountedRows.{no_rows_counted}
use Rattle.r6_waiters.specs.Line.{capacity_of, causes_of, entries_of}
use Rattle.r6_core.specs.Inside.{IsQueuedOf}

distinct-none : IsDistinct nat_eq []
unfolding IsDistinct
distinct-none = tt

nothing_owed : (held : List FrameUse) → ((frame : ℕ) → use_at held frame ≡ uses.Free) → owed_in held ≡ 0
nothing_owed [] free = refl
nothing_owed (uses.Free ∷ held) free = nothing_owed held (λ frame. free (suc frame))
nothing_owed (uses.Held h ∷ held) free = let bad = free 0 in absurd (cc)
nothing_owed (uses.Returning r successor ∷ held) free = let bad = free 0 in absurd (cc)

-- the shard's first row is one of its rows
pub first_row_own : (shape : Shape) (shard : ℕ) → IsShape shape → shard < shape.shards → IsRowOf (layout_of shape) shard (first_row shape shard)
first_row_own shape shard lawful below = let l = layouts shape lawful in l.owned shard (first_row shape shard) below (omega arith) (l.some_row shard below)

fresh_rows : (s : State) (shape : Shape) (shard : ℕ) → IsShape shape → shard < shape.shards → s.frames.geometry ≡ shape → s.frames.shard ≡ shard
    → s.check_row ≡ first_row shape shard → s.repair_row ≡ first_row shape shard → AreOwnRows s.frames s.check_row s.repair_row
fresh_rows s shape shard lawful below same_shape same_shard check repair =
    let own : (row : ℕ) → row ≡ first_row shape shard → IsRowOf (layout_of s.frames.geometry) s.frames.shard row = λ row is.
    subst (λ (n : ℕ). IsRowOf (layout_of s.frames.geometry) n row) (sym same_shard)
    (subst (λ (g : Shape). IsRowOf (layout_of g) shard row) (sym same_shape)
    (subst (λ (r : ℕ). IsRowOf (layout_of shape) shard r) (sym is) (first_row_own shape shard lawful below))) in
    (own s.check_row check, own s.repair_row repair)

all_empty : (many : ℕ) → AllByRecursion (λ writes. writes ≡ []) (replicate {A = List Entry} many [])
all_empty zero = tt
all_empty (suc many) = (refl, all_empty many)

pub fresh_core : (s : State) → s.accepted ≡ 0 → s.unanswered ≡ 0 → s.waiting ≡ (most_unanswered, (causes, [])) → s.replies ≡ buffer [] most_unanswered → s.released ≡ 0
    → s.calls ≡ buffer [] 96 → s.untold ≡ None → s.counts ≡ none_counted
    → (shape : Shape) (shard : ℕ) → IsShape shape → shard < shape.shards → s.frames.geometry ≡ shape → s.frames.shard ≡ shard
    → s.check_row ≡ first_row shape shard → s.repair_row ≡ first_row shape shard → held.IsSound s.frames → IsAtStart s.frames
    → s.rooms.items ≡ replicate shards.frames [] → shards.frames ≤ vec_capacity s.rooms → IsCore s
fresh_core s accepted unanswered waiting replies released calls untold counts shape shard lawful below same_shape same_shard check repair sound start rooms space =
    let none : requests_of s ≡ [] = λ i. map waiting_request (requests_in (waiting i)) ++ ((start.3 i ++ start.4 i) ++ replied_requests s.frames.saw_failed (released i) (replies i).items) in
    let nobody : waiting_of s ≡ [] = ap requests_in waiting in
    let some : most_owed s.frames.geometry.slots * count_unheld s ≡ 0 = (λ i. most_owed s.frames.geometry.slots * (length (nobody i) + length (start.4 i))) ∙ (omega arith) in
    record {
      settled = record {
        sound = record {
          frames = sound;
          requests = record {
            distinct = subst (λ es. IsDistinct nat_eq (keys_of es)) (sym none) distinct-none;
            numbered = subst (λ es. AllByRecursion (λ id. id < s.accepted) (keys_of es)) (sym none) tt;
            counted = ap length none ∙ sym unanswered;
            few = omega (arith, unanswered);
            waiting = subst (λ rs. AllByRecursion (IsQueuedOf s.frames) rs) (sym nobody) tt;
            sized =
                let nothing : s.replies.items ≡ [] = ap (λ b. b.items) replies in
                subst (λ rs. AllByRecursion (HasOneBlock s.frames.geometry) rs) (sym nothing) tt;
            marked = omega (arith, released);
          };
          room = record {
            waiting = ap capacity_of waiting;
            causes = ap causes_of waiting;
            replies = ap (λ b. b.capacity) replies;
            calls = ap (λ b. b.capacity) calls;
            few_calls = let none : length s.calls.items + count_untold s.untold ≡ 0 = λ i. length (calls i).items + count_untold (untold i) in omega (arith, none);
            rooms = record {
              many =
                  let rows = no_rows_counted is_written s.frames.uses (λ frame. ap row_in (start.0 frame)) in
                  let many = ap length rooms ∙ length-replicate {A = List Entry} shards.frames [] in
                  omega (arith, rows, many);
              empty = subst (AllByRecursion (λ writes. writes ≡ [])) (sym rooms) (all_empty shards.frames);
            };
            space = space;
          };
          tokens = omega (arith, some, nothing_owed s.frames.uses start.0, start.1);
          accepted = omega (arith, accepted);
          counted =
              let rows = ap rows_found counts in
              let passed = ap (λ (k : Counts). k.skipped) counts in
              let turns = no_rows_counted is_turn s.frames.uses (λ frame. ap row_in (start.0 frame)) in
              let scrubs = no_rows_counted is_scrub s.frames.uses (λ frame. ap row_in (start.0 frame)) in
              record { found = omega (arith, rows, turns); skipped = omega (arith, passed, scrubs) };
          next_rows = fresh_rows s shape shard lawful below same_shape same_shard check repair;
        };
        reading = subst (AllByRecursion IsReadOn) (sym start.4) tt;
        rested = λ live frame. (λ h is. let free = ap row_in (start.0 frame) in absurd (cc), λ over. let free = ap row_in (start.0 frame) in let is = over.1 in absurd (cc));
      };
      waits = λ live. subst (λ line. AllByRecursion (Waits s.frames) (entries_of line)) (sym waiting) tt;
    }

-- ---- what the slots have at the start

-- what is no slot is in sync
pub past_devices : (devices : List Device) (slot : ℕ) → length devices ≤ slot → devices_state devices slot ≡ Synced 0
past_devices [] slot past = refl
past_devices (d ∷ devices) zero past = absurd (omega arith)
past_devices (d ∷ devices) (suc slot) past = past_devices devices slot (omega arith)

pub states_before : (devices : List Device) (slot : ℕ) → states_of (map slot_before devices) slot ≡ devices_state devices slot
states_before [] slot = refl
states_before (d ∷ devices) zero = refl
states_before (d ∷ devices) (suc slot) = states_before devices slot

-- it stands for the shard at the start
pub fresh_start : (s : State) (shape : Shape) (shard : ℕ) (r : Snapshot) → IsFresh s → s.frames.geometry ≡ shape → s.frames.shard ≡ shard
    → ((slot : ℕ) → states_of s.frames.slots slot ≡ slot_at_start (status_of r slot))
    → state_of s ≡ shard_at_start (layout_of shape) r shard
fresh_start s shape shard r fresh same_shape same_shard slots =
    let start = fresh.2 in
    let frame : frame_of s.frames ≡ (λ f. None) = fun_ext (λ f. ap (λ (u : FrameUse). option_map hold_of (row_in u)) (start.0 f)) in
    let command : (state_of s).command ≡ (λ t. None) = fun_ext (λ t. ap (option_map (command_of s.frames.slots s.frames.next_taken t)) (start.2 t)) in
    let first : first_row s.frames.geometry s.frames.shard ≡ first_row shape shard = λ i. first_row (same_shape i) (same_shard i) in
    λ i. record (state_of s) {
      accepted = fresh.0 i;
      request = table (fresh.1 i);
      frame = frame i;
      tokens = start.1 i;
      command = command i;
      slot = λ d. slots d i;
      calls = map call_of (fresh.3.0 i);
      untold = option_map call_of (fresh.3.1 i);
      saw_failed = fresh.4 i;
      check_row = (fresh.5.0 ∙ first) i;
      repair_row = (fresh.5.1 ∙ first) i;
      counts = counts_of (fresh.5.2 i);
    }

none_before : (waiting : List Queued) (others : List (ℕ × shards.Request)) → map waiting_request waiting ++ others ≡ [] → waiting ≡ []
none_before [] others none = refl
none_before (request ∷ waiting) others none = absurd (cc)

-- no request waits
pub none_waiting : (s : State) → IsFresh s → (waiting_of s) ≡ []
none_waiting s fresh = none_before (waiting_of s) _ fresh.1
