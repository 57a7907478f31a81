-- A row is held for a request that waits, and with a write for those that wait for its other blocks: the state is settled.
use Rattle.std.proofs.Common.{◌≡◌, ◌≢◌, inl, inr, ℕ, ◌+◌, ◌≤◌, Bool, false, List, ◌++◌, length, refl, sym, ap, subst, ◌∙◌, Some, None, arith}
use Rattle.std.specs.Prelude.{if◌then◌else◌, option_map, vec_capacity}
use Rattle.std.specs.List.{AllByRecursion}
use Rattle.std.proofs.lemmas.Bool.{cases_eq}
use Rattle.r6_stripe.specs.Holds.{cell_at}
use Rattle.r6_stripe.specs.Holds.Doubling.{Single, Passed}
use Rattle.r6_world.specs.Tasks.{Hold, Task}
use Rattle.r6_world.specs.ShardStates as shards
use Rattle.r6_world.specs.ShardStates.{Shard}
use Rattle.r6_world.specs.Steps.{IsRequest}
use Rattle.r6_core.specs.declared.queued.Queued.{Queued}
use Rattle.r6_core.specs.Queued.{request_in}
use Rattle.r6_frames.specs.declared.frames.Frames.{Frames}
use Rattle.r6_frames.specs.declared.frames.FrameUse.{FrameUse}
use Rattle.r6_frames.specs.declared.frames.HeldRow.{HeldRow}
use Rattle.r6_frames.specs.declared.frames.Job.{Job}
use Rattle.r6_frames.specs.declared.frames.Job.TheVariants as job
use Rattle.r6_frames.specs.declared.frames.Scrub.TheVariants as scrub
use Rattle.r6_frames.specs.declared.frames.ServedRequest.{ServedRequest}
use Rattle.r6_frames.specs.Views.{held_for, hold_at, hold_of, is_scrub, kind_in, row_in, task_by, use_at}
use Rattle.r6_frames.specs.Calls.{IsHolder, KeepsDirects, KeepsOthers, KeepsReads, KeepsRows}
use Rattle.r6_frames.specs.Owed.{owed, IsDriven, IsOver, most_owed}
use Rattle.r6_frames.specs.Slots.{states_of}
use Rattle.r6_frames.specs.Sound as held
use Rattle.r6_waiters.specs.Line.{Line, capacity_of, causes_of}
use Rattle.r6_core.specs.declared.state.State.{State}
use Rattle.r6_core.specs.declared.scan.Room.TheVariants as room
use Rattle.r6_core.specs.Shards.{layout_in, waiting_of}
use Rattle.r6_core.specs.Inside.{HaveRooms, IsLike, KeepsPassed, IsRestedFrame, IsSettled, IsSound, TakesRoom, count_rows, is_turn, one_if, row_for}
use Rattle.r6_core.specs.Limits.{count_untold, most_calls}
use Rattle.r6_core.proofs.PassedOn.{begun_single, passed_both, passed_drives, passed_others}
use Rattle.r6_core.proofs.CountedRows.{counted_still, row_weight, rows_counted_but_one, rows_counted_still}
use Rattle.r6_core.proofs.Going.{drives_give, no_rest, reading_kept}
use Rattle.r6_core.proofs.HeldStarts.{HasBegun, begun_bound, begun_counted, begun_distinct, begun_numbered, begun_state, begun_tokens, first_hold, held_first}
use Rattle.r6_core.proofs.Kept.{own_rows_kept, requests_kept, sizes_kept}
use Rattle.r6_core.proofs.Lined.{all_permuted}
use Rattle.r6_core.proofs.SlotsKept.{calls_same, drives_keep}
use Rattle.r6_core.proofs.Throughs.{drives_first}
use Rattle.r6_core.proofs.Waking.{holder_for, row_stays}
use Rattle.r6_core.specs.Inside.{IsQueuedOf}
use Rattle.std.proofs.Common.{map}
use Rattle.r6_core.proofs.Passed.{all_last}

-- a hold for requests is for no scrub and no rebuild
abbrev IsOfShard : (Job → Bool) → Type 0
IsOfShard test =
    ((served : ServedRequest) (buffer : List ℕ) → test (job.Read served buffer) ≡ false)
    × ((served : _) → test (job.Write served) ≡ false)

for_requests : (test : Job → Bool) → IsOfShard test → (h : HeldRow) → IsRequest (task_by h.job (kind_in h)) → one_if test (Some (held_for h)) ≡ 0
for_requests test of h is = by_job h.job is
  where
    by_job : (j : Job) → IsRequest (task_by j (kind_in h)) → one_if test (Some (h.row, j)) ≡ 0
    by_job (job.Read served buffer) is = ap (λ (b : Bool). if b then 1 else 0) (of.0 served buffer)
    by_job (job.Write served) is = ap (λ (b : Bool). if b then 1 else 0) (of.1 served)
    by_job (job.Scrub scrub.Check) is = absurd is
    by_job (job.Scrub scrub.Repair) is = absurd is
    by_job (job.Rebuild target) is = absurd is

-- what the calls of the frames say beside it
pub record HasDriven (s : State) (line : Line Queued) (frame : ℕ) (mid new : Frames) (roomed : State) : Type 0 where
  pub rooms : HaveRooms roomed.rooms.items new
  pub space : shards.frames ≤ vec_capacity roomed.rooms
  pub capacity : capacity_of line ≡ capacity_of s.waiting
  pub causes : causes_of line ≡ causes_of s.waiting
  pub begun_sound : held.IsSound mid
  pub begun_others : KeepsOthers s.frames frame mid
  pub begun_owed : owed mid ≤ owed s.frames + most_owed s.frames.geometry.slots
  pub sound : held.IsSound new
  pub driven : IsDriven new frame
  pub others : KeepsOthers mid frame new
  pub rows : KeepsRows mid new
  pub owes : new.commands.next + owed new ≤ mid.commands.next + owed mid
  pub goes_out : IsOver new frame → ⊥
  pub directs : KeepsDirects s.frames new

module _ (s : State) (request : Queued) (others : List Queued) (task : Task) (served : List Queued) (line : Line Queued) (rest : List Queued) (frame : ℕ) (mid new : Frames) (roomed : State)
    (is : HasBegun s request others task served line rest frame mid new) (does : HasDriven s line frame mid new roomed) where
  abbrev now : State
  now = begun_state s request others task served line rest frame mid new roomed is

  geometry_same : new.geometry ≡ s.frames.geometry
  geometry_same = is.drives.0 ∙ is.begins.shard.0

  shard_same : new.shard ≡ s.frames.shard
  shard_same = is.drives.1 ∙ is.begins.shard.1

  reads_same : KeepsReads s.frames new
  reads_same = is.drives.3 ∙ is.begins.shard.3

  frames_same : (other : ℕ) → other ≢ frame → use_at new.uses other ≡ use_at s.frames.uses other
  frames_same other ne = does.others other ne ∙ does.begun_others other ne

  slots_same : states_of new.slots ≡ states_of s.frames.slots
  slots_same = drives_keep no_rest mid new (drives_first mid new is.drives) ∙ ap (λ (x : Shard). x.slot) (is.begins.shard.2 no_rest)

  held_mid : (h : HeldRow) × (hold_at mid.uses frame ≡ Some h) × (hold_of h ≡ first_hold s.frames frame (row_for s.frames request.op) task (map request_in served) mid is.begins)
  held_mid = held_first s.frames frame (row_for s.frames request.op) task (map request_in served) mid is.begins

  -- as many rows are held for turns as before
  rows_still : (test : Job → Bool) → IsOfShard test → IsSound s → count_rows test new.uses ≤ count_rows test s.frames.uses
  rows_still test of sound =
      let more = rows_counted_but_one test frame s.frames mid sound.frames does.begun_sound does.begun_others in
      let none : row_weight test s.frames.uses frame ≡ 0 = ap (λ (u : FrameUse). one_if test (option_map held_for (row_in u))) is.can.1.1 in
      let own : row_weight test mid.uses frame ≡ 0 =
      ap (λ o. one_if test (option_map held_for o)) held_mid.1
      ∙ for_requests test of held_mid.0 (subst IsRequest (ap (λ (x : Hold). x.task) (sym held_mid.2)) is.serves.is_request) in
      let last = rows_counted_still test mid new does.begun_sound does.sound does.rows in
      omega (arith, more, none, own, last)

  -- no token is taken back
  tokens_more : s.frames.commands.next ≤ new.commands.next
  tokens_more =
      let begun = begun_tokens s.frames frame (row_for s.frames request.op) task (map request_in served) mid is.begins in
      let more = drives_give mid new (drives_first mid new is.drives) in omega (arith, begun, more)

  few_still : IsSound s → length s.calls.items + count_untold s.untold ≤ most_calls new
  few_still sound = omega (arith, calls_same s.frames new slots_same geometry_same, sound.room.few_calls)

  pub begun_settled : IsSettled s → IsSettled now
  begun_settled settled =
      let sound = settled.sound in
      record {
        sound = record {
          frames = does.sound;
          requests = record {
            distinct = begun_distinct s request others task served line rest frame mid new roomed is sound;
            numbered = begun_numbered s request others task served line rest frame mid new roomed is sound;
            counted = begun_counted s request others task served line rest frame mid new roomed is sound;
            few = sound.requests.few;
            waiting = subst (AllByRecursion (IsQueuedOf new)) (sym is.left) (requests_kept s.frames new rest geometry_same shard_same
                (all_last (IsQueuedOf s.frames) served rest (all_permuted (IsQueuedOf s.frames) (waiting_of s) (served ++ rest) is.items sound.requests.waiting)));
            sized = sizes_kept s.frames.geometry new.geometry s.replies.items geometry_same sound.requests.sized;
            marked = sound.requests.marked;
          };
          room = record {
            waiting = does.capacity ∙ sound.room.waiting;
            causes = does.causes ∙ sound.room.causes;
            replies = sound.room.replies;
            calls = sound.room.calls;
            few_calls = few_still sound;
            rooms = does.rooms;
            space = does.space;
          };
          tokens = omega (arith, begun_bound s request others task served line rest frame mid new roomed is does.begun_owed does.owes, sound.tokens);
          accepted = sound.accepted;
          counted = counted_still s.counts s.frames new sound.counted (rows_still is_turn ((λ one buffer. refl), λ some. refl) sound) (rows_still is_scrub ((λ one buffer. refl), λ some. refl) sound) tokens_more;
          next_rows = own_rows_kept s.frames new s.check_row s.repair_row geometry_same shard_same sound.next_rows;
        };
        reading = reading_kept s.frames new reads_same settled.reading;
        rested = λ live f. elim (cases_eq f frame) [
          | inl e ↦ subst (IsRestedFrame now) (sym e) (does.driven, does.goes_out)
          | inr ne ↦
              let same = ap row_in (frames_same f ne) in
              let rested = settled.rested is.can.0 f in
              ((λ h there. rested.0 h (sym same ∙ there)), (λ over. rested.1 (over.0, sym same ∙ over.1, over.2)))
        ];
      }

  passed_now : KeepsPassed s.frames new
  passed_now =
      let single = λ (h : HeldRow) (there : hold_at mid.uses frame ≡ Some h) (j : ℕ).
      let same : held_mid.0 ≡ h = let both : Some held_mid.0 ≡ Some h = sym held_mid.1 ∙ there in cc in
      ap (λ (x : HeldRow). (cell_at x.hold.planned.hold.cells j).doubling) (sym same) ∙ ap (λ (x : Hold). (cell_at x.course.cells j).doubling) held_mid.2 ∙ begun_single (layout_in s) (states_of s.frames.slots) _ _ j in
      passed_both s.frames mid new
      (passed_others s.frames mid frame is.begins.shard.0 does.begun_others
      (λ h there. absurd (let none : None ≡ Some h = sym (ap row_in is.can.1.1) ∙ there in cc))
      (λ h there j passed. let both : Single ≡ Passed = sym (single h there j) ∙ passed in absurd (cc)))
      (passed_drives mid new does.begun_sound (drives_first mid new is.drives))

  pub begun_like : IsLike s.frames new
  begun_like = record { geometry = geometry_same; live = λ live. is.can.0; slots = slots_same; passed = passed_now; tokens = tokens_more }

  -- the row is held in the frame
  pub begun_takes : TakesRoom (room.Frame frame) s.frames request new
  begun_takes =
      let there = row_stays mid new frame held_mid.0 does.rows held_mid.1 in
      let holder : IsHolder new (row_for s.frames request.op) frame = (is.can.1.0, there.0, there.1, there.2 ∙ ap (λ (h : Hold). h.row) held_mid.2) in
      (frames_same, does.directs, holder_for s.frames new request.op frame begun_like holder)
