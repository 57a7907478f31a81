-- A row is held for what a shard does by itself: a check, a repair or a rebuild.
use Rattle.std.proofs.Common.{◌≡◌, ◌≢◌, ℕ, ◌+◌, ◌*◌, ◌^◌, ◌<◌, ◌≤◌, ◌⊎◌, Bool, ◌++◌, map, length, refl, sym, ap, subst, ◌∙◌, Option, Some, None, inl, inr, arith}
use Rattle.std.specs.Prelude.{nat_eq, option_map}
use Rattle.std.specs.List.{IsDistinct, AllByRecursion}
use Rattle.std.specs.Map.{keys_of}
use Rattle.std.proofs.lemmas.Bool.{cases_eq}
use Rattle.r6_stripe.specs.Holds.{MayBegin, cell_at}
use Rattle.r6_stripe.specs.Holds.Doubling.{Single, Passed}
use Rattle.r6_world.specs.Tables.{put}
use Rattle.r6_world.specs.Layouts.{IsRowOf, Layout}
use Rattle.r6_world.specs.Geometries.{layout_of}
use Rattle.r6_world.specs.Tasks.{Hold, Task, ReadFor, WriteFor, Rebuild, Check, Repair, kind_of}
use Rattle.r6_world.specs.ShardStates.{Command, Shard, begun, found}
use Rattle.r6_world.specs.Changes.{MayStart, Start, Allowed, after, next_check, next_repair}
use Rattle.r6_world.specs.Steps as steps
use Rattle.r6_world.specs.Steps.{Through, Scans}
use Rattle.r6_frames.specs.declared.frames.Frames.{Frames}
use Rattle.r6_frames.specs.declared.frames.HeldRow.{HeldRow}
use Rattle.r6_frames.specs.declared.frames.Job.{Job}
use Rattle.r6_frames.specs.Views.{frame_of, held_for, held_requests, hold_at, hold_of, is_scrub, kind_in, row_in, shard_with, use_at, AreLive}
use Rattle.r6_frames.specs.Calls.{BeginsTurn, IsFreeFrame, IsHeldFrame, KeepsDirects, KeepsOthers, KeepsReads, KeepsRows, PutsFirst, PutsFirstOut}
use Rattle.r6_frames.specs.Owed.{owed, IsDriven, IsOver, most_owed}
use Rattle.r6_frames.specs.Slots.{states_of}
use Rattle.r6_frames.specs.Sound as held
use Rattle.r6_frames.proofs.Held.{put_own}
use Rattle.r6_frames.proofs.Resting.{frame-held, free_is, goes_on}
use Rattle.r6_core.specs.declared.state.State.{State}
use Rattle.r6_world.specs.ShardStates.{limit}
use Rattle.r6_core.specs.Shards.{layout_in, requests_of, rest_of, state_of, table, waiting_request, replied_requests, waiting_of}
use Rattle.r6_core.specs.Inside.{AreBounded, AreOwnRows, CanHold, HaveRooms, IsCore, IsRestedFrame, IsSettled, IsSound, KeepsPassed, count_rows, is_turn, is_written, one_if, Waits}
use Rattle.r6_core.specs.Limits.{count_unheld}
use Rattle.r6_core.proofs.Accepting.{few_unheld, owed_in-le, room_for_all}
use Rattle.r6_core.proofs.CountedRows.{row_weight, rows_counted_but_one, rows_counted_still}
use Rattle.r6_core.proofs.Going.{no_rest, reading_kept}
use Rattle.r6_core.proofs.Kept.{own_rows_kept, requests_kept, sizes_kept}
use Rattle.r6_core.proofs.PassedOn.{begun_single, passed_both, passed_drives, passed_others}
use Rattle.r6_core.proofs.Rooms.{few_rows}
use Rattle.r6_core.proofs.Scrubs.{Weighs, scrub_weight, scrubs_weigh, turn_weight, turns_weigh, write_weight, writes_weigh}
use Rattle.r6_core.proofs.SlotsKept.{drives_keep, calls_same}
use Rattle.r6_core.proofs.Starting.{no_row, not_held}
use Rattle.r6_core.proofs.Throughs.{drives_first, keeps_or_gives, scans, through_in, through_of}
use Rattle.r6_core.proofs.Waking.{all_wait_still, frees_kept, holders_begun}
use Rattle.r6_waiters.specs.Line.{entries_of}

-- ---- the row may be held

-- a turn of the shard's own serves no request
start_turn : (l : Layout) (x : Shard) (frame row : ℕ) (task : Task) → steps.IsTurn task → after l x (Start frame row task)
    ≡ record x {
      frame = put x.frame frame (Some (begun l x.slot row task));
      check_row = next_check l task row x.check_row;
      repair_row = next_repair l task row x.repair_row;
    }
start_turn l x frame row (ReadFor id block) turn = absurd turn
start_turn l x frame row (WriteFor writes) turn = absurd turn
start_turn l x frame row (Rebuild slot generation) turn = refl
start_turn l x frame row Check turn = refl
start_turn l x frame row Repair turn = refl

one_turn : (task : Task) → turn_weight task ≤ 1
one_turn (ReadFor id block) = omega arith
one_turn (WriteFor writes) = omega arith
one_turn (Rebuild slot generation) = omega arith
one_turn Check = omega arith
one_turn Repair = omega arith

not_writes : (task : Task) → steps.IsTurn task → write_weight task ≡ 0
not_writes (ReadFor id block) turn = refl
not_writes (WriteFor writes) turn = absurd turn
not_writes (Rebuild slot generation) turn = refl
not_writes Check turn = refl
not_writes Repair turn = refl

pub turn_allowed : (s : State) (task : Task) (frame row : ℕ) → IsSound s → CanHold s.frames row frame → IsRowOf (layout_in s) s.frames.shard row
    → MayStart (layout_in s) (state_of s) row task → MayBegin (found (layout_in s) (states_of s.frames.slots) row) (kind_of (layout_in s) row task)
    → Allowed (layout_in s) s.frames.shard (state_of s) (Start frame row task)
turn_allowed s task frame row sound can own start begin =
    (free_is (rest_of s) s.frames frame sound.frames can.0 can.1, not_held (rest_of s) s.frames row can.2, own, can.0, start, begin)

-- ---- the row is held

begun_row : (old : Frames) (frame : ℕ) (task : Task) (row : ℕ) (mid : Frames) → BeginsTurn old frame task row mid
    → (h : HeldRow) × (hold_at mid.uses frame ≡ Some h) × (hold_of h ≡ begun (layout_of old.geometry) (states_of old.slots) row task)
begun_row old frame task row mid begins =
    let hold = begun (layout_of old.geometry) (states_of old.slots) row task in
    frame-held mid frame hold (ap (λ (x : Shard). x.frame frame) (begins.shard.2 no_rest) ∙ put_own (frame_of old) frame (Some hold))

pub begun_turn : (old : Frames) (frame : ℕ) (task : Task) (row : ℕ) (mid : Frames) → BeginsTurn old frame task row mid → IsHeldFrame mid frame
begun_turn old frame task row mid begins = let there = begun_row old frame task row mid begins in (there.0, there.1)

-- the tokens suffice for what may come
pub turn_numbers : (s : State) (frame : ℕ) (task : Task) (row : ℕ) (mid : Frames) → s.frames.commands.next < limit → held.IsSound mid → BeginsTurn s.frames frame task row mid
    → mid.commands.next + owed mid < 2 ^ 63
turn_numbers s frame task row mid given sound begins =
    let owes = owed_in-le mid.geometry mid.shard mid.slots mid.uses sound.shape sound.frames.rows in
    let room = room_for_all mid.geometry.slots 0 (length mid.uses) (owed mid) sound.shape.slots_allowed.1 owes sound.frames.count (omega arith) in
    let tokens = ap (λ (x : Shard). x.tokens) (begins.shard.2 no_rest) in
    omega (arith, room, tokens, given)

-- and its commands are put out
pub record IsTurnTaken (s : State) (task : Task) (frame row check_row repair_row : ℕ) (mid new : Frames) : Type 0 where
  pub core : IsCore s
  pub turn : steps.IsTurn task
  pub can : CanHold s.frames row frame
  pub given : s.frames.commands.next < limit
  pub few : (scrub_weight task ≡ 0) ⊎ (s.counts.skipped < limit)
  pub own : AreOwnRows s.frames check_row repair_row
  pub check : check_row ≡ next_check (layout_in s) task row s.check_row
  pub repair : repair_row ≡ next_repair (layout_in s) task row s.repair_row
  pub begins : BeginsTurn s.frames frame task row mid
  pub begun_sound : held.IsSound mid
  pub begun_others : KeepsOthers s.frames frame mid
  pub begun_owed : owed mid ≤ owed s.frames + most_owed s.frames.geometry.slots
  pub sound : held.IsSound new
  pub drives : PutsFirstOut mid new
  pub driven : IsDriven new frame
  pub held_still : IsHeldFrame new frame
  pub others_kept : KeepsOthers mid frame new
  pub rows : KeepsRows mid new
  pub requests : held_requests new ≡ held_requests mid
  pub all_owed : new.commands.next + owed new ≤ mid.commands.next + owed mid
  pub live : AreLive new
  pub goes_out : IsOver new frame → ⊥
  pub directs : KeepsDirects s.frames new

module _ (s : State) (task : Task) (frame row check_row repair_row : ℕ) (mid new : Frames) (is : IsTurnTaken s task frame row check_row repair_row mid new) where
  abbrev pub turned : State
  turned = record s { check_row = check_row; repair_row = repair_row; frames = new }

  geometry_same : new.geometry ≡ s.frames.geometry
  geometry_same = is.drives.0 ∙ is.begins.shard.0

  shard_same : new.shard ≡ s.frames.shard
  shard_same = is.drives.1 ∙ is.begins.shard.1

  frames_same : (other : ℕ) → other ≢ frame → use_at new.uses other ≡ use_at s.frames.uses other
  frames_same other ne = is.others_kept other ne ∙ is.begun_others other ne

  reads_same : KeepsReads s.frames new
  reads_same = is.drives.3 ∙ is.begins.shard.3

  requests_same : requests_of turned ≡ requests_of s
  requests_same = λ i. map waiting_request (waiting_of s)
      ++ (((is.requests ∙ is.begins.requests) i ++ reads_same i) ++ replied_requests ((is.live.1 ∙ sym is.can.0.1) i) s.released s.replies.items)

  -- the frame was free, and its row is held
  not_frame : (f : ℕ) → IsFreeFrame new f → f ≢ frame
  not_frame f free e = let both : Some is.held_still.0 ≡ None = sym is.held_still.1 ∙ ap (hold_at new.uses) (sym e) ∙ no_row new f free in absurd (cc)

  turned_slots : states_of new.slots ≡ states_of s.frames.slots
  turned_slots = drives_keep no_rest mid new (drives_first mid new is.drives) ∙ ap (λ (x : Shard). x.slot) (is.begins.shard.2 no_rest)

  -- the hold has put out a command
  turned_tokens : s.frames.commands.next < new.commands.next
  turned_tokens =
      let rest = rest_of s in
      let begun = shard_with rest mid in
      let through = (drives_first mid new is.drives).2 rest in
      let tokens = ap (λ (x : Shard). x.tokens) (is.begins.shard.2 rest) in
      let held = is.held_still in
      let out = goes_on rest new is.sound is.live frame (hold_of held.0) is.driven is.goes_out (ap (option_map hold_of) held.1) in
      elim (keeps_or_gives (layout_of mid.geometry) mid.shard begun (shard_with rest new) through) [
        | inr more ↦ omega (arith, more, tokens)
        | inl same ↦
            let before : (state_of s).command out.0 ≡ Some out.1 =
            ap (λ (x : Shard). x.command out.0) (sym (is.begins.shard.2 rest)) ∙ ap (λ (command : ℕ → Option Command). command out.0) (sym same) ∙ out.2 in
            absurd ((free_is rest s.frames frame is.core.settled.sound.frames is.can.0 is.can.1).2 out.0 out.1 before out.4)
      ]

  turned_passed : KeepsPassed s.frames new
  turned_passed =
      let there = begun_row s.frames frame task row mid is.begins in
      let single = λ (h : HeldRow) (here : hold_at mid.uses frame ≡ Some h) (j : ℕ).
      let same : there.0 ≡ h = let both : Some there.0 ≡ Some h = sym there.1 ∙ here in cc in
      ap (λ (x : HeldRow). (cell_at x.hold.planned.hold.cells j).doubling) (sym same) ∙ ap (λ (x : Hold). (cell_at x.course.cells j).doubling) there.2 ∙ begun_single (layout_in s) (states_of s.frames.slots) _ _ j in
      passed_both s.frames mid new
      (passed_others s.frames mid frame is.begins.shard.0 is.begun_others
      (λ h here. absurd (let none : None ≡ Some h = sym (no_row s.frames frame is.can.1) ∙ here in cc))
      (λ h here j passed. let both : Single ≡ Passed = sym (single h here j) ∙ passed in absurd (cc)))
      (passed_drives mid new is.begun_sound (drives_first mid new is.drives))

  turned_waits : AllByRecursion (Waits new) (entries_of s.waiting)
  turned_waits =
      all_wait_still s.frames new
      (record { geometry = geometry_same; live = λ live. is.can.0; slots = turned_slots; passed = turned_passed; tokens = omega (arith, turned_tokens) })
      (frees_kept s.frames new is.directs) (holders_begun s.frames new frame is.can.1 frames_same)
      (λ f free. (free.0, sym (frames_same f (not_frame f free)) ∙ free.1)) (entries_of s.waiting) (is.core.waits is.can.0)

  -- the row is held for the task, and the others for what they were
  turned_rows : (test : Job → Bool) (weight : Task → ℕ) → Weighs test weight → count_rows test new.uses ≡ count_rows test s.frames.uses + weight task
  turned_rows test weight weighs =
      let sound = is.core.settled.sound.frames in
      let there = begun_row s.frames frame task row mid is.begins in
      let first = rows_counted_but_one test frame s.frames mid sound is.begun_sound is.begun_others in
      let none : row_weight test s.frames.uses frame ≡ 0 = ap (λ o. one_if test (option_map held_for o)) (no_row s.frames frame is.can.1) in
      let own : row_weight test mid.uses frame ≡ weight task =
      ap (λ o. one_if test (option_map held_for o)) there.1 ∙ weighs there.0.row there.0.job (kind_in there.0) ∙ ap (λ (hold : Hold). weight hold.task) there.2 in
      let rest = rows_counted_still test mid new is.begun_sound is.sound is.rows in
      omega (arith, first, none, own, rest)

  turned_counts : AreBounded s.counts new
  turned_counts =
      let counted = is.core.settled.sound.counted in
      let scrubs = turned_rows is_scrub scrub_weight scrubs_weigh in
      record {
        found = let turns = turned_rows is_turn turn_weight turns_weigh in omega (arith, counted.found, turns, one_turn task, turned_tokens);
        skipped = elim is.few [
          | inl none ↦ omega (arith, counted.skipped, scrubs, none)
          | inr few ↦ omega (arith, few_rows is_scrub new.uses, is.sound.frames.count, few)
        ];
      }

  -- none of them is writes
  turned_rooms : HaveRooms s.rooms.items new
  turned_rooms =
      let rooms = is.core.settled.sound.room.rooms in
      let same = turned_rows is_written write_weight writes_weigh in
      record { many = omega (arith, rooms.many, same, not_writes task is.turn); empty = rooms.empty }

  turned_settled : IsSettled turned
  turned_settled =
      let sound = is.core.settled.sound in
      let same = requests_same in
      record {
        sound = record {
          frames = is.sound;
          requests = record {
            distinct = subst (λ es. IsDistinct nat_eq (keys_of es)) (sym same) sound.requests.distinct;
            numbered = subst (λ es. AllByRecursion (λ id. id < s.accepted) (keys_of es)) (sym same) sound.requests.numbered;
            counted = ap length same ∙ sound.requests.counted;
            few = sound.requests.few;
            waiting = requests_kept s.frames new (waiting_of s) geometry_same shard_same sound.requests.waiting;
            sized = sizes_kept s.frames.geometry new.geometry s.replies.items geometry_same sound.requests.sized;
            marked = sound.requests.marked;
          };
          room = record {
            waiting = sound.room.waiting;
            causes = sound.room.causes;
            replies = sound.room.replies;
            calls = sound.room.calls;
            few_calls = let out = calls_same s.frames new turned_slots geometry_same in omega (arith, out, sound.room.few_calls);
            rooms = turned_rooms;
            space = sound.room.space;
          };
          tokens =
              let owes = owed_in-le mid.geometry mid.shard mid.slots mid.uses is.begun_sound.shape is.begun_sound.frames.rows in
              let room = room_for_all mid.geometry.slots (count_unheld s) (length mid.uses) (owed mid) is.begun_sound.shape.slots_allowed.1 owes is.begun_sound.frames.count (few_unheld s sound) in
              let slots : most_owed new.geometry.slots * count_unheld turned ≡ most_owed mid.geometry.slots * count_unheld s =
              λ i. most_owed (is.drives.0 i).slots * (length (waiting_of s) + length (reads_same i)) in
              let next = ap (λ (x : Shard). x.tokens) (is.begins.shard.2 no_rest) in
              omega (arith, room, slots, next, is.all_owed, is.given);
          accepted = sound.accepted;
          counted = turned_counts;
          next_rows = own_rows_kept s.frames new check_row repair_row geometry_same shard_same is.own;
        };
        reading = reading_kept s.frames new reads_same is.core.settled.reading;
        rested = λ live f. elim (cases_eq f frame) [
          | inl e ↦ subst (IsRestedFrame turned) (sym e) (is.driven, is.goes_out)
          | inr ne ↦
              let kept = ap row_in (frames_same f ne) in
              let rested = is.core.settled.rested is.can.0 f in
              ((λ h there. rested.0 h (sym kept ∙ there)), (λ over. rested.1 (over.0, sym kept ∙ over.1, over.2)))
        ];
      }

  pub turned_core : IsCore turned
  turned_core = record { settled = turned_settled; waits = λ live. turned_waits }

  turned_mid : shard_with (rest_of turned) mid ≡ after (layout_in s) (state_of s) (Start frame row task)
  turned_mid =
      is.begins.shard.2 (rest_of turned)
      ∙ (λ i. record (state_of s) {
        frame = put (frame_of s.frames) frame (Some (begun (layout_in s) (states_of s.frames.slots) row task));
        request = table (requests_same i);
        check_row = is.check i;
        repair_row = is.repair i;
      })
      ∙ sym (start_turn (layout_in s) (state_of s) frame row task is.turn)

  pub turned_leads : Through (layout_in s) s.frames.shard Scans (after (layout_in s) (state_of s) (Start frame row task)) (state_of turned)
  turned_leads =
      let begun_at = shard_with (rest_of turned) mid in
      let here = through_in s.frames.geometry mid.geometry s.frames.shard mid.shard PutsFirst begun_at (state_of turned) is.begins.shard.0 is.begins.shard.1 (is.drives.2 (rest_of turned)) in
      subst (λ (from : Shard). Through (layout_in s) s.frames.shard Scans from (state_of turned)) turned_mid
      (through_of (layout_in s) s.frames.shard PutsFirst Scans scans begun_at (state_of turned) here)
