-- A hold ends: its requests are finished.
use Rattle.std.proofs.Common.{◌≡◌, ◌≢◌, ℕ, Bool, true, false, cond, ◌+◌, ◌*◌, ◌<◌, ◌≤◌, List, [], ◌∷◌, ◌++◌, map, refl, sym, ap, subst, ◌∙◌, Option, Some, None, length, arith, append_assoc, length-append}
use Rattle.std.specs.Prelude.{nat_eq, option_map, IsPermutation}
use Rattle.std.specs.Global.{Vec}
use Rattle.std.specs.List.{AllByRecursion}
use Rattle.std.proofs.lemmas.Bool.{eq-eqb}
use Rattle.std.proofs.lemmas.List.Elements.{recursion_from_All}
use Rattle.std.proofs.lemmas.List.Sorted.{IsPermutation-append_comm}
use Rattle.circular_buffer.specs.Buffer.{Buffer, buffer}
use Rattle.r6_world.specs.Tables.{put}
use Rattle.r6_layout.specs.Shape.{Shape}
use Rattle.r6_layout.specs.Layout as layout
use Rattle.r6_stripe.specs.Holds.{Kind}
use Rattle.r6_world.specs.PlainArray as world
use Rattle.r6_world.specs.Tasks.{Hold, Task, Rebuild, Wrote}
use Rattle.r6_frames.specs.declared.frames.Job.{Job}
use Rattle.r6_frames.specs.declared.frames.Job.TheVariants as job
use Rattle.r6_world.specs.ShardStates as shards
use Rattle.r6_world.specs.ShardStates.{Shard, Held}
use Rattle.r6_world.specs.Changes.{Finish, finished, slots_after, counted, after}
use Rattle.r6_world.specs.Steps.{GoesOn, Through}
use Rattle.r6_world.specs.declared.values.Request.{Request}
use Rattle.r6_frames.specs.declared.finish.Ended.{Ended}
use Rattle.r6_frames.specs.declared.finish.Ended.TheVariants as ended
use Rattle.r6_frames.specs.declared.frames.Scrub.TheVariants as scrub
use Rattle.r6_frames.specs.declared.frames.HeldRow.{HeldRow}
use Rattle.r6_frames.specs.declared.rebuilt.Target.{Target}
use Rattle.r6_frames.specs.declared.frames.Frames.{Frames}
use Rattle.r6_core.specs.declared.counts.Counts.{Counts}
use Rattle.r6_core.specs.declared.state.State.{State}
use Rattle.r6_world.specs.Values.{numbered}
use Rattle.r6_frames.specs.Views.{batch_in, held_for, held_requests, is_rebuild, is_scrub, task_by, kind_in, hold_at, hold_of, requests_by, AreLive}
use Rattle.r6_frames.specs.Calls.{requests_of as requests_ended, entry_of, ended_outcome, ended_task, Ends, IsElsewhere, HasOneBlock, KeepsOthers}
use Rattle.r6_frames.specs.Owed.{owed, IsDriven, IsOver, most_owed}
use Rattle.r6_frames.specs.Sound as held
use Rattle.r6_frames.specs.Sound.{IsJob}
use Rattle.r6_frames.specs.Writes.{Entry, IsWriteIn, entries_of, request_of}
use Rattle.r6_frames.proofs.Batches.{entries_back}
use Rattle.r6_core.specs.Shards.{counts_of, state_of, rest_of, layout_in, framed_requests, requests_of, waiting_request, finished_request, replied_requests, waiting_of}
use Rattle.r6_core.specs.Order.{AreOfOneRow}
use Rattle.r6_core.specs.Inside.{AreBounded, FreesRoom, HasPlace, IsPlainEnd, IsSound, count_rows, is_turn, is_written, numbered_op, one_if}
use Rattle.r6_core.specs.Limits.{count_unheld}
use Rattle.r6_frames.proofs.Lists.{Entries}
use Rattle.r6_core.proofs.CountedRows.{row_weight, rows_counted_but_one}
use Rattle.r6_core.specs.declared.queued.Queued.{Queued}
use Rattle.r6_core.proofs.Unerred.{waits_so}
use Rattle.r6_core.proofs.EndedTogether.{AreEnded, IsAnsweredBy, ended_together}
use Rattle.r6_core.proofs.FreedRooms.{capacity_kept, place_left, rooms_freed}
use Rattle.r6_core.proofs.Scrubs.{Weighs, counted_few, requests_for, requests_of_end, requests_of_job, scrub_weight, scrubs_weigh, turn_weight, turns_weigh, write_weight, writes_weigh}
use Rattle.r6_core.proofs.HeldRequests.{all_read}
use Rattle.r6_frames.specs.Directs.{is_stopped, read_requests, stage_of}
use Rattle.r6_core.proofs.Replied.{all_replied, length_replied, more_replied}
use Rattle.r6_core.proofs.Passed.{to_front}
use Rattle.r6_core.proofs.Throughs.{through_one}
use Rattle.r6_core.proofs.Kept.{own_rows_kept, requests_kept, sizes_kept}
use Rattle.r6_core.proofs.Going.{no_rest, SlotsStay}
use Rattle.r6_core.proofs.SlotsKept.{calls_same}
use Rattle.r6_frames.proofs.Held.{all_append}

-- ---- the requests of other frames

waiting_elsewhere : (frame : ℕ) (rs : List Queued) → AllByRecursion (IsElsewhere frame) (map waiting_request rs)
waiting_elsewhere frame [] = tt
waiting_elsewhere frame (r ∷ rs) = (waits_so (λ x. x ≢ Held frame) (λ e. (cc)) (λ e. (cc)) r.erred, waiting_elsewhere frame rs)

read_elsewhere : (frame : ℕ) (stopped : Bool) (token : ℕ) → stage_of stopped token ≢ Held frame
read_elsewhere frame true token = λ e. (cc)
read_elsewhere frame false token = λ e. (cc)

reads_elsewhere : (frame : ℕ) (fs : Frames) → AllByRecursion (IsElsewhere frame) (read_requests fs)
reads_elsewhere frame fs = all_read (IsElsewhere frame) fs.slots (λ r. read_elsewhere frame (is_stopped fs.slots r) r.token) fs.directs

-- ---- what a hold's end leaves of the slots

slots_kept : (s : Shard) (h : Hold) (e : Ended) → IsPlainEnd e → slots_after s h (ended_task e) (ended_outcome e) ≡ s.slot
slots_kept s h (ended.Read served buffer) plain = refl
slots_kept s h (ended.Wrote writes) plain = refl
slots_kept s h (ended.Classed scrub.Check class) plain = refl
slots_kept s h (ended.Classed scrub.Repair class) plain = refl
slots_kept s h (ended.Skipped scrub.Check) plain = refl
slots_kept s h (ended.Skipped scrub.Repair) plain = refl
slots_kept s h (ended.Rebuilt target row) plain = absurd plain
slots_kept s h (ended.GivenUp target) plain = refl

-- a hold that ends leaves the slots as they are
pub ends_still : (old fs : Frames) (frame : ℕ) (e : Ended) → Ends old frame e fs → SlotsStay old fs
ends_still old fs frame e ends =
    let is = ends.shard.2 no_rest in
    (ap (λ (x : Shard). x.slot) is, ap (λ (x : Shard). x.saw_failed) is)

none_of_mapped : {A B : Type 0} (f : A → B) (o : Option A) → option_map f o ≡ None → o ≡ None
none_of_mapped f None e = refl
none_of_mapped f (Some a) e = absurd (cc)

-- and its frame without a row
pub freed : (old fs : Frames) (frame : ℕ) (e : Ended) → Ends old frame e fs → hold_at fs.uses frame ≡ None
freed old fs frame e ends =
    let is : option_map hold_of (hold_at fs.uses frame) ≡ cond (nat_eq frame frame) None (option_map hold_of (hold_at old.uses frame)) =
    ap (λ (x : Shard). x.frame frame) (ends.shard.2 no_rest) in
    none_of_mapped hold_of (hold_at fs.uses frame) (is ∙ ap (λ (b : Bool). cond b None (option_map hold_of (hold_at old.uses frame))) (eq-eqb frame frame refl))

pub none_rested : (fs : Frames) (frame : ℕ) → hold_at fs.uses frame ≡ None → IsDriven fs frame × (IsOver fs frame → ⊥)
none_rested fs frame none = (λ h is. absurd (cc), λ over. let is = over.1 in absurd (cc))

-- what ends is what the row was held for
ended_for : (old fs : Frames) (frame : ℕ) (e : Ended) (h : HeldRow) → Ends old frame e fs → hold_at old.uses frame ≡ Some h
    → task_by h.job (kind_in h) ≡ ended_task e
ended_for old fs frame e h ends is =
    let there : Some (hold_of h) ≡ Some ends.hold = sym (ap (option_map hold_of) is) ∙ (ends.may.2 no_rest).0 in
    let same : hold_of h ≡ ends.hold = cc in
    ap (λ (x : Hold). x.task) same ∙ ends.task

-- only a rebuild ends with a rebuilt row
rebuild_by : (j : Job) (kind : Kind) (slot generation : ℕ) → task_by j kind ≡ Rebuild slot generation → is_rebuild j ≡ true
rebuild_by (job.Read served buffer) kind slot generation is = absurd (cc)
rebuild_by (job.Write served) kind slot generation is = absurd (cc)
rebuild_by (job.Scrub scrub.Check) kind slot generation is = absurd (cc)
rebuild_by (job.Scrub scrub.Repair) kind slot generation is = absurd (cc)
rebuild_by (job.Rebuild target) kind slot generation is = refl

pub rebuild_ended : (old fs : Frames) (frame : ℕ) (target : Target) (row : ℕ) (h : HeldRow) → Ends old frame (ended.Rebuilt target row) fs → hold_at old.uses frame ≡ Some h
    → is_rebuild h.job ≡ true
rebuild_ended old fs frame target row h ends is = rebuild_by h.job (kind_in h) target.slot target.generation (ended_for old fs frame (ended.Rebuilt target row) h ends is)

pub ended_requests : (old fs : Frames) (frame : ℕ) (e : Ended) (h : HeldRow) → Ends old frame e fs → hold_at old.uses frame ≡ Some h
    → map numbered_op (requests_ended e) ≡ requests_by h.job (kind_in h)
ended_requests old fs frame e h ends is =
    sym (requests_of_end e) ∙ ap requests_for (sym (ended_for old fs frame e h ends is)) ∙ requests_of_job h.job (kind_in h)

ended_weight : (test : Job → Bool) (weight : Task → ℕ) → Weighs test weight → (old fs : Frames) (frame : ℕ) (e : Ended) (h : HeldRow)
    → Ends old frame e fs → hold_at old.uses frame ≡ Some h → row_weight test old.uses frame ≡ weight (ended_task e)
ended_weight test weight weighs old fs frame e h ends is =
    ap (λ o. one_if test (option_map held_for o)) is ∙ weighs h.row h.job (kind_in h) ∙ ap weight (ended_for old fs frame e h ends is)

-- ---- the requests of a hold are for blocks of its row

writes_in : (shape : Shape) (row : ℕ) (writes : List Entry) → AllByRecursion (IsWriteIn shape row) writes
    → AllByRecursion (λ (r : ℕ × world.Op). layout.row_of shape (world.block_of r.1) ≡ row) (map numbered (map request_of writes))
writes_in shape row [] all = tt
writes_in shape row (write ∷ writes) all = (sym all.0.in_row, writes_in shape row writes all.1)

job_rows : (shape : Shape) (row : ℕ) (j : Job) (kind : Kind) → IsJob shape row j kind → AllByRecursion (λ (r : ℕ × world.Op). layout.row_of shape (world.block_of r.1) ≡ row) (requests_by j kind)
job_rows shape row (job.Read served buffer) kind is = (sym is.0.1, tt)
job_rows shape row (job.Write served) kind is =
    subst (λ (writes : List Entry). AllByRecursion (λ (r : ℕ × world.Op). layout.row_of shape (world.block_of r.1) ≡ row) (map numbered (map request_of writes)))
    (sym (entries_back is.0) ∙ (λ i. entries_of (sym is.1 i) (batch_in (sym is.2 i))))
    (writes_in shape row is.0 (recursion_from_All (IsWriteIn shape row) is.0 is.3))
job_rows shape row (job.Scrub scrub) kind is = tt
job_rows shape row (job.Rebuild target) kind is = tt

all_numbered : (P : ℕ × world.Op → Type 0) (rs : List Request) → AllByRecursion P (map numbered_op rs) → AllByRecursion (λ r. P (numbered_op r)) rs
all_numbered P [] all = tt
all_numbered P (r ∷ rs) all = (all.0, all_numbered P rs all.1)

pub one_row_ended : (s : State) (frame : ℕ) (e : Ended) (fs : Frames) (h : HeldRow) → IsSound s → Ends s.frames frame e fs → hold_at s.frames.uses frame ≡ Some h → AreOfOneRow (layout_in s) (requests_ended e)
one_row_ended s frame e fs h sound ends is =
    let shape = s.frames.geometry in
    let OfRow : ℕ × world.Op → Type 0 = λ r. layout.row_of shape (world.block_of r.1) ≡ h.row in
    let rows = job_rows shape h.row h.job (kind_in h) (sound.frames.frames.rows frame h is).job in
    (h.row, all_numbered OfRow (requests_ended e) (subst (AllByRecursion OfRow) (sym (ended_requests s.frames fs frame e h ends is)) rows))

-- ---- the requests when a hold ends

-- each has its answer in its buffer
all_written : (writes : List Entry) → AllByRecursion (IsAnsweredBy Wrote) (map request_of writes)
all_written [] = tt
all_written (write ∷ writes) = (refl, all_written writes)

all_answered : (e : Ended) → AllByRecursion (IsAnsweredBy (ended_outcome e)) (requests_ended e)
all_answered (ended.Read served buffer) = (refl, tt)
all_answered (ended.Wrote writes) = all_written writes
all_answered (ended.Classed scrub class) = tt
all_answered (ended.Skipped scrub) = tt
all_answered (ended.Rebuilt target row) = tt
all_answered (ended.GivenUp target) = tt

abbrev pub ended_state : State → Frames → Buffer Request → Counts → Vec (List Entry) → State
ended_state s fs done counts rooms = record s { frames = fs; replies = done; counts = counts; rooms = rooms }

module _ (s : State) (frame : ℕ) (e : Ended) (fs : Frames) (done : Buffer Request) (counts : Counts) (rooms : Vec (List Entry)) (sound : IsSound s) (live : AreLive s.frames)
    (ends : Ends s.frames frame e fs) (last : done.items ≡ s.replies.items ++ requests_ended e) where
  abbrev new : State
  new = ended_state s fs done counts rooms

  abbrev w : Entries shards.Request
  w = map waiting_request (waiting_of s)

  abbrev p : Entries shards.Request
  p = replied_requests false s.released s.replies.items

  abbrev a : Entries shards.Request
  a = ends.leaves.0.before

  abbrev b : Entries shards.Request
  b = ends.leaves.0.behind

  abbrev d : Entries shards.Request
  d = read_requests s.frames

  -- those of the frame, before and behind it
  abbrev own : Entries shards.Request
  own = map (entry_of frame) (requests_ended e)

  abbrev over : Entries shards.Request
  over = map (finished_request false) (requests_ended e)

  -- and the others
  abbrev others : Entries shards.Request
  others = (w ++ a) ++ (b ++ (d ++ p))

  old_requests : requests_of s ≡ (w ++ a) ++ (own ++ (b ++ (d ++ p)))
  old_requests =
      (λ i. w ++ ((ends.leaves.0.with i ++ d) ++ replied_requests (live.1 i) s.released s.replies.items))
      ∙ (simp append_assoc)

  new_requests : requests_of new ≡ others ++ over
  new_requests =
      (λ i. w ++ ((ends.leaves.0.without i ++ ends.shard.3 i) ++ replied_requests (((ends_still s.frames fs frame e ends).1 ∙ live.1) i) s.released (last i)))
      ∙ ap (λ es. w ++ (((a ++ b) ++ d) ++ es)) (more_replied false s.released s.replies.items (requests_ended e) sound.requests.marked)
      ∙ (simp append_assoc)

  others_elsewhere : AllByRecursion (IsElsewhere frame) others
  others_elsewhere =
      let Fact = IsElsewhere frame in
      let replied = all_replied Fact false (λ x e. (cc)) (λ x e. (cc)) s.released s.replies.items in
      let parts : w ++ ((a ++ b) ++ (d ++ p)) ≡ others = simp append_assoc in
      subst (AllByRecursion Fact) parts
      (all_append Fact w ((a ++ b) ++ (d ++ p)) (waiting_elsewhere frame (waiting_of s))
      (all_append Fact (a ++ b) (d ++ p) ends.leaves.0.elsewhere (all_append Fact d p (reads_elsewhere frame s.frames) replied)))

  hold_ends : AreEnded frame (ended_outcome e) (requests_of s) (requests_of new)
  hold_ends =
      ended_together frame (ended_outcome e) (requests_ended e) (requests_of s) (requests_of new)
      (record {
        rest = others;
        was = subst (λ es. IsPermutation es (own ++ others)) (sym old_requests) (to_front (w ++ a) own (b ++ (d ++ p)));
        now = subst (λ es. IsPermutation es (over ++ others)) (sym new_requests) (IsPermutation-append_comm others over);
      })
      others_elsewhere (all_answered e) sound.requests.distinct

-- ---- the rows that are held when a hold ends

module _ (s : State) (frame : ℕ) (e : Ended) (fs : Frames) (h : HeldRow) (sound : IsSound s) (ends : Ends s.frames frame e fs) (is : hold_at s.frames.uses frame ≡ Some h)
    (frames : held.IsSound fs) (others : KeepsOthers s.frames frame fs) where
  -- a row less is held of which this is the weight
  fewer_rows : (test : Job → Bool) (weight : Task → ℕ) → Weighs test weight → count_rows test fs.uses + weight (ended_task e) ≡ count_rows test s.frames.uses
  fewer_rows test weight weighs =
      let rows = rows_counted_but_one test frame s.frames fs sound.frames frames others in
      let one = ended_weight test weight weighs s.frames fs frame e h ends is in
      let none : row_weight test fs.uses frame ≡ 0 = ap (λ o. one_if test (option_map held_for o)) (freed s.frames fs frame e ends) in
      omega (arith, rows, one, none)

  -- there is a place for the room of writes
  pub place_to_end : HasPlace e s.rooms
  place_to_end = place_left s e (count_rows is_written fs.uses) (fewer_rows is_written write_weight writes_weigh) sound.room.rooms sound.room.space

-- ---- the state when a hold ends

module _ (s : State) (frame : ℕ) (e : Ended) (fs : Frames) (done : Buffer Request) (counts : Counts) (rooms : Vec (List Entry)) (h : HeldRow) (sound : IsSound s) (live : AreLive s.frames)
    (ends : Ends s.frames frame e fs) (is : hold_at s.frames.uses frame ≡ Some h) (last : done.items ≡ s.replies.items ++ requests_ended e)
    (found : counts_of counts ≡ counted (counts_of s.counts) (ended_task e) (ended_outcome e)) where
  abbrev after_end : State
  after_end = ended_state s fs done counts rooms

  requests : AreEnded frame (ended_outcome e) (requests_of s) (requests_of after_end)
  requests = hold_ends s frame e fs done counts rooms sound live ends last

  -- the shard without the hold, its slots as they are
  abbrev pub left : Shard
  left =
      record (state_of s) {
        frame = put (state_of s).frame frame None;
        request = λ q. finished frame (ended_outcome e) ((state_of s).request q);
        counts = counted (state_of s).counts (ended_task e) (ended_outcome e);
      }

  pub ended_is : state_of after_end ≡ left
  ended_is =
      ends.shard.2 (rest_of after_end)
      ∙ (λ i. record (state_of s) { frame = put (state_of s).frame frame None; request = requests.now i; counts = found i })

  pub finish_is : after (layout_in s) (state_of s) (Finish frame ends.hold (ended_outcome e)) ≡ record left { slot = slots_after (state_of s) ends.hold (ended_task e) (ended_outcome e) }
  finish_is = λ i.
      record left {
        slot = slots_after (state_of s) ends.hold (ends.task i) (ended_outcome e);
        counts = counted (state_of s).counts (ends.task i) (ended_outcome e);
      }

  -- the hold's end is one change
  pub one_ends : IsPlainEnd e → Through (layout_in s) s.frames.shard GoesOn (state_of s) (state_of after_end)
  one_ends plain =
      let kept : record left { slot = slots_after (state_of s) ends.hold (ended_task e) (ended_outcome e) } ≡ left = λ i. record left { slot = slots_kept (state_of s) ends.hold e plain i } in
      through_one (layout_in s) s.frames.shard GoesOn (state_of s) (state_of after_end) (Finish frame ends.hold (ended_outcome e)) (record {}) (ends.may.2 (rest_of s))
      (ended_is ∙ sym (finish_is ∙ kept))

  -- the buffers of the requests are one block, as are those of the others
  sizes_ended : AllByRecursion (HasOneBlock s.frames.geometry) done.items
  sizes_ended =
      let One = HasOneBlock s.frames.geometry in
      subst (AllByRecursion One) (sym last) (all_append One s.replies.items (requests_ended e) sound.requests.sized (recursion_from_All One (requests_ended e) ends.leaves.1))

  counts_ended : held.IsSound fs → KeepsOthers s.frames frame fs → fs.commands.next ≡ s.frames.commands.next → AreBounded counts fs
  counts_ended frames others next =
      let turns = fewer_rows s frame e fs h sound ends is frames others is_turn turn_weight turns_weigh in
      let scrubs = fewer_rows s frame e fs h sound ends is frames others is_scrub scrub_weight scrubs_weigh in
      let few = counted_few s.counts counts e found in
      let found_few = few.0 in
      let passed_few = few.1 in
      record {
        found = omega (arith, turns, found_few, next, sound.counted.found);
        skipped = omega (arith, scrubs, passed_few, sound.counted.skipped);
      }

  pub ended_sound : held.IsSound fs → KeepsOthers s.frames frame fs → owed fs ≤ owed s.frames → fs.commands.next ≡ s.frames.commands.next → done.capacity ≡ s.replies.capacity
      → FreesRoom e s.rooms rooms → IsSound after_end
  ended_sound frames others fewer next capacity frees =
      let slots = ends_still s.frames fs frame e ends in
      record {
        frames = frames;
        requests = record {
          distinct = requests.distinct;
          numbered = requests.keeps (λ id. id < s.accepted) sound.requests.numbered;
          counted = requests.count ∙ sound.requests.counted;
          few = sound.requests.few;
          waiting = requests_kept s.frames fs (waiting_of s) ends.shard.0 ends.shard.1 sound.requests.waiting;
          sized = sizes_kept s.frames.geometry fs.geometry done.items ends.shard.0 sizes_ended;
          marked = let more = ap length last ∙ length-append s.replies.items (requests_ended e) in omega (arith, more, sound.requests.marked);
        };
        room = record {
          waiting = sound.room.waiting;
          causes = sound.room.causes;
          replies = capacity ∙ sound.room.replies;
          calls = sound.room.calls;
          few_calls = let out = calls_same s.frames fs slots.0 ends.shard.0 in omega (arith, out, sound.room.few_calls);
          rooms = rooms_freed s after_end sound.room.rooms e (fewer_rows s frame e fs h sound ends is frames others is_written write_weight writes_weigh) frees;
          space = let wide = capacity_kept s.rooms rooms e frees in omega (arith, wide, sound.room.space);
        };
        tokens =
            let slots : most_owed fs.geometry.slots * count_unheld after_end ≡ most_owed s.frames.geometry.slots * count_unheld s =
            λ i. most_owed (ends.shard.0 i).slots * (length (waiting_of s) + length (ends.shard.3 i)) in
            omega (arith, slots, fewer, next, sound.tokens);
        accepted = sound.accepted;
        counted = counts_ended frames others next;
        next_rows = own_rows_kept s.frames fs s.check_row s.repair_row ends.shard.0 ends.shard.1 sound.next_rows;
      }

-- there is room for the replies of the requests
pub room_to_end : (s : State) (frame : ℕ) (e : Ended) (fs : Frames) → IsSound s → AreLive s.frames → Ends s.frames frame e fs
    → length s.replies.items + length (requests_ended e) ≤ s.replies.capacity
room_to_end s frame e fs sound live ends =
    let done = buffer (s.replies.items ++ requests_ended e) s.replies.capacity in
    let ended = hold_ends s frame e fs done s.counts s.rooms sound live ends refl in
    let w = map waiting_request (waiting_of s) in
    let p = replied_requests fs.saw_failed s.released done.items in
    let all = length-append w (framed_requests fs ++ p) in
    let framed = length-append (framed_requests fs) p in
    let held = length-append (held_requests fs) (read_requests fs) in
    let many = length_replied fs.saw_failed s.released done.items in
    let long = length-append s.replies.items (requests_ended e) in
    omega (arith, all, framed, held, many, long, ended.count, sound.requests.counted, sound.requests.few, sound.room.replies)
