-- One of the requests that wait is read directly.
use Rattle.std.proofs.Common.{◌≡◌, Bool, ℕ, ◌+◌, ◌*◌, ◌<◌, ◌≤◌, List, [], ◌∷◌, ◌++◌, length, map, refl, sym, ap, subst, ◌∙◌, Option, Some, inl, arith, append_assoc, length-append}
use Rattle.std.specs.List.{IsDistinct, AllByRecursion}
use Rattle.std.specs.Map.{keys_of}
use Rattle.std.specs.Prelude.{nat_eq}
use Rattle.std.proofs.lemmas.List.{map-append}
use Rattle.r6_kernels.specs.Blocks.{IsBlock}
use Rattle.r6_layout.specs.Shape.{blocks}
use Rattle.r6_layout.specs.Layout.{index_of, row_of, shard_of, slot_at}
use Rattle.r6_layout.specs.declared.place.Place.{Place}
use Rattle.r6_world.specs.PlainArray as world
use Rattle.r6_world.specs.PlainArray.{block_of}
use Rattle.r6_world.specs.Layouts.{Layout}
use Rattle.r6_world.specs.ShardStates as shards
use Rattle.r6_world.specs.declared.values.Request.{Request}
use Rattle.r6_core.specs.Queued.{request_in, waiting_stage}
use Rattle.r6_world.specs.ShardStates.{Shard, Reading, Waiting}
use Rattle.r6_world.specs.Changes.{Read_direct, Allowed, after}
use Rattle.r6_world.specs.Steps.{Through, Scans}
use Rattle.r6_world.specs.declared.values.Op.{Op}
use Rattle.r6_world.specs.declared.values.Op.TheVariants as op
use Rattle.r6_core.specs.declared.queued.Queued.{Queued}
use Rattle.r6_frames.specs.declared.frames.Frames.{Frames}
use Rattle.r6_frames.specs.declared.frames.Job.{Job}
use Rattle.r6_frames.specs.Slots.{states_of}
use Rattle.r6_frames.specs.Directs.{read_requests}
use Rattle.r6_frames.specs.Reads.{IsReadable, ReadsDirectly, StandsIn, TakesDirect, reading}
use Rattle.r6_world.specs.Values.{buffer_of, op_of}
use Rattle.r6_frames.specs.Views.{hold_at, held_requests, is_scrub, requests_from, shard_with, AreLive}
use Rattle.r6_frames.specs.Calls.{IsPlaceOf, IsRequestOf, KeepsHolds, KeepsSlots}
use Rattle.r6_frames.specs.Owed.{owed, owed_in, most_owed}
use Rattle.r6_frames.specs.Sound as held
use Rattle.r6_frames.proofs.Lists.{Entries}
use Rattle.r6_core.specs.declared.state.State.{State}
use Rattle.r6_core.specs.Shards.{layout_in, replied_requests, requests_of, rest_of, state_of, waiting_request, waiting_of}
use Rattle.r6_core.specs.Order.{IsRead, Starts}
use Rattle.r6_core.specs.Inside.{AreReadOn, CanRead, IsLike, IsOpOf, IsReadOn, IsReadableAt, IsSettled, IsSound, IsSyncedRead, count_rows, is_turn, served_of}
use Rattle.r6_core.specs.Limits.{count_unheld, most_tokens}
use Rattle.r6_waiters.specs.Line.{Line}
use Rattle.r6_core.proofs.PassedOn.{passed_same}
use Rattle.r6_core.proofs.Rooms.{rooms_same}
use Rattle.r6_core.proofs.Accepting.{few_unheld, owed_in-le, room_for_all}
use Rattle.r6_core.proofs.Answering.{rested_kept}
use Rattle.r6_core.proofs.CountedRows.{counted_still}
use Rattle.r6_core.proofs.Kept.{own_rows_kept, requests_kept, sizes_kept}
use Rattle.r6_core.proofs.Passed.{Passed, passed, all-middle}
use Rattle.r6_core.proofs.SlotsKept.{calls_same}
use Rattle.r6_core.proofs.Starting.{IsLeft, longer, with_frames}
use Rattle.r6_core.proofs.Throughs.{through_one}
use Rattle.r6_core.specs.Inside.{IsQueuedOf}
use Rattle.std.specs.Prelude.{false}
use Rattle.r6_frames.proofs.Held.{all_append}

read_op : (fs : Frames) (o : Op) → IsSyncedRead fs o → op_of o ≡ world.Op.Read (block_of (op_of o))
read_op fs (op.Read block buffer) synced = refl
read_op fs (op.Write block buffer) synced = absurd synced

as_read : (l : Layout) (n : ℕ) (old new : Shard) (id : ℕ) (o : Op) (direct generation : ℕ) → op_of o ≡ world.Op.Read (block_of (op_of o))
    → Allowed l n old (Read_direct direct id (block_of (op_of o)) generation) → new ≡ after l old (Read_direct direct id (block_of (op_of o)) generation)
    → IsRead l n old id o new
as_read l n old new id (op.Read block buffer) direct generation is allowed becomes = (direct, generation, allowed, becomes)
as_read l n old new id (op.Write block buffer) direct generation is allowed becomes = absurd (cc)

pub record IsReadStart (s : State) (before : List Queued) (request : Queued) (behind : List Queued) (line : Line Queued) (number : ℕ) (new : Frames) : Type 0 where
  pub left : IsLeft s (before ++ behind) line
  pub items : waiting_of s ≡ before ++ request ∷ behind
  pub unerred : request.erred ≡ false
  pub can : CanRead s.frames request.op number
  pub sound : held.IsSound new
  pub live : AreLive new
  pub reads : ReadsDirectly s.frames number (served_of (request_in request)) new
  pub holds : KeepsHolds s.frames new
  pub slots : KeepsSlots s.frames new
  pub taken : TakesDirect s.frames number new
  pub next : new.commands.next ≡ s.frames.commands.next + 1

module _ (s : State) (before : List Queued) (request : Queued) (behind : List Queued) (line : Line Queued) (number : ℕ) (new : Frames) (is : IsReadStart s before request behind line number new) where
  abbrev rest : List Queued
  rest = before ++ behind

  abbrev block : ℕ
  block = block_of (op_of request.op)

  abbrev read : State
  read = with_frames s line new

  is_read_op : op_of request.op ≡ world.Op.Read block
  is_read_op = read_op s.frames request.op is.can.1

  -- the request goes from those that wait to those that are read directly
  requests_read : IsDistinct nat_eq (keys_of (requests_of s))
      → Passed (requests_of s) (requests_of read) request.id (waiting_request request).1 (record { op = world.Op.Read block; stage = Reading s.frames.commands.next })
  requests_read distinct =
      let to = is.reads.requests in
      let tail : Entries shards.Request = replied_requests s.frames.saw_failed s.released s.replies.items in
      let h = held_requests s.frames in
      let first : Entries shards.Request = map waiting_request before in
      let last : Entries shards.Request = map waiting_request behind in
      let entry = reading request.id block (Reading s.frames.commands.next) in
      passed first (last ++ ((h ++ (to.before ++ to.behind)) ++ tail)) ((first ++ last) ++ (h ++ to.before)) (to.behind ++ tail) request.id _ _ _ _
      ((λ i. map waiting_request (is.items i) ++ ((h ++ to.without i) ++ tail))
      ∙ ap (λ (es : Entries shards.Request). es ++ ((h ++ (to.before ++ to.behind)) ++ tail)) (map-append waiting_request before (request ∷ behind)) ∙ (simp append_assoc))
      ((λ i. map waiting_request (is.left.requests i) ++ ((requests_from 0 (is.holds i) ++ to.with i) ++ replied_requests (is.slots.1 i) s.released s.replies.items))
      ∙ ap (λ (es : Entries shards.Request). es ++ ((h ++ (to.before ++ entry ∷ to.behind)) ++ tail)) (map-append waiting_request before behind)
      ∙ (simp append_assoc))
      (simp append_assoc)
      distinct

  stands : IsSound s → StandsIn (rest_of s) (reading request.id block Waiting)
  stands sound = (requests_read sound.requests.distinct).was ∙ (λ i. Some (record { op = is_read_op i; stage = waiting_stage (is.unerred i) }))

  read_state : (sound : IsSound s) → state_of read ≡ after (layout_in s) (state_of s) (Read_direct (64 + number) request.id block is.reads.generation)
  read_state sound =
      ap (λ (request : ℕ → Option shards.Request). shard_with (record (rest_of s) { request = request }) new) (requests_read sound.requests.distinct).now
      ∙ (is.reads.shard (rest_of s) (stands sound)).1

  pub read_started : (others : List Queued) → IsSound s → Starts (layout_in s) s.frames.shard (state_of s) request others (state_of read)
  read_started others sound =
      inl (
        is.unerred,
        as_read (layout_in s) s.frames.shard (state_of s) (state_of read) request.id request.op (64 + number) is.reads.generation is_read_op
            (is.reads.shard (rest_of s) (stands sound)).0 (read_state sound),
      )

  pub read_leads : IsSound s → Through (layout_in s) s.frames.shard Scans (state_of s) (state_of read)
  read_leads sound =
      through_one (layout_in s) s.frames.shard Scans (state_of s) (state_of read) (Read_direct (64 + number) request.id block is.reads.generation)
      (record {}) (is.reads.shard (rest_of s) (stands sound)).0 (read_state sound)

  more_reads : length (read_requests new) ≡ length (read_requests s.frames) + 1
  more_reads =
      let few = ap length is.reads.requests.without ∙ length-append is.reads.requests.before is.reads.requests.behind in
      let many = ap length is.reads.requests.with ∙ length-append is.reads.requests.before (reading request.id block (Reading s.frames.commands.next) ∷ is.reads.requests.behind) in
      omega (arith, few, many)

  read_tokens : IsSound s → new.commands.next + owed new + most_owed new.geometry.slots * count_unheld read ≤ most_tokens
  read_tokens sound =
      let owes = owed_in-le s.frames.geometry s.frames.shard s.frames.slots s.frames.uses sound.frames.shape sound.frames.frames.rows in
      let room = room_for_all s.frames.geometry.slots (count_unheld s) (length s.frames.uses) (owed s.frames) sound.frames.shape.slots_allowed.1 owes sound.frames.frames.count (few_unheld s sound) in
      let same : owed new ≡ owed s.frames = ap (λ held. owed_in held) is.holds in
      let more = more_reads in
      let fewer = ap length is.items ∙ longer before request behind in
      let many : count_unheld read ≡ count_unheld s = omega (arith, more, fewer, ap length is.left.requests) in
      let most : most_owed new.geometry.slots * count_unheld read ≡ most_owed s.frames.geometry.slots * count_unheld s = λ i. most_owed (is.reads.same.0 i).slots * many i in
      let given = is.can.2.0 in
      let next = is.next in
      omega (arith, room, same, most, given, next)

  reading_now : AreReadOn s.frames → AreReadOn new
  reading_now on =
      let to = is.reads.requests in
      let parts = subst (AllByRecursion IsReadOn) to.without on in
      subst (AllByRecursion IsReadOn) (sym to.with)
      (all_append IsReadOn to.before (reading request.id block (Reading s.frames.commands.next) ∷ to.behind) (first to.before to.behind parts) ((λ e. (cc)), last to.before to.behind parts))
    where
      first : (xs ys : Entries shards.Request) → AllByRecursion IsReadOn (xs ++ ys) → AllByRecursion IsReadOn xs
      first [] ys all = tt
      first (x ∷ xs) ys all = (all.0, first xs ys all.1)

      last : (xs ys : Entries shards.Request) → AllByRecursion IsReadOn (xs ++ ys) → AllByRecursion IsReadOn ys
      last [] ys all = all
      last (x ∷ xs) ys all = last xs ys all.1

  own_waiting : IsSound s → AllByRecursion (IsQueuedOf s.frames) rest
  own_waiting sound = (all-middle (IsQueuedOf s.frames) before request behind (subst (λ rs. AllByRecursion (IsQueuedOf s.frames) rs) is.items sound.requests.waiting)).1

  pub read_core : IsSettled s → IsSettled read
  read_core core =
      let sound = core.sound in
      let requests = requests_read sound.requests.distinct in
      let geometry = is.reads.same.0 in
      let shard = is.reads.same.1 in
      record {
        sound = record {
          frames = is.sound;
          requests = record {
            distinct = requests.distinct;
            numbered = requests.keeps (λ id. id < s.accepted) sound.requests.numbered;
            counted = requests.count ∙ sound.requests.counted;
            few = sound.requests.few;
            waiting = subst (AllByRecursion (IsQueuedOf new)) (sym is.left.requests) (requests_kept s.frames new rest geometry shard (own_waiting sound));
            sized = sizes_kept s.frames.geometry new.geometry s.replies.items geometry sound.requests.sized;
            marked = sound.requests.marked;
          };
          room = record {
            waiting = is.left.capacity ∙ sound.room.waiting;
            causes = is.left.causes ∙ sound.room.causes;
            replies = sound.room.replies;
            calls = sound.room.calls;
            few_calls = let same = calls_same s.frames new (ap states_of is.slots.0) geometry in omega (arith, same, sound.room.few_calls);
            rooms = rooms_same s.rooms.items s.frames new is.holds sound.room.rooms;
            space = sound.room.space;
          };
          tokens = read_tokens sound;
          accepted = sound.accepted;
          counted =
              let rows = λ (test : Job → Bool). ap (λ held. count_rows test held) is.holds in
              let next = is.next in
              counted_still s.counts s.frames new sound.counted (let n = rows is_turn in omega (arith, n)) (let n = rows is_scrub in omega (arith, n)) (omega (arith, next));
          next_rows = own_rows_kept s.frames new s.check_row s.repair_row geometry shard sound.next_rows;
        };
        reading = reading_now core.reading;
        rested = λ live f. rested_kept s.frames new f (ap (λ held. hold_at held f) is.holds) (core.rested is.can.0 f);
      }

  pub read_like : IsLike s.frames new
  read_like = record { geometry = is.reads.same.0; live = λ live. is.can.0; slots = ap states_of is.slots.0; passed = passed_same s.frames new is.reads.same.0 is.holds; tokens = let next = is.next in omega arith }

-- ---- what the frames are asked

pub slot_of_place : (fs : Frames) (o : Op) (place : Place) → IsPlaceOf fs.geometry o place
    → place.slot ≡ slot_at fs.geometry (row_of fs.geometry (block_of (op_of o))) (index_of fs.geometry (block_of (op_of o)))
slot_of_place fs o place at = at.slot ∙ (λ i. slot_at fs.geometry (at.row i) (at.index i))

-- the place of a block is one of its row and slot
readable_is : (fs : Frames) (block : ℕ) (buffer : List ℕ) (place : Place) → IsPlaceOf fs.geometry (op.Read block buffer) place
    → IsReadableAt fs place.row place.slot ≡ IsSyncedRead fs (op.Read block buffer)
readable_is fs block buffer place at = λ i. IsReadableAt fs (at.row i) (slot_of_place fs (op.Read block buffer) place at i)

pub synced_at : (fs : Frames) (block : ℕ) (buffer : List ℕ) (place : Place) → IsPlaceOf fs.geometry (op.Read block buffer) place
    → IsSyncedRead fs (op.Read block buffer) → IsReadableAt fs place.row place.slot
synced_at fs block buffer place at synced = subst (λ (X : Type 0). X) (sym (readable_is fs block buffer place at)) synced

pub own_op : (fs : Frames) (request : Request) → IsRequestOf fs request → IsOpOf fs request.op
own_op fs request own = record { there = own.there; own = own.own }

module _ (fs : Frames) (request : Request) (block : ℕ) (buffer : List ℕ) (is : request.op ≡ op.Read block buffer) where
  pub readable : IsRequestOf fs request → IsReadable fs (record { id = request.id; block = block }) buffer
  readable own = record {
    there = subst (λ (o : Op). block_of (op_of o) < blocks fs.geometry) is own.there;
    own = subst (λ (o : Op). shard_of fs.geometry (row_of fs.geometry (block_of (op_of o))) ≡ fs.shard) is own.own;
    sized = subst (λ (o : Op). IsBlock fs.geometry.block (buffer_of o)) is own.sized;
  }

  pub place_for : (place : Place) → IsPlaceOf fs.geometry request.op place → IsPlaceOf fs.geometry (op.Read block buffer) place
  place_for place at = subst (λ (o : Op). IsPlaceOf fs.geometry o place) is at

  pub synced_for : (place : Place) → IsPlaceOf fs.geometry request.op place → IsSyncedRead fs request.op
      → IsReadableAt fs place.row place.slot
  synced_for place at synced =
      let here = place_for place at in
      synced_at fs block buffer place here (subst (IsSyncedRead fs) is synced)

  pub served_is : record { id = request.id; block = block } ≡ served_of request
  served_is = ap (λ (o : Op). record { id = request.id; block = block_of (op_of o) }) (sym is)
