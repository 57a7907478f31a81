-- What a hold does for the oldest request that waits for a cause, and for one that was just accepted.
use Rattle.std.proofs.Common.{◌≡◌, ℕ, ◌+◌, ◌*◌, ◌^◌, ◌<◌, ◌≤◌, map, length, None, List, [], ◌∷◌, ◌++◌, refl, sym, ap, subst, ◌∙◌, Option, Some, IsPermutation, arith}
use Rattle.std.specs.List.{AllByRecursion}
use Rattle.r6_frames.specs.declared.frames.Frames.{Frames}
use Rattle.std.proofs.Math.Nat.{mul-le-mul_left}
use Rattle.std.specs.Prelude.{vec_capacity}
use Rattle.r6_world.specs.ShardStates as shards
use Rattle.r6_world.specs.Tasks.{Task}
use Rattle.r6_world.specs.declared.values.Op.{Op}
use Rattle.r6_world.specs.declared.values.Op.TheVariants as op
use Rattle.r6_world.specs.declared.values.Request.{Request}
use Rattle.r6_world.specs.Values.{buffer_of, op_of}
use Rattle.r6_frames.specs.Views.{AreLive}
use Rattle.r6_waiters.specs.Line.{Entries, Line, capacity_of, causes_of, entries_of, oldest_of, with_entries, without_oldest}
use Rattle.r6_core.specs.declared.state.State.{State}
use Rattle.r6_core.specs.declared.scan.Room.TheVariants as room
use Rattle.std.specs.Prelude.{false}
use Rattle.r6_frames.specs.Calls.{Begins}
use Rattle.r6_core.specs.Batches.{block_written}
use Rattle.r6_core.specs.declared.queued.Queued.{Queued}
use Rattle.r6_core.specs.Queued.{request_in}
use Rattle.r6_core.specs.Inside.{IsQueuedOf, row_for, waited}
use Rattle.r6_core.proofs.Unerred.{requests_waited, write_unerred}
use Rattle.r6_core.specs.Shards.{requests_in, state_of, waiting_of}
use Rattle.r6_core.specs.Inside.{CanHold, IsSyncedRead, Leads, StartsWith, IsReadDirectly, HoldsFor, IsForAll, IsSettled, IsSound, LeavesLine, others_in}
use Rattle.r6_core.specs.Limits.{count_unheld, most_tokens}
use Rattle.r6_core.proofs.BatchStarts.{read_alone, read_is_served, read_leaves, writes_are_served, write_alone, writes_leave, writes_of_all}
use Rattle.r6_core.proofs.HeldSettled.{HasDriven, begun_like, begun_settled, begun_takes}
use Rattle.r6_core.proofs.HeldStarts.{HasBegun, IsServed, begun_leads, begun_starts, read_served}
use Rattle.r6_core.proofs.Joined.{values}
use Rattle.r6_world.specs.Steps.{Scans}
use Rattle.r6_frames.specs.Owed.{last_token, owed, most_owed}
use Rattle.r6_core.proofs.RowWrites.{entry_in, entry_back}
use Rattle.r6_core.specs.Turns.{IsWaiting}
use Rattle.r6_world.specs.PlainArray.{block_of}
use Rattle.r6_layout.specs.Layout as layout
use Rattle.r6_frames.specs.Writes.{request_of, write_task}

-- the tokens suffice for one hold more
pub one_more_hold : (s : State) → IsSound s → 1 ≤ length (waiting_of s) → last_token s.frames + most_owed s.frames.geometry.slots < 2 ^ 63
one_more_hold s sound some =
    let slots = s.frames.geometry.slots in
    let one : 1 ≤ count_unheld s = omega (arith, some) in
    let each : most_owed slots * 1 ≤ most_owed slots * count_unheld s = mul-le-mul_left (most_owed slots) one in
    few s.frames.commands.next (owed s.frames) (most_owed slots) (most_owed slots * count_unheld s) (omega (arith, each)) sound.tokens
  where
    few : (n o each all : ℕ) → each ≤ all → n + o + all ≤ most_tokens → n + o + each < 2 ^ 63
    few n o each all a b = omega arith

-- all entries are of the shard
pub entries_own : (fs : Frames) (es : Entries Queued) → AllByRecursion (IsQueuedOf fs) (values es) → AllByRecursion (λ entry. IsQueuedOf fs entry.1) es
entries_own fs [] all = tt
entries_own fs (entry ∷ es) all = (all.0, entries_own fs es all.1)

-- ---- what the frames and the rooms are then

module _ (s : State) (line : Line Queued) (near : Option (List ℕ)) (frame : ℕ) (request : Queued) (new : State) (holds : HoldsFor near frame (record s { waiting = line }) (request_in request) new) where
  pub held_driven : IsSound s → capacity_of new.waiting ≡ capacity_of s.waiting → causes_of new.waiting ≡ causes_of s.waiting → HasDriven s new.waiting frame holds.mid.frames new.frames new
  held_driven sound capacity causes =
      let begun = holds.begins in
      record {
        rooms = holds.rooms;
        space = subst (λ n. shards.frames ≤ n) (sym (ap (λ (x : State). vec_capacity x.rooms) holds.rest ∙ begun.space)) sound.room.space;
        capacity = capacity;
        causes = causes;
        begun_sound = begun.sound;
        begun_others = begun.others;
        begun_owed = begun.owed;
        sound = holds.sound;
        driven = holds.driven;
        others = holds.others;
        rows = holds.rows;
        owes = holds.owes;
        goes_out = holds.goes_out;
        directs = holds.directs ∙ begun.directs;
      }

  pub held_begun : (others served : List Queued) → AreLive s.frames → IsServed s request others holds.begins.task served → holds.begins.served ≡ map request_in served
      → IsPermutation (waiting_of s) (served ++ requests_in new.waiting) → CanHold s.frames (row_for s.frames request.op) frame
      → HasBegun s request others holds.begins.task served new.waiting (requests_in new.waiting) frame holds.mid.frames new.frames
  held_begun others served live serves same items can =
      record {
        left = refl;
        items = items;
        serves = serves;
        can = can;
        begins = subst (λ (rs : List Request). Begins s.frames frame (row_for s.frames request.op) holds.begins.task rs holds.mid.frames) same holds.begins.begins;
        drives = holds.drives;
        requests = holds.requests;
        unfailed = holds.live.1 ∙ sym live.1;
      }

  pub held_state : new ≡ record s { waiting = new.waiting; frames = new.frames; rooms = new.rooms }
  held_state =
      let begun = holds.begins.rest in
      let waits : new.waiting ≡ holds.mid.waiting = ap (λ (x : State). x.waiting) holds.rest in
      let rooms : new.rooms ≡ holds.mid.rooms = ap (λ (x : State). x.rooms) holds.rest in
      holds.rest ∙ ap (λ (x : State). record x { frames = new.frames }) begun
      ∙ (λ i. record s { waiting = sym waits i; frames = new.frames; rooms = sym rooms i })

-- ---- the oldest request of a cause

module _ (s : State) (settled : IsSettled s) (cause : ℕ) (request : Queued) (oldest : oldest_of cause (entries_of s.waiting) ≡ Some request) (frame : ℕ) (plain : IsReadDirectly s.frames request → ⊥)
    (near : List ℕ) (new : State) where
  abbrev line : Line Queued
  line = with_entries s.waiting (without_oldest cause (entries_of s.waiting))

  -- what it is held for, and who waits still
  pub record StartsFor (task : Task) (begun : List Request) : Type 0 where
    pub served : List Queued
    pub same : begun ≡ map request_in served
    pub serves : IsServed s request (others_in s cause) task served
    pub items : IsPermutation (waiting_of s) (served ++ requests_in new.waiting)
    pub leaves : LeavesLine s cause new
    pub capacity : capacity_of new.waiting ≡ capacity_of s.waiting
    pub causes : causes_of new.waiting ≡ causes_of s.waiting

  by_op : (o : Op) (task : Task) (served : List Request) → request.op ≡ o → IsForAll (Some near) (record s { waiting = line }) (request_in request) o new.waiting task served → StartsFor task served
  by_op (op.Read block buffer) task served reads for =
      record {
        served = request ∷ [];
        same = for.1;
        serves = subst (λ (x : Task). IsServed s request (others_in s cause) x (request ∷ [])) (sym for.0) (read_is_served s settled cause request oldest block buffer reads plain);
        items = subst (λ (x : Line Queued). IsPermutation (waiting_of s) (request ∷ requests_in x)) (sym for.2) (read_alone s settled cause request oldest block buffer reads);
        leaves = read_leaves s settled cause request oldest block buffer reads new for.2;
        capacity = ap capacity_of for.2;
        causes = ap causes_of for.2;
      }
  by_op (op.Write own buffer) task served is for =
      let writes = for.0 in
      let now = entries_of new.waiting in
      let all = for.3.0 in
      record {
        served = map waited writes;
        same = for.2 ∙ sym (requests_waited writes);
        serves = subst (λ (x : Task). IsServed s request (others_in s cause) x (map waited writes)) (sym for.1)
            (writes_are_served s settled cause request oldest own buffer is writes now all.joined all.left all.some all.in_row all.distinct);
        items = writes_of_all s settled cause request oldest own buffer is writes now all.joined all.left all.some all.in_row all.distinct;
        leaves = writes_leave s settled cause request oldest own buffer is writes now all.joined all.left all.some all.in_row all.distinct new for.3.1;
        capacity = ap capacity_of for.3.1;
        causes = ap causes_of for.3.1;
      }

  pub starts_for : (holds : HoldsFor (Some near) frame (record s { waiting = line }) (request_in request) new) → StartsFor holds.begins.task holds.begins.served
  starts_for holds =
      let waits : new.waiting ≡ holds.mid.waiting = ap (λ (x : State). x.waiting) holds.rest in
      by_op request.op holds.begins.task holds.begins.served refl
      (subst (λ (now : Line Queued). IsForAll (Some near) (record s { waiting = line }) (request_in request) request.op now holds.begins.task holds.begins.served) (sym waits) holds.begins.for)

  -- so it starts
  module _ (can : CanHold s.frames (row_for s.frames request.op) frame) (holds : HoldsFor (Some near) frame (record s { waiting = line }) (request_in request) new) where
    abbrev for : StartsFor holds.begins.task holds.begins.served
    for = starts_for holds

    begun : HasBegun s request (others_in s cause) holds.begins.task for.served new.waiting (requests_in new.waiting) frame holds.mid.frames new.frames
    begun = held_begun s line (Some near) frame request new holds (others_in s cause) for.served can.0 for.serves for.same for.items can

    driven : HasDriven s new.waiting frame holds.mid.frames new.frames new
    driven = held_driven s line (Some near) frame request new holds settled.sound for.capacity for.causes

    abbrev then : State
    then = record s { waiting = new.waiting; frames = new.frames; rooms = new.rooms }

    is_then : new ≡ then
    is_then = held_state s line (Some near) frame request new holds

    pub start_settled : IsSettled new
    start_settled = subst IsSettled (sym is_then)
        (begun_settled s request (others_in s cause) holds.begins.task for.served new.waiting (requests_in new.waiting) frame holds.mid.frames new.frames new begun driven settled)

    pub start_leads : Leads Scans s new
    start_leads = subst (λ (x : State). Leads Scans s x) (sym is_then)
        (begun_leads s request (others_in s cause) holds.begins.task for.served new.waiting (requests_in new.waiting) frame holds.mid.frames new.frames new begun settled.sound)

    pub start_starts : StartsWith (room.Frame frame) cause s request new
    start_starts = subst (λ (x : State). StartsWith (room.Frame frame) cause s request x) (sym is_then) (
      begun_starts s request (others_in s cause) holds.begins.task for.served new.waiting (requests_in new.waiting) frame holds.mid.frames new.frames new begun settled.sound,
      begun_like s request (others_in s cause) holds.begins.task for.served new.waiting (requests_in new.waiting) frame holds.mid.frames new.frames new begun driven,
      begun_takes s request (others_in s cause) holds.begins.task for.served new.waiting (requests_in new.waiting) frame holds.mid.frames new.frames new begun driven,
    )

    pub start_leaves : LeavesLine s cause new
    start_leaves = for.leaves

-- a read that is read directly leaves the line alone
pub direct_leaves : (s : State) → IsSettled s → (cause : ℕ) (request : Queued) → oldest_of cause (entries_of s.waiting) ≡ Some request → IsSyncedRead s.frames request.op → (new : State)
    → new.waiting ≡ with_entries s.waiting (without_oldest cause (entries_of s.waiting)) → LeavesLine s cause new
direct_leaves s settled cause request oldest synced new is = by_read request.op refl synced
  where
    by_read : (o : Op) → request.op ≡ o → IsSyncedRead s.frames o → LeavesLine s cause new
    by_read (op.Read block buffer) reads synced = read_leaves s settled cause request oldest block buffer reads new is
    by_read (op.Write own buffer) reads synced = absurd synced

-- ---- a request that was just accepted: no older one waits for its row

module _ (s : State) (settled : IsSettled s) (line : Line Queued) (request : Queued) (own : IsQueuedOf s.frames request) (waits : IsWaiting (state_of s) request)
    (plain : IsReadDirectly s.frames request → ⊥) where
  by_own : (o : Op) (now : Line Queued) (task : Task) (served : List Request) → request.op ≡ o → IsForAll None (record s { waiting = line }) (request_in request) o now task served
      → IsServed s request [] task (request ∷ []) × (served ≡ request_in request ∷ []) × (now ≡ line)
  by_own (op.Read block buffer) now task served reads for = (
    subst (λ (x : Task). IsServed s request [] x (request ∷ [])) (sym for.0) (read_served s request [] block buffer reads own waits plain settled.sound.frames.shape),
    for.1,
    for.2,
  )
  by_own (op.Write block buffer) now task served is for =
      let index = layout.index_of s.frames.geometry block in
      let alone_is : for.0 ≡ entry_in request block buffer index ∷ [] = for.3.0 ∙ ap (λ (o : Op). (record {
        served = record { id = request.id; block = block_of (op_of o) };
        index = layout.index_of s.frames.geometry (block_of (op_of o));
        new_data = buffer_of o;
      }) ∷ []) is in
      let plain : request.erred ≡ false = write_unerred s.frames request block own (ap block_written is) in
      let back : map request_of (entry_in request block buffer index ∷ []) ≡ request_in request ∷ [] = ap (λ q. request_in q ∷ []) (entry_back request block buffer index is plain) in
      let served_is : served ≡ request_in request ∷ [] = for.2 ∙ ap (map request_of) alone_is ∙ back in
      let task_is : task ≡ write_task (entry_in request block buffer index ∷ []) = for.1 ∙ ap write_task alone_is in (
        subst (λ (x : Task). IsServed s request [] x (request ∷ [])) (sym task_is) (write_alone s settled request block buffer index is own waits refl),
        served_is,
        for.3.1,
      )

  pub alone_for : (frame : ℕ) (new : State) (holds : HoldsFor None frame (record s { waiting = line }) (request_in request) new)
      → IsServed s request [] holds.begins.task (request ∷ []) × (holds.begins.served ≡ request_in request ∷ []) × (new.waiting ≡ line)
  alone_for frame new holds =
      let to : new.waiting ≡ holds.mid.waiting = ap (λ (x : State). x.waiting) holds.rest in
      let all = by_own request.op holds.mid.waiting holds.begins.task holds.begins.served refl holds.begins.for in
      (all.0, all.1, to ∙ all.2)
