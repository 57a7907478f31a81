-- A row is held for a request that waits, and with a write for those that wait for its other blocks: what the shard is then.
use Rattle.std.proofs.Common.{◌≡◌, ◌≢◌, inl, inr, ℕ, suc, ◌+◌, ◌*◌, ◌<◌, ◌≤◌, ◌||◌, Bool, true, false, List, [], ◌∷◌, ◌++◌, length, map, refl, sym, ap, subst, ◌∙◌, Option, Some, IsPermutation, All, arith, append_assoc, length-append}
use mathlib.Core.Path.{fun_ext}
use Rattle.std.specs.Prelude.{nat_eq, if◌then◌else◌}
use Rattle.std.specs.List.{IsDistinct, AllByRecursion}
use Rattle.std.specs.Map.{keys_of}
use Rattle.std.proofs.Math.Nat.{mul-suc, mul-le-mul_left}
use Rattle.std.proofs.lemmas.List.{map-append}
use Rattle.std.proofs.lemmas.List.Sorted.{IsPermutation-map, IsPermutation-append_left, length_permutation}
use Rattle.r6_layout.specs.Shape.{IsShape}
use Rattle.r6_layout.proofs.Places.{row_of-lt, index_of-lt}
use Rattle.r6_stripe.specs.BatchLists.{AreDistinct}
use Rattle.r6_stripe.specs.Holds.{IsBatch, MayBegin}
use Rattle.r6_world.specs.Tables.{put}
use Rattle.r6_world.specs.PlainArray.{block_of}
use Rattle.r6_world.specs.Layouts.{Layout}
use Rattle.r6_world.specs.Geometries.{layout_of}
use Rattle.r6_world.specs.Tasks.{Hold, Task, ReadFor, WriteFor, Rebuild, Check, Repair, kind_of, serves}
use Rattle.r6_world.specs.ShardStates.{Shard, NotHeld, Held, Waiting, begun, found}
use Rattle.r6_world.specs.ShardStates as shards
use Rattle.r6_world.specs.Changes.{Start, after, MayStart, staged}
use Rattle.r6_world.specs.Steps.{Through, Scans, IsRequest}
use Rattle.r6_world.proofs.Cells.{found-long}
use Rattle.r6_world.specs.declared.values.Op.TheVariants as op
use Rattle.r6_core.specs.declared.queued.Queued.{Queued}
use Rattle.r6_frames.specs.declared.frames.Frames.{Frames}
use Rattle.r6_frames.specs.declared.frames.HeldRow.{HeldRow}
use Rattle.r6_world.specs.Values.{op_of}
use Rattle.r6_frames.specs.Views.{hold_at, hold_of, held_requests, frame_of, shard_with}
use Rattle.r6_frames.specs.Calls.{Begins, PutsFirst, PutsFirstOut, IsHeldFrame, KeepsReads, NotHeldBy}
use Rattle.r6_frames.specs.Directs.{read_requests}
use Rattle.r6_frames.specs.Owed.{owed, most_owed}
use Rattle.r6_frames.specs.Writes.{Entry, IsWriteIn, blocks_in, write_of, write_task}
use Rattle.r6_frames.proofs.Batches.{are_batch, batch_is}
use Rattle.r6_frames.proofs.Held.{put_own}
use Rattle.r6_frames.proofs.Lists.{Entries}
use Rattle.r6_frames.proofs.Resting.{frame-held, free_is}
use Rattle.r6_waiters.specs.Line.{Line}
use Rattle.r6_core.specs.declared.state.State.{State}
use Rattle.r6_core.specs.Shards.{state_of, rest_of, layout_in, requests_in, requests_of, waiting_request, replied_requests, waiting_of}
use Rattle.r6_core.specs.Turns.{IsWaiting, IsHeldFor, IsTaskOf, Starts}
use Rattle.r6_core.specs.Inside.{CanHold, IsReadDirectly, IsSound, row_for, waited}
use Rattle.r6_core.specs.Limits.{bound, count_unheld}
use Rattle.r6_core.proofs.Batched.{starts_scan}
use Rattle.r6_core.proofs.ChangedTogether.{ChangeTogether}
use Rattle.r6_core.proofs.Going.{no_rest}
use Rattle.r6_core.proofs.Passed.{to_front}
use Rattle.r6_core.proofs.ReadOn.{synced_read}
use Rattle.r6_core.proofs.RowWrites.{batch_of_writes, writes_for}
use Rattle.r6_core.proofs.Throughs.{through_in}
use Rattle.r6_core.proofs.Together.{AreHeld, held_in, held_together, served_by}
use Rattle.r6_core.proofs.Unerred.{entries_in}
use Rattle.r6_world.specs.declared.values.Request.{Request}
use Rattle.r6_core.specs.Queued.{request_in, waiting_stage}
use Rattle.r6_core.specs.Inside.{IsQueuedOf}
use Rattle.r6_world.specs.Changes.{IsForHold}
use Rattle.r6_world.specs.PlainArray.{Read}

-- ---- what the row may be held for

-- the task is the request's, and that of those that start with it: all of them wait
pub record IsServed (s : State) (request : Queued) (others : List Queued) (task : Task) (served : List Queued) : Type 0 where
  pub own : IsQueuedOf s.frames request
  pub for : IsTaskOf (layout_in s) request request.op others task
  pub serves : (id : ℕ) → serves task id ≡ served_by served id
  pub is_request : IsRequest task
  pub some : 1 ≤ length served
  pub may : MayStart (layout_in s) (state_of s) (row_for s.frames request.op) task
  pub begin : MayBegin (found (layout_in s) (state_of s).slot (row_for s.frames request.op)) (kind_of (layout_in s) (row_for s.frames request.op) task)

or_false : (b : Bool) → (b || false) ≡ b
or_false true = refl
or_false false = refl

-- a read that isn't read directly
pub read_served : (s : State) (request : Queued) (others : List Queued) (block : ℕ) (buffer : List ℕ) → request.op ≡ op.Read block buffer → IsQueuedOf s.frames request
    → IsWaiting (state_of s) request → (IsReadDirectly s.frames request → ⊥) → IsShape s.frames.geometry → IsServed s request others (ReadFor request.id block) (request ∷ [])
read_served s request others block buffer is own waits plain lawful =
    let l = layout_in s in
    record {
      own = own;
      for = subst (λ o. IsTaskOf l request o others (ReadFor request.id block)) (sym is) refl;
      serves = λ id. sym (or_false (nat_eq id request.id));
      is_request = record {};
      some = omega arith;
      may = (
        by_bit request.erred refl,
        ap (λ o. l.row_of (block_of (op_of o))) (sym is),
      );
      begin =
          let row = row_for s.frames request.op in
          omega (arith, index_of-lt s.frames.geometry block lawful, found-long l (state_of s).slot row, lawful.slots_allowed.0);
    }
  where
    -- after a read error it is read so in any case
    by_bit : (b : Bool) → request.erred ≡ b → IsForHold (layout_in s) (state_of s) request.id block
    by_bit false e =
        let here : (state_of s).request request.id ≡ Some (record { op = Read block; stage = Waiting }) =
        waits ∙ (λ i. Some (record { op = op_of (is i); stage = waiting_stage (e i) })) in
        inl (here, λ direct. plain (direct.0, (e, synced_read (rest_of s) s.frames request.op (subst (λ o. Rattle.r6_world.specs.ShardStates.IsSyncedRead (layout_in s) (state_of s) (op_of o)) (sym is) direct.1))))
    by_bit true e = inr (waits ∙ (λ i. Some (record { op = op_of (is i); stage = waiting_stage (e i) })))

-- writes of blocks of the row
pub writes_served : (s : State) (request : Queued) (others : List Queued) (own : ℕ) (buffer : List ℕ) (writes : List Entry) → request.op ≡ op.Write own buffer → IsQueuedOf s.frames request
    → IsShape s.frames.geometry → writes ≢ [] → All (IsWriteIn s.frames.geometry (row_for s.frames request.op)) writes → AreDistinct (blocks_in writes)
    → AllByRecursion (IsWaiting (state_of s)) (map waited writes) → IsTaskOf (layout_in s) request (op.Write own buffer) others (write_task writes)
    → IsServed s request others (write_task writes) (map waited writes)
writes_served s request others own buffer writes is mine lawful some all distinct waits for =
    let l = layout_in s in
    let row = row_for s.frames request.op in
    record {
      own = mine;
      for = subst (λ o. IsTaskOf l request o others (write_task writes)) (sym is) for;
      serves = λ id. ap (λ ws. Rattle.r6_world.specs.Tasks.serves_one ws id) (sym (writes_for writes));
      is_request = record {};
      some = at_least writes some;
      may = ((λ none. some (no_writes writes none)), batch_of_writes s.frames.geometry row (state_of s) writes all distinct waits);
      begin =
          let batch = batch_is s.frames.geometry row writes all in
          let long : Rattle.r6_stripe.specs.Plans.data_count (found l (state_of s).slot row) ≡ Rattle.r6_layout.specs.Shape.data_slots s.frames.geometry =
          omega (arith, found-long l (state_of s).slot row) in (
            (λ none. some (no_blocks writes (sym batch ∙ none))),
            subst (λ count. IsBatch count s.frames.geometry.block (Rattle.r6_world.specs.Tasks.batch_of l (map write_of writes))) (sym long)
                (subst (IsBatch (Rattle.r6_layout.specs.Shape.data_slots s.frames.geometry) s.frames.geometry.block) (sym batch) (are_batch s.frames.geometry row writes lawful all distinct)),
          );
    }
  where
    at_least : (ws : List Entry) → ws ≢ [] → 1 ≤ length (map waited ws)
    at_least [] some = absurd (some refl)
    at_least (w ∷ ws) some = omega arith

    no_writes : (ws : List Entry) → map write_of ws ≡ [] → ws ≡ []
    no_writes [] none = refl
    no_writes (w ∷ ws) none = absurd (cc none)

    no_blocks : (ws : List Entry) → blocks_in ws ≡ [] → ws ≡ []
    no_blocks [] none = refl
    no_blocks (w ∷ ws) none = absurd (cc none)

-- ---- what the hold's beginning leaves of the shard

start_after : (l : Layout) (s : Shard) (frame row : ℕ) (task : Task) (served : List Queued) → IsRequest task → ((id : ℕ) → serves task id ≡ served_by served id)
    → after l s (Start frame row task)
    ≡ record s { frame = put s.frame frame (Some (begun l s.slot row task)); request = λ q. if served_by served q then staged (s.request q) (Held frame) else s.request q }
start_after l s frame row task served is same = by_task task is same
  where
    requests : (task : Task) → ((id : ℕ) → serves task id ≡ served_by served id)
        → ◌≡◌ {A = ℕ → Option shards.Request} (λ q. if serves task q then staged (s.request q) (Held frame) else s.request q) (λ q. if served_by served q then staged (s.request q) (Held frame) else s.request q)
    requests task same = fun_ext (λ q. ap (λ (b : Bool). if b then staged (s.request q) (Held frame) else s.request q) (same q))

    by_task : (task : Task) → IsRequest task → ((id : ℕ) → serves task id ≡ served_by served id) → after l s (Start frame row task)
        ≡ record s { frame = put s.frame frame (Some (begun l s.slot row task)); request = λ q. if served_by served q then staged (s.request q) (Held frame) else s.request q }
    by_task (ReadFor id block) is same =
        ap (λ (request : ℕ → Option shards.Request). record s { frame = put s.frame frame (Some (begun l s.slot row (ReadFor id block))); request = request }) (requests (ReadFor id block) same)
    by_task (WriteFor writes) is same =
        ap (λ (request : ℕ → Option shards.Request). record s { frame = put s.frame frame (Some (begun l s.slot row (WriteFor writes))); request = request }) (requests (WriteFor writes) same)
    by_task (Rebuild slot generation) is same = absurd is
    by_task Check is same = absurd is
    by_task Repair is same = absurd is

not_held : (s : State) (row : ℕ) → NotHeldBy s.frames row → NotHeld (state_of s) row
not_held s row free frame hold is at =
    let there = frame-held s.frames frame hold is in
    free frame there.0 there.1 (ap (λ (h : Hold). h.row) there.2 ∙ at)

-- ---- the hold begins

module _ (old : Frames) (frame row : ℕ) (task : Task) (served : List Request) (mid : Frames) (begins : Begins old frame row task served mid) where
  abbrev pub first_hold : Hold
  first_hold = begun (layout_of old.geometry) (shard_with no_rest old).slot row task

  pub held_first : (h : HeldRow) × (hold_at mid.uses frame ≡ Some h) × (hold_of h ≡ first_hold)
  held_first =
      frame-held mid frame first_hold
      (ap (λ (x : Shard). x.frame frame) (begins.shard.2 no_rest) ∙ put_own (frame_of old) frame (Some first_hold))

  pub begun_held : IsHeldFrame mid frame
  begun_held = (held_first.0, held_first.1)

  pub begun_tokens : mid.commands.next ≡ old.commands.next
  begun_tokens = ap (λ (x : Shard). x.tokens) (begins.shard.2 no_rest)

-- ---- the whole start: the row is held, and the hold puts out what comes first

pub record HasBegun (s : State) (request : Queued) (others : List Queued) (task : Task) (served : List Queued) (line : Line Queued) (rest : List Queued) (frame : ℕ) (mid new : Frames) : Type 0 where
  pub left : requests_in line ≡ rest
  pub items : IsPermutation (waiting_of s) (served ++ rest)
  pub serves : IsServed s request others task served
  pub can : CanHold s.frames (row_for s.frames request.op) frame
  pub begins : Begins s.frames frame (row_for s.frames request.op) task (map request_in served) mid
  pub drives : PutsFirstOut mid new
  pub requests : held_requests new ≡ held_requests mid
  pub unfailed : new.saw_failed ≡ s.frames.saw_failed

module _ (s : State) (request : Queued) (others : List Queued) (task : Task) (served : List Queued) (line : Line Queued) (rest : List Queued) (frame : ℕ) (mid new : Frames) (roomed : State)
    (is : HasBegun s request others task served line rest frame mid new) where
  abbrev pub begun_state : State
  begun_state = record s { waiting = line; frames = new; rooms = roomed.rooms }

  abbrev row : ℕ
  row = row_for s.frames request.op

  reads_same : KeepsReads s.frames new
  reads_same = is.drives.3 ∙ is.begins.shard.3

  -- the requests go from those that wait to those that rows are held for
  went_together : ChangeTogether waiting_request (held_in frame) served (requests_of s) (requests_of begun_state)
  went_together =
      let to = is.begins.requests in
      let tail : Entries shards.Request = replied_requests s.frames.saw_failed s.released s.replies.items in
      let reads : Entries shards.Request = read_requests s.frames in
      let waits : Entries shards.Request = map waiting_request rest in
      let behind : Entries shards.Request = to.behind ++ (reads ++ tail) in
      let all : Entries shards.Request = waits ++ (to.before ++ behind) in
      let old_is : requests_of s ≡ map waiting_request (waiting_of s) ++ (to.before ++ behind) =
      (λ i. map waiting_request (waiting_of s) ++ ((to.without i ++ reads) ++ tail)) ∙ (simp append_assoc) in
      let with_served : held_requests mid ≡ (to.before ++ map (held_in frame) served) ++ to.behind = to.with ∙ ap (λ es. (to.before ++ es) ++ to.behind) (entries_in frame served) in
      let new_is : requests_of begun_state ≡ (waits ++ to.before) ++ (map (held_in frame) served ++ behind) =
      (λ i. map waiting_request (is.left i) ++ (((is.requests ∙ with_served) i ++ reads_same i) ++ replied_requests (is.unfailed i) s.released s.replies.items)) ∙ (simp append_assoc) in
      record {
        rest = all;
        was = subst (λ es. IsPermutation es (map waiting_request served ++ all)) (sym old_is)
            (subst (IsPermutation (map waiting_request (waiting_of s) ++ (to.before ++ behind))) (append_assoc (map waiting_request served) waits (to.before ++ behind))
            (IsPermutation-append_left (to.before ++ behind) (map waiting_request (waiting_of s)) (map waiting_request served ++ waits)
            (subst (IsPermutation (map waiting_request (waiting_of s))) (map-append waiting_request served rest) (IsPermutation-map waiting_request (waiting_of s) (served ++ rest) is.items))));
        now = subst (λ es. IsPermutation es (map (held_in frame) served ++ all)) (sym new_is)
            (subst (λ es. IsPermutation ((waits ++ to.before) ++ (map (held_in frame) served ++ behind)) (map (held_in frame) served ++ es)) (append_assoc waits to.before behind)
            (to_front (waits ++ to.before) (map (held_in frame) served) behind));
      }

  module _ (sound : IsSound s) where
    requests : AreHeld frame served (requests_of s) (requests_of begun_state)
    requests = held_together frame served (requests_of s) (requests_of begun_state) went_together sound.requests.distinct

    begun_mid : shard_with (rest_of begun_state) mid ≡ after (layout_in s) (state_of s) (Start frame row task)
    begun_mid =
        let l = layout_in s in
        let first : Option Hold = Some (begun l (state_of s).slot row task) in
        is.begins.shard.2 (rest_of begun_state)
        ∙ ap (λ (request : ℕ → Option shards.Request). record (shard_with (record (rest_of s) { request = request }) s.frames) { frame = put (frame_of s.frames) frame first })
        requests.now
        ∙ sym (start_after l (state_of s) frame row task served is.serves.is_request is.serves.serves)

    held_for : IsHeldFor (layout_in s) s.frames.shard (state_of s) request others (state_of begun_state)
    held_for =
        let n = s.frames.shard in
        let own = is.serves.own in
        let begun_at = shard_with (rest_of begun_state) mid in
        let later : Through (layout_of mid.geometry) mid.shard PutsFirst begun_at (state_of begun_state) = is.drives.2 (rest_of begun_state) in
        let here = through_in s.frames.geometry mid.geometry n mid.shard PutsFirst begun_at (state_of begun_state) is.begins.shard.0 is.begins.shard.1 later in (
          frame,
          task,
          is.serves.for,
          (
            free_is (rest_of s) s.frames frame sound.frames is.can.0 is.can.1,
            not_held s row is.can.2,
            (row_of-lt s.frames.geometry (block_of (op_of request.op)) sound.frames.shape own.request.there, own.request.own),
            is.can.0,
            is.serves.may,
            is.serves.begin,
          ),
          subst (λ (from : Shard). Through (layout_in s) n PutsFirst from (state_of begun_state)) begun_mid here,
        )

    pub begun_starts : Starts (layout_in s) s.frames.shard (state_of s) request others (state_of begun_state)
    begun_starts = inr held_for

    pub begun_leads : Through (layout_in s) s.frames.shard Scans (state_of s) (state_of begun_state)
    begun_leads = starts_scan (layout_in s) s.frames.shard (state_of s) request others (state_of begun_state) begun_starts

    -- each request has its number once, below those that are to come; and there are as many
    pub begun_distinct : IsDistinct nat_eq (keys_of (requests_of begun_state))
    begun_distinct = requests.distinct

    pub begun_numbered : AllByRecursion (λ id. id < s.accepted) (keys_of (requests_of begun_state))
    begun_numbered = requests.keeps (λ id. id < s.accepted) sound.requests.numbered

    pub begun_counted : length (requests_of begun_state) ≡ s.unanswered
    begun_counted = requests.count ∙ sound.requests.counted

  -- fewer wait
  fewer_wait : suc (length rest + length (read_requests s.frames)) ≤ count_unheld s
  fewer_wait =
      let all = length_permutation (waiting_of s) (served ++ rest) is.items in
      let both = length-append served rest in
      let some = is.serves.some in
      omega (arith, all, both, some)

  -- no more commands may come than before
  pub begun_bound : owed mid ≤ owed s.frames + most_owed s.frames.geometry.slots → new.commands.next + owed new ≤ mid.commands.next + owed mid → bound begun_state ≤ bound s
  begun_bound owes gives =
      let slots = s.frames.geometry.slots in
      let each = length rest + length (read_requests s.frames) in
      let tokens : mid.commands.next ≡ s.frames.commands.next = ap (λ (x : Shard). x.tokens) (is.begins.shard.2 (rest_of s)) in
      let same : most_owed new.geometry.slots * count_unheld begun_state ≡ most_owed slots * each =
      λ i. most_owed ((is.drives.0 ∙ is.begins.shard.0) i).slots * (length (is.left i) + length (reads_same i)) in
      let more : most_owed slots * suc each ≤ most_owed slots * count_unheld s = mul-le-mul_left (most_owed slots) fewer_wait in
      summed s.frames.commands.next mid.commands.next new.commands.next (owed s.frames) (owed mid) (owed new) (most_owed slots)
      (most_owed new.geometry.slots * count_unheld begun_state) (most_owed slots * each) (most_owed slots * suc each) (most_owed slots * count_unheld s)
      tokens owes gives same (mul-suc (most_owed slots) each) more
    where
      summed : (n0 n1 n2 o0 o1 o2 each few few' more all : ℕ) → n1 ≡ n0 → o1 ≤ o0 + each → n2 + o2 ≤ n1 + o1 → few ≡ few' → more ≡ few' + each → more ≤ all → n2 + o2 + few ≤ n0 + o0 + all
      summed n0 n1 n2 o0 o1 o2 each few few' more all a b c d e f = omega arith
