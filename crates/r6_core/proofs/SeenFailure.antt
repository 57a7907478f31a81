-- What a shard that sees the failure of the array makes of its requests, and what it is then.
use Rattle.std.proofs.Common.{◌≡◌, ◌≢◌, ℕ, zero, suc, Bool, true, false, cond, ◌+◌, ◌*◌, ◌<◌, ◌≤◌, List, [], ◌∷◌, ◌++◌, map, take, drop, refl, sym, ap, subst, ◌∙◌, Option, Some, None, length, get_or, arith, append_assoc, append-nil, length-append}
use mathlib.Core.Path.{fun_ext}
use Rattle.std.specs.Prelude.{nat_eq, option_map, IsPermutation}
use Rattle.std.specs.List.{IsDistinct, AllByRecursion}
use Rattle.std.specs.List.Sorted.{IsNonDecreasingBy}
use Rattle.std.specs.Map.{keys_of}
use Rattle.std.proofs.lemmas.Bool.{eq-eqb}
use Rattle.circular_buffer.specs.Buffer.{Buffer}
use Rattle.std.proofs.lemmas.List.{drop-append-le, map-append, take-append-drop, take-append-le}
use Rattle.std.proofs.lemmas.List.Sorted.{IsNonDecreasingBy-drop, IsPermutation-refl, IsPermutation-trans, IsPermutation-append_comm, IsPermutation-append_right, IsPermutation-map, length_permutation}
use Rattle.std.proofs.lemmas.Map.Keys.{IsDistinct-head, IsDistinct-tail}
use Rattle.r6_world.specs.PlainArray as world
use Rattle.r6_world.specs.PlainArray.{ArrayFailed}
use Rattle.r6_world.specs.ShardStates as shards
use Rattle.r6_world.specs.ShardStates.{Shard, Released}
use Rattle.r6_world.specs.Changes.{See_failed, abandoned_if, failed_stage, failed_request, is_going_on, read_stage, after}
use Rattle.r6_frames.specs.FramesState.{Commands}
use Rattle.r6_world.specs.declared.values.Request.{Request}
use Rattle.r6_frames.specs.declared.frames.Job.{Job}
use Rattle.r6_frames.specs.declared.frames.Frames.{Frames}
use Rattle.r6_frames.specs.declared.frames.FrameUse.{FrameUse}
use Rattle.r6_frames.specs.declared.frames.FrameUse.TheVariants as uses
use Rattle.r6_frames.specs.Slots.{states_of}
use Rattle.r6_frames.specs.Views.{held_entry, held_requests, kind_in, requests_by, requests_from, Rest, shard_with, world_commands, AreLive}
use Rattle.r6_frames.specs.Directs.{read_requests}
use Rattle.r6_frames.specs.Calls.{SeesFailure, entry_on, HasOneBlock, KeepsHeld}
use Rattle.r6_frames.specs.Owed.{owed, most_owed}
use Rattle.r6_frames.specs.Sound as held
use Rattle.r6_frames.proofs.Lists.{Entries, table}
use Rattle.r6_core.specs.declared.state.State.{State}
use Rattle.r6_core.specs.Shards.{state_of, rest_of, layout_in, requests_of, waiting_request, finished_request, released_request, replied_requests, call_of, counts_of, waiting_of}
use Rattle.r6_world.specs.ShardStates.{limit}
use Rattle.r6_core.specs.Refusals.{most_unanswered}
use Rattle.r6_core.specs.Order.{IsRising, FailsAll}
use Rattle.r6_core.specs.Inside.{AreBounded, AreOwnRows, HandsBack, IsReadOn, IsSound, IsSettled, Gathers, Seen, held_op, numbered_op, unreplied}
use Rattle.r6_core.specs.Limits.{count_unheld, count_untold}
use Rattle.r6_core.proofs.ChangedTogether.{AreChanged, all_changed}
use Rattle.r6_core.proofs.Rooms.{rooms_still}
use Rattle.r6_core.proofs.Lined.{all_permuted}
use Rattle.r6_core.proofs.CountedRows.{counted_kept, no_rows_counted, rows_of_holds, same_or_fewer}
use Rattle.r6_core.proofs.Kept.{own_rows_kept, requests_kept, sizes_kept}
use Rattle.r6_core.proofs.SlotsKept.{calls_same}
use Rattle.r6_core.proofs.Gathering.{none_from}
use Rattle.r6_core.proofs.Going.{keys_framed}
use Rattle.r6_world.specs.Values.{op_of}
use Rattle.r6_core.specs.declared.queued.Queued.{Queued}
use Rattle.r6_core.specs.Inside.{queued_op}
use Rattle.r6_core.proofs.Unerred.{waits_so}
use Rattle.r6_core.proofs.ReadOn.{keys_on, none_reading}
use Rattle.r6_core.proofs.Replied.{as_many, keys_replied, keys_requests, numbers}
use Rattle.r6_core.specs.Inside.{IsQueuedOf}
use Rattle.r6_frames.proofs.Held.{all_append}

-- ---- each request that isn't released is answered that the array has failed

abbrev failed_one : shards.Request → shards.Request
failed_one r = record { op = r.op; stage = failed_stage r.stage }

abbrev failed : ℕ × shards.Request → ℕ × shards.Request
failed e = (e.0, failed_one e.1)

abbrev answered : ℕ × world.Op → ℕ × shards.Request
answered e = (e.0, record { op = e.1; stage = Released ArrayFailed })

table_failed : (es : Entries shards.Request) (q : ℕ) → table (map failed es) q ≡ failed_request (table es q)
table_failed [] q = refl
table_failed (e ∷ es) q =
    elim (nat_eq q e.0) as (λ b. cond b (Some (failed_one e.1)) (table (map failed es) q) ≡ failed_request (cond b (Some e.1) (table es q))) [
      | true ↦ refl
      | false ↦ table_failed es q
    ]

keys_failed : (es : Entries shards.Request) → keys_of (map failed es) ≡ keys_of es
keys_failed [] = refl
keys_failed (e ∷ es) = ap (λ ks. e.0 ∷ ks) (keys_failed es)

waiting_fail : (rs : List Queued) → map failed (map waiting_request rs) ≡ map answered (map queued_op rs)
waiting_fail [] = refl
waiting_fail (r ∷ rs) =
    let stage = waits_so (λ x. failed_stage x ≡ Released ArrayFailed) refl refl r.erred in
    λ i. (r.id, record { op = op_of r.op; stage = stage i }) ∷ waiting_fail rs i

entries_fail : (n : ℕ) (requests : List (ℕ × world.Op)) (rest : Entries shards.Request) → map failed rest ≡ map answered (map held_op rest)
    → map failed (map (held_entry n) requests ++ rest) ≡ map answered (map held_op (map (held_entry n) requests ++ rest))
entries_fail n [] rest same = same
entries_fail n (r ∷ requests) rest same = ap (λ es. answered (held_op (held_entry n r)) ∷ es) (entries_fail n requests rest same)

held_fail : (n : ℕ) (held : List FrameUse) → map failed (requests_from n held) ≡ map answered (map held_op (requests_from n held))
held_fail n [] = refl
held_fail n (uses.Free ∷ held) = held_fail (n + 1) held
held_fail n (uses.Held h ∷ held) = entries_fail n (requests_by h.job (kind_in h)) (requests_from (n + 1) held) (held_fail (n + 1) held)
held_fail n (uses.Returning r successor ∷ held) = held_fail (n + 1) held

ended_fails : (seen : Bool) (r : Request) → failed (finished_request seen r) ≡ answered (numbered_op r)
ended_fails true r = refl
ended_fails false r = refl

-- those with a reply, when those that aren't released are answered so
abbrev failed_behind : ℕ → List Request → Entries shards.Request
failed_behind count rs = map released_request (take count rs) ++ map answered (map numbered_op (drop count rs))

replied_fail : (seen : Bool) (count : ℕ) (rs : List Request) → map failed (replied_requests seen count rs) ≡ failed_behind count rs
replied_fail seen zero [] = refl
replied_fail seen zero (r ∷ rs) = λ i. ended_fails seen r i ∷ replied_fail seen zero rs i
replied_fail seen (suc count) [] = refl
replied_fail seen (suc count) (r ∷ rs) = ap (λ es. released_request r ∷ es) (replied_fail seen count rs)

replied_failed : (count : ℕ) (rs : List Request) → replied_requests true count rs ≡ failed_behind count rs
replied_failed zero [] = refl
replied_failed zero (r ∷ rs) = ap (λ es. answered (numbered_op r) ∷ es) (replied_failed zero rs)
replied_failed (suc count) [] = refl
replied_failed (suc count) (r ∷ rs) = ap (λ es. released_request r ∷ es) (replied_failed count rs)

-- where none is read directly
all_fail : (s : State) → read_requests s.frames ≡ [] → map failed (requests_of s) ≡ map answered (unreplied s) ++ failed_behind s.released s.replies.items
all_fail s none =
    let w = map waiting_request (waiting_of s) in
    let h = held_requests s.frames in
    let p = replied_requests s.frames.saw_failed s.released s.replies.items in
    let w' = map queued_op (waiting_of s) in
    let h' = map held_op h in
    let p' = failed_behind s.released s.replies.items in
    (λ i. map failed (w ++ ((h ++ none i) ++ p)))
    ∙ ap (λ es. map failed (w ++ (es ++ p))) (append-nil h)
    ∙ map-append failed w (h ++ p)
    ∙ ap (λ es. map failed w ++ es) (map-append failed h p)
    ∙ (λ i. waiting_fail (waiting_of s) i ++ (held_fail 0 s.frames.uses i ++ replied_fail s.frames.saw_failed s.released s.replies.items i))
    ∙ sym (append_assoc (map answered w') (map answered h') p')
    ∙ ap (λ es. es ++ p') (sym (map-append answered w' h'))

-- ---- the failure is seen, and nothing else

module _ (s : State) (fs : Frames) (sound : IsSound s) (sees : SeesFailure s.frames fs) (commands : fs.commands ≡ s.frames.commands) (owes : owed fs ≡ owed s.frames)
    (requests : held_requests fs ≡ held_requests s.frames) (holds : KeepsHeld s.frames fs) where
  keys_read : keys_of (read_requests fs) ≡ keys_of (read_requests s.frames)
  keys_read = ap keys_of sees.3 ∙ keys_on fs (read_requests s.frames)

  keys_seen : keys_of (requests_of (record s { frames = fs })) ≡ keys_of (requests_of s)
  keys_seen =
      keys_requests (record s { frames = fs })
      ∙ ap (λ ks. keys_of (map waiting_request (waiting_of s)) ++ (ks ++ numbers s.replies.items)) (keys_framed s.frames fs requests keys_read)
      ∙ sym (keys_requests s)

  slots_seen : states_of fs.slots ≡ states_of s.frames.slots
  slots_seen = ap (λ (x : Shard). x.slot) (sees.2 (rest_of s))

  pub seen_sound : held.IsSound fs → IsSound (record s { frames = fs })
  seen_sound frames =
      record {
        frames = frames;
        requests = record {
          distinct = subst (IsDistinct nat_eq) (sym keys_seen) sound.requests.distinct;
          numbered = subst (λ ks. AllByRecursion (λ id. id < s.accepted) ks) (sym keys_seen) sound.requests.numbered;
          counted = as_many (requests_of (record s { frames = fs })) (requests_of s) keys_seen ∙ sound.requests.counted;
          few = sound.requests.few;
          waiting = requests_kept s.frames fs (waiting_of s) sees.0 sees.1 sound.requests.waiting;
          sized = sizes_kept s.frames.geometry fs.geometry s.replies.items sees.0 sound.requests.sized;
          marked = sound.requests.marked;
        };
        room = record {
          waiting = sound.room.waiting;
          causes = sound.room.causes;
          replies = sound.room.replies;
          calls = sound.room.calls;
          few_calls = let same = calls_same s.frames fs slots_seen sees.0 in omega (arith, same, sound.room.few_calls);
          rooms = rooms_still s.rooms.items s.frames fs sound.frames frames (rows_of_holds s.frames fs holds) sound.room.rooms;
          space = sound.room.space;
        };
        tokens =
            let reads = as_many (read_requests fs) (read_requests s.frames) keys_read in
            let slots : most_owed fs.geometry.slots * count_unheld (record s { frames = fs }) ≡ most_owed s.frames.geometry.slots * count_unheld s =
            λ i. most_owed (sees.0 i).slots * (length (waiting_of s) + reads i) in
            let next = ap (λ (t : Commands). t.next) commands in
            omega (arith, slots, next, owes, sound.tokens);
        accepted = sound.accepted;
        counted = counted_kept s.counts s.frames fs sound.counted (same_or_fewer s.frames fs sound.frames frames (rows_of_holds s.frames fs holds)) (let next = ap (λ (t : Commands). t.next) commands in omega (arith, next));
        next_rows = own_rows_kept s.frames fs s.check_row s.repair_row sees.0 sees.1 sound.next_rows;
      }

-- ---- numbers that don't fall and differ rise

above : (r : Request) (rs : List Request) → ((j : ℕ) → j < length rs → r.id ≤ (get_or rs j r).id) → AllByRecursion (λ y. nat_eq r.id y ≡ false) (numbers rs)
    → AllByRecursion (λ other. r.id < other.id) rs
above r [] up apart = tt
above r (x ∷ rs) up apart =
    let le = up 0 (omega arith) in
    let ne : r.id ≢ x.id = λ e. let same = eq-eqb r.id x.id e in let no = apart.0 in absurd (cc) in
    (omega (arith, le, ne), above r rs (λ j lt. up (suc j) (omega arith)) apart.1)

pub rising : (rs : List Request) → IsNonDecreasingBy (λ r. r.id) rs → IsDistinct nat_eq (numbers rs) → IsRising rs
rising [] up distinct = tt
rising (r ∷ rs) up distinct = (
  above r rs (λ j lt. up zero (suc j) r (omega arith) (omega arith)) (IsDistinct-head nat_eq r.id (numbers rs) distinct),
  rising rs (IsNonDecreasingBy-drop (λ r. r.id) 1 (r ∷ rs) up) (IsDistinct-tail nat_eq r.id (numbers rs) distinct),
)

pub distinct_behind : (xs ys : Entries shards.Request) → IsDistinct nat_eq (keys_of (xs ++ ys)) → IsDistinct nat_eq (keys_of ys)
distinct_behind [] ys h = h
distinct_behind (x ∷ xs) ys h = distinct_behind xs ys (IsDistinct-tail nat_eq x.0 (keys_of (xs ++ ys)) h)

-- ---- the shard behind it

module _ (s : State) (mid : State) (sorted : Buffer Request) (sound : IsSound s) (seen : s.frames.saw_failed ≡ true) (none : read_requests s.frames ≡ []) (gathers : Gathers s mid)
    (before : take mid.released sorted.items ≡ take mid.released mid.replies.items) (same : IsPermutation (drop mid.released mid.replies.items) (drop mid.released sorted.items))
    (up : IsNonDecreasingBy (λ r. r.id) (drop mid.released sorted.items)) (capacity : sorted.capacity ≡ mid.replies.capacity) where
  abbrev new : State
  new = record mid { replies = sorted }

  abbrev count : ℕ
  count = s.released

  marked : mid.released ≡ count
  marked = gathers.rest.2

  abbrev finished : List Request
  finished = drop count s.replies.items

  -- what stands behind the released ones, before it was sorted and behind it
  was_behind : drop mid.released mid.replies.items ≡ finished ++ gathers.more
  was_behind = (λ i. drop (marked i) (gathers.replies i)) ∙ drop-append-le count s.replies.items gathers.more sound.requests.marked

  still_released : take mid.released sorted.items ≡ take count s.replies.items
  still_released = before ∙ (λ i. take (marked i) (gathers.replies i)) ∙ take-append-le count s.replies.items gathers.more sound.requests.marked

  whole_queue : IsPermutation mid.replies.items sorted.items
  whole_queue =
      subst (λ rs. IsPermutation rs sorted.items) (take-append-drop mid.released mid.replies.items)
      (subst (IsPermutation (take mid.released mid.replies.items ++ drop mid.released mid.replies.items)) ((λ i. sym before i ++ drop mid.released sorted.items) ∙ take-append-drop mid.released sorted.items)
      (IsPermutation-append_right (take mid.released mid.replies.items) (drop mid.released mid.replies.items) (drop mid.released sorted.items) same))

  none_held : held_requests mid.frames ≡ []
  none_held = none_from 0 mid.frames.uses gathers.none_held

  none_read : read_requests mid.frames ≡ []
  none_read = gathers.shard.3 ∙ none

  shard_is : (rest : Rest) → shard_with rest mid.frames ≡ record (shard_with rest s.frames) { frame = λ f. None }
  shard_is rest = gathers.shard.2 rest

  abbrev now : Entries shards.Request
  now = failed_behind mid.released sorted.items

  new_requests : requests_of new ≡ now
  new_requests =
      (λ i. map waiting_request (gathers.none_waiting i) ++ ((none_held i ++ none_read i) ++ replied_requests (shard_is (rest_of s) i).saw_failed mid.released sorted.items))
      ∙ ap (λ (b : Bool). replied_requests b mid.released sorted.items) seen
      ∙ replied_failed mid.released sorted.items

  abbrev fails : ℕ × world.Op → ℕ × shards.Request
  fails = answered

  -- each request is there still, and those that aren't released are answered so
  whole : IsPermutation (map failed (requests_of s)) now
  whole =
      let r = map released_request (take count s.replies.items) in
      let f = map numbered_op finished in
      let more = map numbered_op gathers.more in
      let u = unreplied s in
      let last : IsPermutation (f ++ more) (map numbered_op (drop mid.released sorted.items)) =
      subst (λ es. IsPermutation es (map numbered_op (drop mid.released sorted.items))) (ap (map numbered_op) was_behind ∙ map-append numbered_op finished gathers.more)
      (IsPermutation-map numbered_op (drop mid.released mid.replies.items) (drop mid.released sorted.items) same) in
      let ops : IsPermutation (f ++ u) (map numbered_op (drop mid.released sorted.items)) =
      IsPermutation-trans (f ++ u) (f ++ more) (map numbered_op (drop mid.released sorted.items)) (IsPermutation-append_right f u more gathers.all) last in
      let turned : IsPermutation (map fails u ++ (r ++ map fails f)) (r ++ map fails (f ++ u)) =
      subst (IsPermutation (map fails u ++ (r ++ map fails f))) (append_assoc r (map fails f) (map fails u) ∙ ap (λ es. r ++ es) (sym (map-append fails f u)))
      (IsPermutation-append_comm (map fails u) (r ++ map fails f)) in
      let all : IsPermutation (map fails u ++ (r ++ map fails f)) now =
      IsPermutation-trans (map fails u ++ (r ++ map fails f)) (r ++ map fails (f ++ u)) now turned
      (subst (λ rs. IsPermutation (r ++ map fails (f ++ u)) (map released_request rs ++ map fails (map numbered_op (drop mid.released sorted.items)))) (sym still_released)
      (IsPermutation-append_right r (map fails (f ++ u)) (map fails (map numbered_op (drop mid.released sorted.items))) (IsPermutation-map fails (f ++ u) (map numbered_op (drop mid.released sorted.items)) ops))) in
      subst (λ es. IsPermutation es now) (sym (all_fail s none)) all

  requests_fail : AreChanged (λ q. failed_request) (requests_of s) now
  requests_fail =
      let old = requests_of s in
      all_changed (λ q. failed_request) old old (map failed old) now (IsPermutation-refl old) (keys_failed old) (table_failed old) whole sound.requests.distinct

  tables : table (requests_of new) ≡ (λ q. failed_request (table (requests_of s) q))
  tables = ap (λ (es : Entries shards.Request). table es) new_requests ∙ requests_fail.now

  pub failed_order : Seen FailsAll s new
  failed_order =
      let last = drop mid.released sorted.items in
      let own : IsDistinct nat_eq (keys_of (replied_requests true 0 last)) =
      distinct_behind (map released_request (take mid.released sorted.items)) (replied_requests true 0 last) (subst (λ (es : Entries shards.Request). IsDistinct nat_eq (keys_of es)) (sym (replied_failed mid.released sorted.items)) requests_fail.distinct) in
      (rising last up (subst (IsDistinct nat_eq) (keys_replied true 0 last) own), still_released, gathers.none_waiting)

  pub gathered_state : state_of new ≡ record (state_of s) { frame = λ f. None; request = λ q. failed_request ((state_of s).request q) }
  gathered_state =
      shard_is (rest_of new)
      ∙ (λ i. record (shard_with (record {
        accepted = gathers.rest.0 i;
        request = tables i;
        calls = map call_of (gathers.rest.3.0 i).items;
        untold = option_map call_of (gathers.rest.3.1 i);
        check_row = gathers.scrubs.0 i;
        repair_row = gathers.scrubs.1 i;
        counts = counts_of (gathers.scrubs.2 i);
      }) s.frames) { frame = λ f. None })

  pub failed_core : IsSettled new
  failed_core =
      let geometry : mid.frames.geometry ≡ s.frames.geometry = gathers.shard.0 in
      let slots : states_of mid.frames.slots ≡ states_of s.frames.slots = ap (λ (x : Shard). x.slot) (shard_is (rest_of s)) in
      record {
        sound = record {
          frames = gathers.frames;
          requests = record {
            distinct = subst (λ (es : Entries shards.Request). IsDistinct nat_eq (keys_of es)) (sym new_requests) requests_fail.distinct;
            numbered =
                let P : ℕ → Type 0 = λ id. id < mid.accepted in
                let first = subst (λ (n : ℕ). AllByRecursion (λ id. id < n) (keys_of (requests_of s))) (sym gathers.rest.0) sound.requests.numbered in
                subst (λ (es : Entries shards.Request). AllByRecursion P (keys_of es)) (sym new_requests) (requests_fail.keeps P first);
            counted = ap length new_requests ∙ requests_fail.count ∙ sound.requests.counted ∙ sym gathers.rest.1;
            few = subst (λ (n : ℕ). n ≤ most_unanswered) (sym gathers.rest.1) sound.requests.few;
            waiting = subst (λ (rs : List Queued). AllByRecursion (IsQueuedOf mid.frames) rs) (sym gathers.none_waiting) tt;
            sized =
                let One = HasOneBlock s.frames.geometry in
                let all = subst (AllByRecursion One) (sym gathers.replies) (all_append One s.replies.items gathers.more sound.requests.sized gathers.sized) in
                sizes_kept s.frames.geometry mid.frames.geometry sorted.items geometry (all_permuted One mid.replies.items sorted.items whole_queue all);
            marked =
                let long = length_permutation mid.replies.items sorted.items whole_queue in
                let parts = ap length gathers.replies ∙ length-append s.replies.items gathers.more in
                omega (arith, long, parts, marked, sound.requests.marked);
          };
          room = record {
            waiting = gathers.room.0 ∙ sound.room.waiting;
            causes = gathers.room.1 ∙ sound.room.causes;
            replies = capacity ∙ gathers.room.2 ∙ sound.room.replies;
            calls = ap (λ b. b.capacity) gathers.rest.3.0 ∙ sound.room.calls;
            few_calls =
                let same = calls_same s.frames mid.frames slots geometry in
                let calls : length mid.calls.items + count_untold mid.untold ≡ length s.calls.items + count_untold s.untold = λ i. length (gathers.rest.3.0 i).items + count_untold (gathers.rest.3.1 i) in
                omega (arith, same, calls, sound.room.few_calls);
            rooms = gathers.rooms;
            space = omega (arith, gathers.space, sound.room.space);
          };
          tokens =
              let next : mid.frames.commands.next ≡ s.frames.commands.next = ap (λ (x : Shard). x.tokens) (shard_is (rest_of s)) in
              let fewer = gathers.tokens in
              let none : most_owed mid.frames.geometry.slots * count_unheld new ≡ 0 =
              (λ i. most_owed mid.frames.geometry.slots * (length (gathers.none_waiting i) + length (none_read i))) ∙ (omega arith) in
              omega (arith, next, fewer, none, sound.tokens);
          accepted = subst (λ (n : ℕ). n ≤ limit) (sym gathers.rest.0) sound.accepted;
          counted =
              let none = λ (test : Job → Bool). no_rows_counted test mid.frames.uses gathers.none_held in
              let next : mid.frames.commands.next ≡ s.frames.commands.next = ap (λ (x : Shard). x.tokens) (shard_is (rest_of s)) in
              subst (λ k. AreBounded k mid.frames) (sym gathers.scrubs.2)
              (counted_kept s.counts s.frames mid.frames sound.counted (λ test. let zero = none test in omega (arith, zero)) (omega (arith, next)));
          next_rows =
              subst (λ (rows : ℕ × ℕ). AreOwnRows mid.frames rows.0 rows.1) (λ i. (sym gathers.scrubs.0 i, sym gathers.scrubs.1 i))
              (own_rows_kept s.frames mid.frames s.check_row s.repair_row geometry gathers.shard.1 sound.next_rows);
        };
        reading = subst (AllByRecursion IsReadOn) (sym none_read) tt;
        rested = λ live. absurd (gathers.stopped live);
      }

-- the mark lies within the queue that is sorted
pub marked_within : (s mid : State) → IsSound s → Gathers s mid → mid.released ≤ length mid.replies.items
marked_within s mid sound gathers =
    let marked = gathers.rest.2 in
    let parts = ap length gathers.replies ∙ length-append s.replies.items gathers.more in
    omega (arith, marked, parts, sound.requests.marked)

-- ---- the failure is seen, and direct reads wait again before all are answered

failed_on_stage : (command : ℕ → Option shards.Command) (stage : shards.Stage) → failed_stage (read_stage command stage) ≡ failed_stage stage
failed_on_stage command shards.Waiting = refl
failed_on_stage command shards.Erred = refl
failed_on_stage command (shards.Held frame) = refl
failed_on_stage command (shards.Reading token) = by_going (is_going_on (command token))
  where
    by_going : (b : Bool) → failed_stage (cond b (shards.Reading token) shards.Waiting) ≡ Released ArrayFailed
    by_going true = refl
    by_going false = refl
failed_on_stage command (shards.Finished reply) = refl
failed_on_stage command (shards.Released reply) = refl

reads_fail : (fs : Frames) (es : Entries shards.Request) → map failed (map (entry_on fs) es) ≡ map failed es
reads_fail fs [] = refl
reads_fail fs (e ∷ es) = λ i. (e.0, record { op = e.1.op; stage = failed_on_stage (world_commands fs) e.1.stage i }) ∷ reads_fail fs es i

module _ (s : State) (fs : Frames) (back : State) (sees : SeesFailure s.frames fs) (requests : held_requests fs ≡ held_requests s.frames) (handed : HandsBack (record s { frames = fs }) back) where
  fails_same : map failed (requests_of (record s { frames = fs })) ≡ map failed (requests_of s)
  fails_same =
      let w = map waiting_request (waiting_of s) in
      let h = held_requests s.frames in
      let d = read_requests s.frames in
      let p = λ (b : Bool). replied_requests b s.released s.replies.items in
      let parts : (h d p : Entries shards.Request) → map failed (w ++ ((h ++ d) ++ p)) ≡ map failed w ++ ((map failed h ++ map failed d) ++ map failed p) = λ h d p.
      map-append failed w ((h ++ d) ++ p)
      ∙ ap (λ es. map failed w ++ es) (map-append failed (h ++ d) p ∙ ap (λ es. es ++ map failed p) (map-append failed h d)) in
      parts (held_requests fs) (read_requests fs) (p fs.saw_failed)
      ∙ (λ i. map failed w ++ ((map failed (requests i) ++ (ap (map failed) sees.3 ∙ reads_fail fs d) i)
      ++ (replied_fail fs.saw_failed s.released s.replies.items ∙ sym (replied_fail s.frames.saw_failed s.released s.replies.items)) i))
      ∙ sym (parts h d (p s.frames.saw_failed))

  pub seen_in : back.frames.saw_failed ≡ true
  seen_in = handed.slots.1 ∙ ap (λ (x : Shard). x.saw_failed) (sees.2 (rest_of s))

  pub stopped_in : AreLive back.frames → ⊥
  stopped_in live = let no = sym seen_in ∙ live.1 in absurd (cc)

  pub none_read_in : read_requests back.frames ≡ []
  none_read_in = none_reading back.frames handed.sound.frames stopped_in handed.reading

  pub see_failed_state : (later : State) → state_of later ≡ record (state_of back) { frame = λ f. None; request = λ q. failed_request ((state_of back).request q) }
      → state_of later ≡ after (layout_in s) (state_of s) See_failed
  see_failed_state later is =
      let seen = record s { frames = fs } in
      is
      ∙ (λ i. record (handed.state i) { frame = λ f. None; request = λ q. failed_request ((handed.state i).request q) })
      ∙ (λ i. record (sees.2 (rest_of seen) i) { frame = λ f. None; request = λ q. failed_request (table (requests_of seen) q) })
      ∙ ap (λ (request : ℕ → Option shards.Request). record (state_of s) {
        saw_failed = true;
        frame = λ f. None;
        command = λ t. abandoned_if true ((state_of s).command t);
        request = request;
      })
      (fun_ext (λ q. sym (table_failed (requests_of seen) q) ∙ ap (λ (es : Entries shards.Request). table es q) fails_same ∙ table_failed (requests_of s) q))

  pub see_failed_order : (later : State) → Seen FailsAll back later → Seen FailsAll s later
  see_failed_order later order = (order.0, order.1 ∙ (λ i. take (handed.rest i).released (handed.rest i).replies.items), order.2)
