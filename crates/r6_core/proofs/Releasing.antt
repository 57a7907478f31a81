-- What releasing all that is finished does to the state.
use Rattle.r6_frames.specs.Directs.{is_stopped, read_by, read_entry, read_requests, reads_from, stage_of}
use Rattle.r6_frames.specs.declared.frames.Frames.{Frames}
use Rattle.r6_frames.specs.declared.directs.DirectRead.{DirectRead}
use Rattle.r6_frames.specs.declared.directs.Direct.{Direct}
use Rattle.r6_frames.specs.declared.slots.Slot.{Slot}
use Rattle.std.proofs.Common.{◌≡◌, ℕ, zero, suc, ◌+◌, ◌<◌, true, false, cond, List, [], ◌∷◌, ◌++◌, length, map, refl, sym, ap, subst, ◌∙◌, Some, arith, Bool, Option, None}
use mathlib.Core.Path.{fun_ext}
use Rattle.std.specs.Prelude.{nat_eq}
use Rattle.std.specs.List.{IsDistinct, AllByRecursion}
use Rattle.std.specs.Map.{keys_of}
use Rattle.std.proofs.lemmas.List.{drop_all, map-append, take-append-drop, take_all}
use Rattle.r6_world.specs.PlainArray as world
use Rattle.r6_world.specs.ShardStates as shards
use Rattle.r6_world.specs.Changes.{Release, released, released_stage, after}
use Rattle.r6_world.specs.declared.values.Request.{Request}
use Rattle.r6_frames.specs.declared.frames.FrameUse.{FrameUse}
use Rattle.r6_frames.specs.declared.frames.FrameUse.TheVariants as uses
use Rattle.r6_frames.specs.Views.{held_entry, held_requests, kind_in, requests_by, requests_from}
use Rattle.r6_frames.proofs.Lists.{Entries, table}
use Rattle.r6_core.specs.declared.state.State.{State}
use Rattle.r6_world.specs.Values.{op_of}
use Rattle.r6_core.specs.declared.queued.Queued.{Queued}
use Rattle.r6_core.proofs.Unerred.{waits_so}
use Rattle.r6_core.specs.Shards.{state_of, layout_in, requests_of, waiting_request, finished_request, released_request, replied_requests, framed_requests, waiting_of}
use Rattle.r6_core.specs.Inside.{IsSettled, ReleasesFinished, Seen}
use Rattle.r6_core.proofs.Replied.{as_many, keys_requests, released_all}

abbrev pub all_marked : State → State
all_marked s = record s { released = length s.replies.items }

-- an entry as a look leaves it
abbrev entry_released : ℕ × shards.Request → ℕ × shards.Request
entry_released e = (e.0, record { op = e.1.op; stage = released_stage e.1.stage })

table-released : (es : Entries shards.Request) (q : ℕ) → table (map entry_released es) q ≡ released (table es q)
table-released [] q = refl
table-released (e ∷ es) q =
    elim (nat_eq q e.0) as (λ b. cond b (Some (entry_released e).1) (table (map entry_released es) q) ≡ released (cond b (Some e.1) (table es q))) [
      | true ↦ refl
      | false ↦ table-released es q
    ]

waiting_stay : (rs : List Queued) → map entry_released (map waiting_request rs) ≡ map waiting_request rs
waiting_stay [] = refl
waiting_stay (r ∷ rs) =
    let stage = waits_so (λ x. released_stage x ≡ x) refl refl r.erred in
    λ i. (r.id, record { op = op_of r.op; stage = stage i }) ∷ waiting_stay rs i

entries_stay : (frame : ℕ) (requests : List (ℕ × world.Op)) (rest : Entries shards.Request) → map entry_released rest ≡ rest
    → map entry_released (map (held_entry frame) requests ++ rest) ≡ map (held_entry frame) requests ++ rest
entries_stay frame [] rest same = same
entries_stay frame (r ∷ requests) rest same = ap (λ es. held_entry frame r ∷ es) (entries_stay frame requests rest same)

held_stay : (frame : ℕ) (held : List FrameUse) → map entry_released (requests_from frame held) ≡ requests_from frame held
held_stay frame [] = refl
held_stay frame (uses.Free ∷ held) = held_stay (frame + 1) held
held_stay frame (uses.Held h ∷ held) = entries_stay frame (requests_by h.job (kind_in h)) (requests_from (frame + 1) held) (held_stay (frame + 1) held)
held_stay frame (uses.Returning r successor ∷ held) = held_stay (frame + 1) held

-- a direct read
read_stays : (stopped : Bool) (token : ℕ) → released_stage (stage_of stopped token) ≡ stage_of stopped token
read_stays true token = refl
read_stays false token = refl

reads_stay : (slots : List Slot) (directs : List Direct) → map entry_released (reads_from slots directs) ≡ reads_from slots directs
reads_stay slots [] = refl
reads_stay slots (d ∷ directs) = by_read d.read (reads_stay slots directs)
  where
    by_read : (o : Option DirectRead) → map entry_released (reads_from slots directs) ≡ reads_from slots directs
        → map entry_released (read_by slots o ++ reads_from slots directs) ≡ read_by slots o ++ reads_from slots directs
    by_read None rest = rest
    by_read (Some r) rest = λ i. read_entry r (read_stays (is_stopped slots r) r.token i) ∷ rest i

framed_stay : (fs : Frames) → map entry_released (framed_requests fs) ≡ framed_requests fs
framed_stay fs =
    map-append entry_released (held_requests fs) (read_requests fs)
    ∙ (λ i. held_stay 0 fs.uses i ++ reads_stay fs.slots fs.directs i)

finished_go : (count : ℕ) (rs : List Request) → map entry_released (replied_requests false count rs) ≡ map released_request rs
finished_go zero [] = refl
finished_go zero (r ∷ rs) = ap (λ es. released_request r ∷ es) (finished_go zero rs)
finished_go (suc count) [] = refl
finished_go (suc count) (r ∷ rs) = ap (λ es. released_request r ∷ es) (finished_go count rs)

-- once the failure was seen, nothing is left to be released
failed_stay : (count : ℕ) (rs : List Request) → map entry_released (replied_requests true count rs) ≡ replied_requests true count rs
failed_stay zero [] = refl
failed_stay zero (r ∷ rs) = ap (λ es. finished_request true r ∷ es) (failed_stay zero rs)
failed_stay (suc count) [] = refl
failed_stay (suc count) (r ∷ rs) = ap (λ es. released_request r ∷ es) (failed_stay count rs)

-- the entries of a state, as a look leaves them
all_go : (s : State) (replied : Entries shards.Request) → map entry_released (replied_requests s.frames.saw_failed s.released s.replies.items) ≡ replied
    → map entry_released (requests_of s) ≡ map waiting_request (waiting_of s) ++ (framed_requests s.frames ++ replied)
all_go s replied is =
    let w = map waiting_request (waiting_of s) in
    let h = framed_requests s.frames in
    let p = replied_requests s.frames.saw_failed s.released s.replies.items in
    map-append entry_released w (h ++ p)
    ∙ ap (λ es. map entry_released w ++ es) (map-append entry_released h p)
    ∙ (λ i. waiting_stay (waiting_of s) i ++ (framed_stay s.frames i ++ is i))

look-up : (s : State) (es : Entries shards.Request) → map entry_released (requests_of s) ≡ es → table es ≡ (λ q. released (table (requests_of s) q))
look-up s es is = fun_ext (λ q. ap (λ xs. table xs q) (sym is) ∙ table-released (requests_of s) q)

pub all_released : (s : State) → s.frames.saw_failed ≡ false → state_of (all_marked s) ≡ after (layout_in s) (state_of s) Release
all_released s unfailed =
    let go : map entry_released (replied_requests s.frames.saw_failed s.released s.replies.items) ≡ replied_requests s.frames.saw_failed (length s.replies.items) s.replies.items =
    ap (λ b. map entry_released (replied_requests b s.released s.replies.items)) unfailed ∙ finished_go s.released s.replies.items ∙ sym (released_all s.frames.saw_failed s.replies.items) in
    ap (λ request. record (state_of s) { request = request }) (look-up s (requests_of (all_marked s)) (all_go s _ go))

pub released_nothing : (s : State) → s.frames.saw_failed ≡ true → state_of s ≡ after (layout_in s) (state_of s) Release
released_nothing s failed =
    let stay : map entry_released (replied_requests s.frames.saw_failed s.released s.replies.items) ≡ replied_requests s.frames.saw_failed s.released s.replies.items =
    ap (λ b. map entry_released (replied_requests b s.released s.replies.items)) failed ∙ failed_stay s.released s.replies.items ∙ ap (λ b. replied_requests b s.released s.replies.items) (sym failed) in
    ap (λ request. record (state_of s) { request = request }) (look-up s (requests_of s) (all_go s _ stay))

-- they are released behind those that were
pub released_order : (s : State) → Seen ReleasesFinished s (all_marked s)
released_order s =
    let rs = s.replies.items in
    (take_all (length rs) rs (omega arith) ∙ sym (take-append-drop s.released rs), drop_all (length rs) rs (omega arith))

pub released_settled : (s : State) → IsSettled s → IsSettled (all_marked s)
released_settled s core =
    let sound = core.sound in
    let same : keys_of (requests_of (all_marked s)) ≡ keys_of (requests_of s) = keys_requests (all_marked s) ∙ sym (keys_requests s) in
    record {
      sound = record {
        frames = sound.frames;
        requests = record {
          distinct = subst (IsDistinct nat_eq) (sym same) sound.requests.distinct;
          numbered = subst (λ ks. AllByRecursion (λ id. id < s.accepted) ks) (sym same) sound.requests.numbered;
          counted = as_many (requests_of (all_marked s)) (requests_of s) same ∙ sound.requests.counted;
          few = sound.requests.few;
          waiting = sound.requests.waiting;
          sized = sound.requests.sized;
          marked = omega arith;
        };
        room = record { waiting = sound.room.waiting; causes = sound.room.causes; replies = sound.room.replies; calls = sound.room.calls; few_calls = sound.room.few_calls; rooms = sound.room.rooms; space = sound.room.space };
        tokens = sound.tokens;
        accepted = sound.accepted;
        counted = sound.counted;
        next_rows = sound.next_rows;
      };
      reading = core.reading;
      rested = core.rested;
    }
