-- All requests with no reply go behind those that have one, when an array fails.
use Rattle.std.proofs.Common.{◌≡◌, ℕ, suc, ◌+◌, ◌<◌, ◌≤◌, List, [], ◌∷◌, ◌++◌, map, refl, sym, ap, subst, ◌∙◌, Option, None, inl, inr, length, arith, append_assoc, append-nil, length-append}
use Rattle.std.specs.Prelude.{option_map, IsPermutation, vec_capacity}
use Rattle.std.specs.Global.{Vec}
use Rattle.std.specs.List.{AllByRecursion}
use Rattle.std.proofs.lemmas.Bool.{cases_lt}
use Rattle.std.proofs.lemmas.List.{length-map, map-append, get_or_past}
use Rattle.std.proofs.lemmas.List.Elements.{recursion_from_All}
use Rattle.std.proofs.lemmas.List.Sorted.{IsPermutation-refl, IsPermutation-trans, IsPermutation-append_comm, length_permutation}
use mathlib.Core.Path.{fun_ext}
use Rattle.circular_buffer.specs.Buffer.{Buffer, buffer}
use Rattle.r6_layout.specs.Shape.{Shape}
use Rattle.r6_world.specs.Tables.{put}
use Rattle.r6_world.specs.Tasks.{Hold}
use Rattle.r6_world.specs.PlainArray as world
use Rattle.r6_world.specs.ShardStates as shards
use Rattle.r6_world.specs.ShardStates.{Shard}
use Rattle.r6_world.specs.declared.values.Request.{Request}
use Rattle.r6_frames.specs.declared.finish.Ended.{Ended}
use Rattle.r6_frames.specs.declared.frames.Frames.{Frames}
use Rattle.r6_frames.specs.declared.frames.FrameUse.{FrameUse}
use Rattle.r6_frames.specs.declared.frames.FrameUse.TheVariants as uses
use Rattle.r6_frames.specs.Views.{held_for, held_requests, requests_from, hold_at, hold_of, use_at, row_in, shard_with, AreLive}
use Rattle.r6_frames.specs.Calls.{requests_of as requests_ended, entry_of, ended_task, Between, GivesUp, IsWith, KeepsOthers, HasOneBlock}
use Rattle.r6_frames.specs.Directs.{read_requests}
use Rattle.r6_frames.specs.Owed.{owed}
use Rattle.r6_frames.specs.Writes.{Entry}
use Rattle.r6_frames.specs.Sound as held
use Rattle.r6_core.specs.declared.state.State.{State}
use Rattle.r6_core.specs.Shards.{waiting_request, replied_requests, waiting_of, requests_in}
use Rattle.r6_core.specs.Inside.{IsSound, FreesRoom, Gathers, HasPlace, HaveRooms, SameCalls, SameScrubs, count_rows, held_op, is_written, numbered_op, one_if, queued_op, unreplied}
use Rattle.r6_core.specs.declared.queued.Queued.{Queued}
use Rattle.r6_core.specs.Queued.{request_in}
use Rattle.r6_core.proofs.CountedRows.{row_weight, rows_counted_but_one}
use Rattle.r6_core.proofs.FreedRooms.{Fewer, capacity_kept, end_weighs, place_left, rooms_freed}
use Rattle.r6_core.proofs.Kept.{waiting_sized}
use Rattle.r6_core.proofs.Passed.{to_front}
use Rattle.r6_core.proofs.Replied.{length_replied}
use Rattle.r6_waiters.specs.Line.{Line}
use Rattle.r6_core.proofs.Lined.{SameRoom}
use Rattle.r6_core.proofs.Scrubs.{write_weight}
use Rattle.r6_frames.proofs.Held.{all_append}

-- entries go from the middle to the end
pass : {X : Type 0} (before xs behind done : List X) → IsPermutation ((before ++ (xs ++ behind)) ++ done) ((before ++ behind) ++ (done ++ xs))
pass before xs behind done =
    let others = before ++ (behind ++ done) in
    let first : before ++ (xs ++ (behind ++ done)) ≡ (before ++ (xs ++ behind)) ++ done = simp append_assoc in
    let last : others ++ xs ≡ (before ++ behind) ++ (done ++ xs) = simp append_assoc in
    subst (IsPermutation ((before ++ (xs ++ behind)) ++ done)) last
    (subst (λ es. IsPermutation es (others ++ xs)) first
    (IsPermutation-trans (before ++ (xs ++ (behind ++ done))) (xs ++ others) (others ++ xs) (to_front before xs (behind ++ done)) (IsPermutation-append_comm xs others)))

-- ---- the loops

-- no row is held in the first frames
pub record IsGathering (s new : State) (count : ℕ) : Type 0 where
  pub frames : held.IsSound new.frames
  pub stopped : AreLive new.frames → ⊥
  pub none_held : (frame : ℕ) → frame < count → hold_at new.frames.uses frame ≡ None
  pub more : List Request
  pub replies : new.replies.items ≡ s.replies.items ++ more
  pub all : IsPermutation (unreplied s) (unreplied new ++ map numbered_op more)
  pub waiting_sized : AllByRecursion (λ q. HasOneBlock s.frames.geometry (request_in q)) (waiting_of new)
  pub sized : AllByRecursion (HasOneBlock s.frames.geometry) more
  pub tokens : owed new.frames ≤ owed s.frames
  pub shard : Between (λ l n x x'. x' ≡ record x { frame = x'.frame }) s.frames new.frames
  pub waiting_room : SameRoom s.waiting new.waiting
  pub replies_room : new.replies.capacity ≡ s.replies.capacity
  pub rooms : HaveRooms new.rooms.items new.frames
  pub space : vec_capacity new.rooms ≡ vec_capacity s.rooms
  pub accepted : new.accepted ≡ s.accepted
  pub unanswered : new.unanswered ≡ s.unanswered
  pub released : new.released ≡ s.released
  pub calls : SameCalls s new
  pub scrubs : SameScrubs s new

pub gathering_none : (s : State) → IsSound s → (AreLive s.frames → ⊥) → IsGathering s s 0
gathering_none s sound stopped =
    record {
      frames = sound.frames;
      stopped = stopped;
      none_held = λ frame lt. absurd (omega arith);
      more = [];
      replies = sym (append-nil s.replies.items);
      all = subst (IsPermutation (unreplied s)) (sym (append-nil (unreplied s))) (IsPermutation-refl (unreplied s));
      waiting_sized = waiting_sized s.frames (waiting_of s) sound.requests.waiting;
      sized = tt;
      tokens = omega arith;
      shard = (refl, refl, (λ rest. refl), refl);
      waiting_room = (refl, refl);
      replies_room = refl;
      rooms = sound.room.rooms;
      space = refl;
      accepted = refl;
      unanswered = refl;
      released = refl;
      calls = (refl, refl);
      scrubs = (refl, refl, refl);
    }

-- the same requests in another line
pub gathering_line : (s mid : State) (count : ℕ) (line : Line Queued) → IsGathering s mid count → requests_in line ≡ waiting_of mid → SameRoom mid.waiting line → IsGathering s (record mid { waiting = line }) count
gathering_line s mid count line is same room =
    record {
      frames = is.frames;
      stopped = is.stopped;
      none_held = is.none_held;
      more = is.more;
      replies = is.replies;
      all = subst (λ (rs : List Queued). IsPermutation (unreplied s) ((map queued_op rs ++ map held_op (held_requests mid.frames)) ++ map numbered_op is.more)) (sym same) is.all;
      waiting_sized = subst (AllByRecursion (λ q. HasOneBlock s.frames.geometry (request_in q))) (sym same) is.waiting_sized;
      sized = is.sized;
      tokens = is.tokens;
      shard = is.shard;
      waiting_room = (room.0 ∙ is.waiting_room.0, room.1 ∙ is.waiting_room.1);
      replies_room = is.replies_room;
      rooms = is.rooms;
      space = is.space;
      accepted = is.accepted;
      unanswered = is.unanswered;
      released = is.released;
      calls = is.calls;
      scrubs = is.scrubs;
    }

frame_only : (x y : Shard) (frame : ℕ → Option Hold) → x ≡ record y { frame = frame } → x ≡ record y { frame = x.frame }
frame_only x y frame same = same ∙ ap (λ f. record y { frame = f }) (sym (ap (λ (z : Shard). z.frame) same))

-- more went behind the others
module _ (s mid : State) (count : ℕ) (rs : List Request) (is : IsGathering s mid count) (replies : Buffer Request) (last : replies.items ≡ mid.replies.items ++ rs) where
  abbrev more : List Request
  more = is.more ++ rs

  replies_more : replies.items ≡ s.replies.items ++ more
  replies_more = last ∙ ap (λ items. items ++ rs) is.replies ∙ append_assoc s.replies.items is.more rs

  -- they stood among those with no reply
  all_more : (before behind now : List (ℕ × world.Op)) → unreplied mid ≡ before ++ (map numbered_op rs ++ behind) → now ≡ before ++ behind
      → IsPermutation (unreplied s) (now ++ map numbered_op more)
  all_more before behind now was without =
      let done = map numbered_op is.more in
      let own = map numbered_op rs in
      let end : (before ++ behind) ++ (done ++ own) ≡ now ++ map numbered_op more =
      λ i. sym without i ++ sym (map-append numbered_op is.more rs) i in
      IsPermutation-trans (unreplied s) ((before ++ (own ++ behind)) ++ done) (now ++ map numbered_op more)
      (subst (λ es. IsPermutation (unreplied s) (es ++ done)) was is.all)
      (subst (IsPermutation ((before ++ (own ++ behind)) ++ done)) end (pass before own behind done))

-- one waited
module _ (s mid : State) (count : ℕ) (r : Queued) (is : IsGathering s mid count) (replies : Buffer Request) (last : replies.items ≡ mid.replies.items ++ request_in r ∷ []) where
  pub gathering_waiting : (waiting : Line Queued) → waiting_of mid ≡ r ∷ requests_in waiting → SameRoom mid.waiting waiting → replies.capacity ≡ mid.replies.capacity
      → IsGathering s (record mid { waiting = waiting; replies = replies }) count
  gathering_waiting waiting first wide long =
      let sizes = subst (AllByRecursion (λ q. HasOneBlock s.frames.geometry (request_in q))) first is.waiting_sized in
      let h = map held_op (held_requests mid.frames) in
      record {
        frames = is.frames;
        stopped = is.stopped;
        none_held = is.none_held;
        more = is.more ++ request_in r ∷ [];
        replies = replies_more s mid count (request_in r ∷ []) is replies last;
        all = all_more s mid count (request_in r ∷ []) is replies last [] (map queued_op (requests_in waiting) ++ h) (map queued_op (requests_in waiting) ++ h) (ap (λ rs. map queued_op rs ++ h) first) refl;
        waiting_sized = sizes.1;
        sized = all_append (HasOneBlock s.frames.geometry) is.more (request_in r ∷ []) is.sized (sizes.0, tt);
        tokens = is.tokens;
        shard = is.shard;
        waiting_room = (wide.0 ∙ is.waiting_room.0, wide.1 ∙ is.waiting_room.1);
        replies_room = long ∙ is.replies_room;
        rooms = is.rooms;
        space = is.space;
        accepted = is.accepted;
        unanswered = is.unanswered;
        released = is.released;
        calls = is.calls;
        scrubs = is.scrubs;
      }

-- a hold is given up, with what it was for
own_entries : (frame : ℕ) (rs : List Request) → map held_op (map (entry_of frame) rs) ≡ map numbered_op rs
own_entries frame [] = refl
own_entries frame (r ∷ rs) = ap (λ ops. numbered_op r ∷ ops) (own_entries frame rs)

module _ (s mid : State) (count : ℕ) (e : Ended) (fs : Frames) (rooms : Vec (List Entry)) (is : IsGathering s mid count) (gives : GivesUp mid.frames count e fs) (sound : held.IsSound fs) (stopped : AreLive fs → ⊥)
    (others : KeepsOthers mid.frames count fs) (none : hold_at fs.uses count ≡ None) (owes : owed fs ≤ owed mid.frames) (frees : FreesRoom e mid.rooms rooms) where
  abbrev rs : List Request
  rs = requests_ended e

  abbrev replies : Buffer Request
  replies = buffer (mid.replies.items ++ rs) mid.replies.capacity

  abbrev pub left : State
  left = record mid { frames = fs; replies = replies; rooms = rooms }

  all_given : IsPermutation (unreplied s) (unreplied left ++ map numbered_op (is.more ++ rs))
  all_given =
      let w = map queued_op (waiting_of mid) in
      let a = map held_op gives.leaves.0.before in
      let b = map held_op gives.leaves.0.behind in
      let own = map (entry_of count) rs in
      let was : unreplied mid ≡ (w ++ a) ++ (map numbered_op rs ++ b) =
      ap (λ es. w ++ map held_op es) (gives.leaves.0.with ∙ append_assoc gives.leaves.0.before own gives.leaves.0.behind)
      ∙ ap (λ ops. w ++ ops) (map-append held_op gives.leaves.0.before (own ++ gives.leaves.0.behind) ∙ ap (λ ops. a ++ ops) (map-append held_op own gives.leaves.0.behind ∙ ap (λ ops. ops ++ b) (own_entries count rs)))
      ∙ sym (append_assoc w a (map numbered_op rs ++ b)) in
      let now : unreplied left ≡ (w ++ a) ++ b =
      ap (λ es. w ++ map held_op es) gives.leaves.0.without ∙ ap (λ ops. w ++ ops) (map-append held_op gives.leaves.0.before gives.leaves.0.behind) ∙ sym (append_assoc w a b) in
      all_more s mid count rs is replies refl (w ++ a) b (unreplied left) was now

  sized_given : AllByRecursion (HasOneBlock s.frames.geometry) (is.more ++ rs)
  sized_given =
      let own = subst (λ (g : Shape). AllByRecursion (HasOneBlock g) rs) is.shard.0 (recursion_from_All (HasOneBlock mid.frames.geometry) rs gives.leaves.1) in
      all_append (HasOneBlock s.frames.geometry) is.more rs is.sized own

  -- a row less is held
  fewer : Fewer e mid left
  fewer =
      let rows = rows_counted_but_one is_written count mid.frames fs is.frames sound others in
      let was : row_weight is_written mid.frames.uses count ≡ write_weight (ended_task e) = ap (λ o. one_if is_written (option_map held_for o)) gives.held ∙ end_weighs gives.row e gives.of in
      let now : row_weight is_written fs.uses count ≡ 0 = ap (λ o. one_if is_written (option_map held_for o)) none in
      omega (arith, rows, was, now)

  shard_given : Between (λ l n x x'. x' ≡ record x { frame = x'.frame }) s.frames fs
  shard_given = (
    gives.shard.0 ∙ is.shard.0,
    gives.shard.1 ∙ is.shard.1,
    (λ rest.
        let one = gives.shard.2 rest in
        let before = is.shard.2 rest in
        frame_only (shard_with rest fs) (shard_with rest s.frames) _ (one ∙ ap (λ (x : Shard). record x { frame = put (shard_with rest mid.frames).frame count None }) before)),
    gives.shard.3 ∙ is.shard.3,
  )

  pub gathering_held : IsGathering s left (count + 1)
  gathering_held =
      let before = is.tokens in
      record {
        frames = sound;
        stopped = stopped;
        none_held = λ frame lt. elim (cases_lt frame count) [
          | inl lower ↦
              let kept : use_at fs.uses frame ≡ use_at mid.frames.uses frame = others frame (λ e. absurd (omega arith)) in
              ap row_in kept ∙ is.none_held frame lower
          | inr higher ↦ let at : count ≡ frame = omega arith in subst (λ f. hold_at fs.uses f ≡ None) at none
        ];
        more = is.more ++ rs;
        replies = replies_more s mid count rs is replies refl;
        all = all_given;
        waiting_sized = is.waiting_sized;
        sized = sized_given;
        tokens = omega (arith, owes, before);
        shard = shard_given;
        waiting_room = is.waiting_room;
        replies_room = is.replies_room;
        rooms = rooms_freed mid left is.rooms e fewer frees;
        space = capacity_kept mid.rooms rooms e frees ∙ is.space;
        accepted = is.accepted;
        unanswered = is.unanswered;
        released = is.released;
        calls = is.calls;
        scrubs = is.scrubs;
      }

pub gathering_skips : (s mid : State) (count : ℕ) → IsGathering s mid count → hold_at mid.frames.uses count ≡ None → IsGathering s mid (count + 1)
gathering_skips s mid count is none =
    record {
      frames = is.frames;
      stopped = is.stopped;
      none_held = λ frame lt. elim (cases_lt frame count) [
        | inl lower ↦ is.none_held frame lower
        | inr higher ↦ let same : count ≡ frame = omega arith in subst (λ f. hold_at mid.frames.uses f ≡ None) same none
      ];
      more = is.more;
      replies = is.replies;
      all = is.all;
      waiting_sized = is.waiting_sized;
      sized = is.sized;
      tokens = is.tokens;
      shard = is.shard;
      waiting_room = is.waiting_room;
      replies_room = is.replies_room;
      rooms = is.rooms;
      space = is.space;
      accepted = is.accepted;
      unanswered = is.unanswered;
      released = is.released;
      calls = is.calls;
      scrubs = is.scrubs;
    }

-- no row is held, and so no request
pub none_from : (n : ℕ) (held : List FrameUse) → ((frame : ℕ) → hold_at held frame ≡ None) → requests_from n held ≡ []
none_from n [] none = refl
none_from n (uses.Free ∷ held) none = none_from (n + 1) held (λ frame. none (suc frame))
none_from n (uses.Held h ∷ held) none = absurd (let bad = none 0 in cc)
none_from n (uses.Returning r successor ∷ held) none = none_from (n + 1) held (λ frame. none (suc frame))

pub gathered : (s new : State) (count : ℕ) → IsGathering s new count → length new.frames.uses ≤ count → (waiting_of new) ≡ [] → Gathers s new
gathered s new count is past none =
    let no_row : (frame : ℕ) → hold_at new.frames.uses frame ≡ None = λ frame. elim (cases_lt frame count) [
      | inl lower ↦ is.none_held frame lower
      | inr higher ↦ ap row_in (get_or_past new.frames.uses frame uses.Free (omega arith))
    ] in
    let nothing : unreplied new ≡ [] = λ i. map queued_op (none i) ++ map held_op (none_from 0 new.frames.uses no_row i) in
    record {
      frames = is.frames;
      stopped = is.stopped;
      none_held = no_row;
      none_waiting = none;
      more = is.more;
      replies = is.replies;
      all = subst (λ es. IsPermutation (unreplied s) (es ++ map numbered_op is.more)) nothing is.all;
      sized = is.sized;
      tokens = is.tokens;
      shard = (
        is.shard.0,
        is.shard.1,
        (λ rest. is.shard.2 rest ∙ ap (λ f. record (shard_with rest s.frames) { frame = f }) (fun_ext (λ frame. ap (option_map hold_of) (no_row frame)))),
        is.shard.3,
      );
      room = (is.waiting_room.0, is.waiting_room.1, is.replies_room);
      rooms = is.rooms;
      space = is.space;
      rest = (is.accepted, is.unanswered, is.released, is.calls);
      scrubs = is.scrubs;
    }

-- there is room for all
pub replies_room : (s mid : State) (count : ℕ) → IsSound s → IsGathering s mid count → length mid.replies.items + length (unreplied mid) ≤ mid.replies.capacity
replies_room s mid count sound is =
    let w = map waiting_request (waiting_of s) in
    let h = held_requests s.frames in
    let p = replied_requests s.frames.saw_failed s.released s.replies.items in
    let d = read_requests s.frames in
    let all = length-append w ((h ++ d) ++ p) in
    let framed = length-append (h ++ d) p in
    let held = length-append h d in
    let many_w = length-map (waiting_of s) waiting_request in
    let many_p = length_replied s.frames.saw_failed s.released s.replies.items in
    let own = length-append (map queued_op (waiting_of s)) (map held_op h) in
    let own_w = length-map (waiting_of s) queued_op in
    let own_h = length-map h held_op in
    let same = length_permutation (unreplied s) (unreplied mid ++ map numbered_op is.more) is.all in
    let parts = length-append (unreplied mid) (map numbered_op is.more) in
    let gone = length-map is.more numbered_op in
    let now = ap length is.replies ∙ length-append s.replies.items is.more in
    omega (arith, all, framed, held, many_w, many_p, own, own_w, own_h, same, parts, gone, now, sound.requests.counted, sound.requests.few, sound.room.replies, is.replies_room)

pub some_waits : (mid : State) (r : Queued) (rest : List Queued) → (waiting_of mid) ≡ r ∷ rest → 0 < length (unreplied mid)
some_waits mid r rest first = let some = ap (λ rs. length (map queued_op rs ++ map held_op (held_requests mid.frames))) first in omega (arith, some)

-- those that a row is held for, and there is a place for their room
pub all_held : (mid : State) (few : List (ℕ × shards.Request)) (frame : ℕ) (own : List Request) → IsWith few frame (map (entry_of frame) own) (held_requests mid.frames) → length own ≤ length (unreplied mid)
all_held mid few frame own place =
    let all = length-append (map queued_op (waiting_of mid)) (map held_op (held_requests mid.frames)) in
    let held = length-map (held_requests mid.frames) held_op in
    let as_many = length-map own (entry_of frame) in
    let most = length-append (map (entry_of frame) own) place.behind in
    let many = ap length (place.with ∙ append_assoc place.before (map (entry_of frame) own) place.behind) ∙ length-append place.before (map (entry_of frame) own ++ place.behind) in
    omega (arith, all, held, as_many, most, many)

pub place_given : (s mid : State) (count : ℕ) (e : Ended) (fs : Frames) → IsSound s → IsGathering s mid count → GivesUp mid.frames count e fs → held.IsSound fs → KeepsOthers mid.frames count fs
    → hold_at fs.uses count ≡ None → HasPlace e mid.rooms
place_given s mid count e fs sound is gives frames others none =
    let rows = rows_counted_but_one is_written count mid.frames fs is.frames frames others in
    let was : row_weight is_written mid.frames.uses count ≡ write_weight (ended_task e) = ap (λ o. one_if is_written (option_map held_for o)) gives.held ∙ end_weighs gives.row e gives.of in
    let now : row_weight is_written fs.uses count ≡ 0 = ap (λ o. one_if is_written (option_map held_for o)) none in
    place_left mid e (count_rows is_written fs.uses) (omega (arith, rows, was, now)) is.rooms (omega (arith, is.space, sound.room.space))
