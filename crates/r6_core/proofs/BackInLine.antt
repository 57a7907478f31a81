-- The request of a direct read goes to those that wait.
use Rattle.std.proofs.Common.{◌≡◌, ℕ, ◌+◌, ◌*◌, ◌<◌, [], ◌∷◌, ◌++◌, map, length, sym, ap, subst, ◌∙◌, arith, append_assoc, length-append}
use Rattle.std.specs.List.{AllByRecursion}
use Rattle.std.proofs.lemmas.List.{length-map, map-append}
use Rattle.r6_world.specs.ShardStates as shards
use Rattle.r6_frames.specs.declared.frames.Frames.{Frames}
use Rattle.r6_frames.specs.declared.frames.Job.{Job}
use Rattle.r6_frames.specs.Calls.{KeepsHolds, KeepsSlots}
use Rattle.r6_frames.specs.Directs.{read_requests}
use Rattle.r6_frames.specs.Owed.{owed, owed_in, most_owed}
use Rattle.r6_frames.specs.Reads.{IsWithEntry}
use Rattle.r6_frames.specs.Slots.{states_of}
use Rattle.r6_frames.specs.Sound as held
use Rattle.r6_frames.specs.Views.{is_scrub, held_requests, requests_from}
use Rattle.r6_waiters.specs.Line.{capacity_of, Line}
use Rattle.r6_core.specs.declared.queued.Queued.{Queued}
use Rattle.r6_core.specs.declared.state.State.{State}
use Rattle.r6_core.specs.Inside.{IsQueuedOf, IsSound, count_rows, is_turn}
use Rattle.r6_core.specs.Limits.{count_unheld}
use Rattle.r6_core.specs.Queued.{requests_in, waiting_request}
use Rattle.r6_core.specs.Shards.{replied_requests, requests_of, waiting_of}
use Rattle.r6_core.proofs.CountedRows.{counted_still}
use Rattle.r6_core.proofs.Kept.{own_rows_kept, requests_kept, sizes_kept}
use Rattle.r6_core.proofs.Lined.{SameRoom}
use Rattle.r6_core.proofs.Passed.{Passed, passed}
use Rattle.r6_core.proofs.Rooms.{rooms_same}
use Rattle.r6_core.proofs.SlotsKept.{calls_same}
use Rattle.r6_frames.proofs.Held.{all_append}

-- the request stood so among the direct reads, and waits at the end of the line
pub record IsBackInLine (s : State) (q : Queued) (was : shards.Request) (fs : Frames) (waiting : Line Queued) : Type 0 where
  pub sound : IsSound s
  pub frames : held.IsSound fs
  pub same : (fs.geometry ≡ s.frames.geometry) × (fs.shard ≡ s.frames.shard)
  pub reads : IsWithEntry (read_requests fs) (q.id, was) (read_requests s.frames)
  pub own : IsQueuedOf s.frames q
  pub holds : KeepsHolds s.frames fs
  pub slots : KeepsSlots s.frames fs
  pub next : fs.commands.next ≡ s.frames.commands.next
  pub items : requests_in waiting ≡ waiting_of s ++ q ∷ []
  pub room : SameRoom s.waiting waiting

module _ (s : State) (q : Queued) (was : shards.Request) (fs : Frames) (waiting : Line Queued) (is : IsBackInLine s q was fs waiting) where
  abbrev lined : State
  lined = record s { waiting = waiting; frames = fs }

  pub requests_lined : Passed (requests_of s) (requests_of lined) q.id was (waiting_request q).1
  requests_lined =
      let w = map waiting_request (waiting_of s) in
      let h = held_requests s.frames in
      let p = replied_requests s.frames.saw_failed s.released s.replies.items in
      let b = is.reads.before in
      let c = is.reads.behind in
      passed (w ++ (h ++ b)) (c ++ p) w ((h ++ (b ++ c)) ++ p) q.id was (waiting_request q).1 _ _
      ((λ i. w ++ ((h ++ is.reads.with i) ++ p)) ∙ (simp append_assoc))
      ((λ i. map waiting_request (is.items i) ++ ((requests_from 0 (is.holds i) ++ is.reads.without i) ++ replied_requests (is.slots.1 i) s.released s.replies.items))
      ∙ ap (λ es. es ++ ((h ++ (b ++ c)) ++ p)) (map-append waiting_request (waiting_of s) (q ∷ []))
      ∙ (simp append_assoc))
      (simp append_assoc)
      is.sound.requests.distinct

  pub one_fewer : length (read_requests fs) + 1 ≡ length (read_requests s.frames)
  one_fewer =
      let few = ap length is.reads.without ∙ length-append is.reads.before is.reads.behind in
      let many = ap length is.reads.with ∙ length-append is.reads.before ((q.id, was) ∷ is.reads.behind) in
      omega (arith, few, many)

  pub lined_sound : IsSound lined
  lined_sound =
      let one = requests_lined in
      let sound = is.sound in
      let geometry = is.same.0 in
      let longer = ap length is.items ∙ length-append (waiting_of s) (q ∷ []) in
      let owes : owed fs ≡ owed s.frames = ap (λ held. owed_in held) is.holds in
      let many : count_unheld lined ≡ count_unheld s = let fewer = one_fewer in omega (arith, longer, fewer) in
      let most : most_owed fs.geometry.slots * count_unheld lined ≡ most_owed s.frames.geometry.slots * count_unheld s = λ i. most_owed (geometry i).slots * many i in
      record {
        frames = is.frames;
        requests = record {
          distinct = one.distinct;
          numbered = one.keeps (λ id. id < s.accepted) sound.requests.numbered;
          counted = one.count ∙ sound.requests.counted;
          few = sound.requests.few;
          waiting = subst (AllByRecursion (IsQueuedOf fs)) (sym is.items)
              (requests_kept s.frames fs (waiting_of s ++ q ∷ []) geometry is.same.1
              (all_append (IsQueuedOf s.frames) (waiting_of s) (q ∷ []) sound.requests.waiting (is.own, tt)));
          sized = sizes_kept s.frames.geometry fs.geometry s.replies.items geometry sound.requests.sized;
          marked = sound.requests.marked;
        };
        room = record {
          waiting = is.room.0 ∙ sound.room.waiting;
          causes = is.room.1 ∙ sound.room.causes;
          replies = sound.room.replies;
          calls = sound.room.calls;
          few_calls = let same = calls_same s.frames fs (ap states_of is.slots.0) geometry in omega (arith, same, sound.room.few_calls);
          rooms = rooms_same s.rooms.items s.frames fs is.holds sound.room.rooms;
          space = sound.room.space;
        };
        tokens = omega (arith, owes, is.next, most, sound.tokens);
        accepted = sound.accepted;
        counted =
            let rows = λ (test : Job → _). ap (λ held. count_rows test held) is.holds in
            let next = is.next in
            counted_still s.counts s.frames fs sound.counted (let n = rows is_turn in omega (arith, n)) (let n = rows is_scrub in omega (arith, n)) (omega (arith, next));
        next_rows = own_rows_kept s.frames fs s.check_row s.repair_row geometry is.same.1 sound.next_rows;
      }

-- there is room for it
pub fits_in_line : (s : State) (fs : Frames) (entry : ℕ × shards.Request) → IsSound s → IsWithEntry (read_requests fs) entry (read_requests s.frames) → length (waiting_of s) < capacity_of s.waiting
fits_in_line s fs entry sound reads =
    let w = map waiting_request (waiting_of s) in
    let h = held_requests s.frames in
    let d = read_requests s.frames in
    let p = replied_requests s.frames.saw_failed s.released s.replies.items in
    let all = length-append w ((h ++ d) ++ p) in
    let framed = length-append (h ++ d) p in
    let parts = length-append h d in
    let many = length-map (waiting_of s) waiting_request in
    let all_reads = ap length reads.with ∙ length-append reads.before (entry ∷ reads.behind) in
    omega (arith, all, framed, parts, many, all_reads, sound.requests.counted, sound.requests.few, sound.room.waiting)
