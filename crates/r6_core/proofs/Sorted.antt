-- Replies that stand by number: the shard is the same.
use Rattle.std.proofs.Common.{◌≡◌, ℕ, Bool, ◌<◌, ◌≤◌, List, [], ◌∷◌, ◌++◌, map, take, drop, refl, sym, ap, subst, ◌∙◌, Option, length, arith, append_assoc}
use Rattle.std.specs.Prelude.{nat_eq, IsPermutation}
use Rattle.std.specs.List.{IsDistinct}
use Rattle.std.specs.List.Sorted.{IsNonDecreasingBy}
use Rattle.std.specs.Map.{keys_of}
use Rattle.circular_buffer.specs.Buffer.{Buffer}
use Rattle.std.proofs.lemmas.List.{take-append-drop, length-take-le}
use Rattle.std.proofs.lemmas.List.Sorted.{IsPermutation-refl, IsPermutation-append_right, IsPermutation-map, length_permutation}
use Rattle.r6_world.specs.ShardStates as shards
use Rattle.r6_world.specs.declared.values.Request.{Request}
use Rattle.r6_frames.specs.Calls.{HasOneBlock}
use Rattle.r6_frames.specs.Views.{shard_with}
use Rattle.r6_frames.proofs.Lists.{Entries}
use Rattle.r6_core.specs.declared.state.State.{State}
use Rattle.r6_core.specs.Shards.{rest_of, state_of, requests_of, waiting_request, finished_request, framed_requests, replied_requests, waiting_of}
use Rattle.r6_core.specs.Order.{IsRising}
use Rattle.r6_core.specs.Inside.{IsSound}
use Rattle.r6_core.proofs.ChangedTogether.{AreChanged, all_changed}
use Rattle.r6_core.proofs.Replied.{keys_replied, more_replied}
use Rattle.r6_core.proofs.Lined.{all_permuted}
use Rattle.r6_core.proofs.SeenFailure.{distinct_behind, rising}

pub rising_few : (rs : List Request) → length rs ≤ 1 → IsRising rs
rising_few [] few = tt
rising_few (r ∷ []) few = (tt, tt)
rising_few (r ∷ q ∷ rs) few = absurd (omega arith)

module _ (s : State) (from : ℕ) (sorted : Buffer Request) (sound : IsSound s) (released : s.released ≤ from) (within : from ≤ length s.replies.items)
    (before : take from sorted.items ≡ take from s.replies.items) (same : IsPermutation (drop from s.replies.items) (drop from sorted.items))
    (up : IsNonDecreasingBy (λ r. r.id) (drop from sorted.items)) (capacity : sorted.capacity ≡ s.replies.capacity) where
  abbrev pub by_number : State
  by_number = record s { replies = sorted }

  abbrev seen : Bool
  seen = s.frames.saw_failed

  abbrev first : List Request
  first = take from s.replies.items

  parts : s.replies.items ≡ first ++ drop from s.replies.items
  parts = sym (take-append-drop from s.replies.items)

  sorted_parts : sorted.items ≡ first ++ drop from sorted.items
  sorted_parts = sym (take-append-drop from sorted.items) ∙ ap (λ rs. rs ++ drop from sorted.items) before

  pub queue : IsPermutation s.replies.items sorted.items
  queue =
      subst (λ rs. IsPermutation rs sorted.items) (sym parts)
      (subst (IsPermutation (first ++ drop from s.replies.items)) (sym sorted_parts)
      (IsPermutation-append_right first (drop from s.replies.items) (drop from sorted.items) same))

  marked : s.released ≤ length first
  marked = let long = length-take-le from s.replies.items within in omega (arith, long, released)

  abbrev kept : Entries shards.Request
  kept = map waiting_request (waiting_of s) ++ (framed_requests s.frames ++ replied_requests seen s.released first)

  regrouped : (last : List Request) (rs : List Request) → rs ≡ first ++ last
      → map waiting_request (waiting_of s) ++ (framed_requests s.frames ++ replied_requests seen s.released rs) ≡ kept ++ map (finished_request seen) last
  regrouped last rs is =
      let w = map waiting_request (waiting_of s) in
      let f = framed_requests s.frames in
      let r = replied_requests seen s.released first in
      let l = map (finished_request seen) last in
      ap (λ es. w ++ (f ++ es)) (ap (replied_requests seen s.released) is ∙ more_replied seen s.released first last marked)
      ∙ ap (λ es. w ++ es) (sym (append_assoc f r l))
      ∙ sym (append_assoc w (f ++ r) l)

  was : requests_of s ≡ kept ++ map (finished_request seen) (drop from s.replies.items)
  was = regrouped (drop from s.replies.items) s.replies.items parts

  now : requests_of by_number ≡ kept ++ map (finished_request seen) (drop from sorted.items)
  now = regrouped (drop from sorted.items) sorted.items sorted_parts

  all : IsPermutation (requests_of s) (requests_of by_number)
  all =
      subst (λ es. IsPermutation es (requests_of by_number)) (sym was)
      (subst (IsPermutation (kept ++ map (finished_request seen) (drop from s.replies.items))) (sym now)
      (IsPermutation-append_right kept (map (finished_request seen) (drop from s.replies.items)) (map (finished_request seen) (drop from sorted.items))
      (IsPermutation-map (finished_request seen) (drop from s.replies.items) (drop from sorted.items) same)))

  requests_stay : AreChanged (λ q request. request) (requests_of s) (requests_of by_number)
  requests_stay =
      let old = requests_of s in
      all_changed (λ q request. request) old old old (requests_of by_number) (IsPermutation-refl old) refl (λ q. refl) all sound.requests.distinct

  pub same_state : state_of by_number ≡ state_of s
  same_state = ap (λ (request : ℕ → Option shards.Request). shard_with (record (rest_of s) { request = request }) s.frames) requests_stay.now

  pub sorted_rising : IsRising (drop from sorted.items)
  sorted_rising =
      let last = drop from sorted.items in
      let own : IsDistinct nat_eq (keys_of (replied_requests seen 0 last)) = distinct_behind kept (replied_requests seen 0 last) (subst (λ es. IsDistinct nat_eq (keys_of es)) now requests_stay.distinct) in
      rising last up (subst (IsDistinct nat_eq) (keys_replied seen 0 last) own)

  pub sorted_sound : IsSound by_number
  sorted_sound =
      let long = length_permutation s.replies.items sorted.items queue in
      record {
        frames = sound.frames;
        requests = record {
          distinct = requests_stay.distinct;
          numbered = requests_stay.keeps (λ id. id < s.accepted) sound.requests.numbered;
          counted = requests_stay.count ∙ sound.requests.counted;
          few = sound.requests.few;
          waiting = sound.requests.waiting;
          sized = all_permuted (HasOneBlock s.frames.geometry) s.replies.items sorted.items queue sound.requests.sized;
          marked = omega (arith, long, sound.requests.marked);
        };
        room = record {
          waiting = sound.room.waiting;
          causes = sound.room.causes;
          replies = capacity ∙ sound.room.replies;
          calls = sound.room.calls;
          few_calls = sound.room.few_calls;
          rooms = sound.room.rooms;
          space = sound.room.space;
        };
        tokens = sound.tokens;
        accepted = sound.accepted;
        counted = sound.counted;
        next_rows = sound.next_rows;
      }
