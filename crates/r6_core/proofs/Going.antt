-- The frames go on, for the same requests.
use Rattle.std.proofs.Common.{◌≡◌, ℕ, ◌+◌, ◌*◌, ◌<◌, ◌≤◌, List, [], ◌∷◌, ◌++◌, map, length, refl, ap, sym, subst, ◌∙◌, None, arith}
use Rattle.std.specs.Prelude.{nat_eq}
use Rattle.std.specs.List.{IsDistinct, AllByRecursion}
use Rattle.std.specs.Map.{keys_of}
use Rattle.std.proofs.lemmas.List.{map-append}
use Rattle.circular_buffer.specs.Buffer.{Buffer}
use Rattle.r6_world.specs.Layouts.{Layout}
use Rattle.r6_world.specs.Geometries.{layout_of}
use Rattle.r6_world.specs.ShardStates.{Shard}
use Rattle.r6_world.specs.Changes.{Change, Ask, Ask_again, Fix, Prepare, Classify, Send, Copy, Learn, Confirm, after, Give_direct}
use Rattle.r6_world.specs.Steps.{GoesOn, Leads, Takes, Good, Taken}
use Rattle.r6_frames.specs.declared.frames.Frames.{Frames}
use Rattle.r6_frames.specs.Slots.{states_of}
use Rattle.r6_frames.specs.Views.{Rest, AreLive, held_requests, shard_with}
use Rattle.r6_frames.specs.Directs.{read_requests}
use Rattle.r6_frames.specs.Calls.{Between, PutsOut, Drives, Answers, Classifies, KeepsReads, KeepsRows}
use Rattle.r6_frames.specs.Owed.{owed, most_owed}
use Rattle.r6_frames.specs.Sound as held
use Rattle.r6_core.specs.declared.call.Call.{Call}
use Rattle.r6_core.specs.declared.state.State.{State}
use Rattle.r6_core.specs.Shards.{state_of, layout_in, rest_of, requests_of, framed_requests, call_of, counts_of, waiting_request, replied_requests, table, waiting_of}
use Rattle.r6_core.specs.Inside.{AreReadOn, IsReadOn, IsSound, none_counted}
use Rattle.r6_core.specs.Limits.{count_unheld, most_calls, count_untold}
use Rattle.r6_core.proofs.Rooms.{rooms_still}
use Rattle.r6_core.proofs.CountedRows.{counted_kept, same_or_fewer}
use Rattle.r6_core.proofs.Kept.{own_rows_kept, requests_kept, sizes_kept}
use Rattle.r6_core.proofs.Replied.{as_many, keys_requests, numbers}
use Rattle.r6_core.proofs.SlotsKept.{drives_keep, calls_same}
use Rattle.r6_core.proofs.Throughs.{tokens_grow}

-- ---- lists of changes of another shape

pub puts_out_on : (change : Change) → PutsOut change → GoesOn change
puts_out_on (Ask frame h slot generation) is = record {}
puts_out_on (Prepare frame h event) is = record {}
puts_out_on (Send frame h slot generation block) is = record {}
puts_out_on (Copy frame h slot generation block) is = record {}
puts_out_on (Fix frame h slot generation block) is = record {}
puts_out_on (Ask_again frame h slot generation) is = record {}
puts_out_on change is = absurd is

pub classifies_on : (change : Change) → Classifies change → GoesOn change
classifies_on (Classify frame h class) is = record {}
classifies_on change is = absurd is

-- ---- the slots stay as they are

abbrev pub KeepsSlots : Shard → Shard → Type 0
KeepsSlots old new = (new.slot ≡ old.slot) × (new.saw_failed ≡ old.saw_failed)

pub answer_kept : (l : Layout) (s : Shard) (token : ℕ) (block : List ℕ) (change : Change) → Takes l s token (Good block) Taken change → KeepsSlots s (after l s change)
answer_kept l s token block (Learn t c h learned) is = (refl, refl)
answer_kept l s token block (Confirm t c h) is = (refl, refl)
answer_kept l s token block (Give_direct t c id number given) is = (refl, refl)
answer_kept l s token block change is = absurd is

classified_kept : (l : Layout) (s : Shard) (change : Change) → Classifies change → KeepsSlots s (after l s change)
classified_kept l s (Classify frame h class) is = (refl, refl)
classified_kept l s change is = absurd is

classified_led : (l : Layout) (n : ℕ) (old new : Shard) (changes : List Change) → Leads l n Classifies old changes new → KeepsSlots old new
classified_led l n old new [] leads = (ap (λ (s : Shard). s.slot) leads, ap (λ (s : Shard). s.saw_failed) leads)
classified_led l n old new (change ∷ changes) leads =
    let first = classified_kept l old change leads.0 in
    let rest = classified_led l n (after l old change) new changes leads.2 in
    (rest.0 ∙ first.0, rest.1 ∙ first.1)

-- ---- the state when its frames go on

-- the frames go on for the same requests, and more calls may be to be made
pub record Goes (s : State) (fs : Frames) (calls : Buffer Call) : Type 0 where
  pub sound : held.IsSound fs
  pub geometry : fs.geometry ≡ s.frames.geometry
  pub shard : fs.shard ≡ s.frames.shard
  pub seen : fs.saw_failed ≡ s.frames.saw_failed
  pub requests : held_requests fs ≡ held_requests s.frames
  pub reads : keys_of (read_requests fs) ≡ keys_of (read_requests s.frames)
  pub rows : KeepsRows s.frames fs
  pub tokens : fs.commands.next + owed fs ≤ s.frames.commands.next + owed s.frames
  pub given : s.frames.commands.next ≤ fs.commands.next
  pub room : calls.capacity ≡ s.calls.capacity
  pub few : length calls.items + count_untold s.untold ≤ most_calls fs

abbrev pub gone_on : State → Frames → Buffer Call → State
gone_on s fs calls = record s { frames = fs; calls = calls }

-- the numbers of the requests are the same
pub keys_framed : (old new : Frames) → held_requests new ≡ held_requests old → keys_of (read_requests new) ≡ keys_of (read_requests old)
    → keys_of (framed_requests new) ≡ keys_of (framed_requests old)
keys_framed old new held reads =
    map-append (λ e. e.0) (held_requests new) (read_requests new)
    ∙ (λ i. keys_of (held i) ++ reads i)
    ∙ sym (map-append (λ e. e.0) (held_requests old) (read_requests old))

pub gone_keys : (s : State) (fs : Frames) (calls : Buffer Call) → Goes s fs calls → keys_of (requests_of (gone_on s fs calls)) ≡ keys_of (requests_of s)
gone_keys s fs calls goes =
    keys_requests (gone_on s fs calls)
    ∙ ap (λ ks. keys_of (map waiting_request (waiting_of s)) ++ (ks ++ numbers s.replies.items)) (keys_framed s.frames fs goes.requests goes.reads)
    ∙ sym (keys_requests s)

-- and so are the requests, if none was read directly whose command is abandoned
pub gone_requests : (s : State) (fs : Frames) (calls : Buffer Call) → Goes s fs calls → KeepsReads s.frames fs → requests_of (gone_on s fs calls) ≡ requests_of s
gone_requests s fs calls goes reads =
    λ i. map waiting_request (waiting_of s) ++ ((goes.requests i ++ reads i) ++ replied_requests (goes.seen i) s.released s.replies.items)

-- what the shard has beside its frames, with these calls
abbrev pub rest_with : State → Buffer Call → Rest
rest_with s calls = record (rest_of s) { calls = map call_of calls.items }

pub gone_state : (s : State) (fs : Frames) (calls : Buffer Call) → Goes s fs calls → KeepsReads s.frames fs → state_of (gone_on s fs calls) ≡ shard_with (rest_with s calls) fs
gone_state s fs calls goes reads = ap (λ es. shard_with (record (rest_with s calls) { request = table es }) fs) (gone_requests s fs calls goes reads)

-- what is between the frames is between the states
pub between_states : (Leads : Layout → ℕ → Shard → Shard → Type 0) (s : State) (fs : Frames) → Goes s fs s.calls → Between Leads s.frames fs
    → Leads (layout_in s) s.frames.shard (state_of s) (state_of (gone_on s fs s.calls))
between_states Leads s fs goes between =
    subst (λ (x : Shard). Leads (layout_in s) s.frames.shard (state_of s) x) (sym (gone_state s fs s.calls goes between.3)) (between.2 (rest_of s))

pub gone_sound : (s : State) (fs : Frames) (calls : Buffer Call) → IsSound s → Goes s fs calls → IsSound (gone_on s fs calls)
gone_sound s fs calls sound goes =
    let same = gone_keys s fs calls goes in
    record {
      frames = goes.sound;
      requests = record {
        distinct = subst (IsDistinct nat_eq) (sym same) sound.requests.distinct;
        numbered = subst (AllByRecursion (λ id. id < s.accepted)) (sym same) sound.requests.numbered;
        counted = as_many (requests_of (gone_on s fs calls)) (requests_of s) same ∙ sound.requests.counted;
        few = sound.requests.few;
        waiting = requests_kept s.frames fs (waiting_of s) goes.geometry goes.shard sound.requests.waiting;
        sized = sizes_kept s.frames.geometry fs.geometry s.replies.items goes.geometry sound.requests.sized;
        marked = sound.requests.marked;
      };
      room = record {
        waiting = sound.room.waiting;
        causes = sound.room.causes;
        replies = sound.room.replies;
        calls = goes.room ∙ sound.room.calls;
        few_calls = goes.few;
        rooms = rooms_still s.rooms.items s.frames fs sound.frames goes.sound goes.rows sound.room.rooms;
        space = sound.room.space;
      };
      tokens =
          let reads = as_many (read_requests fs) (read_requests s.frames) goes.reads in
          let most : most_owed fs.geometry.slots * count_unheld (gone_on s fs calls) ≡ most_owed s.frames.geometry.slots * count_unheld s =
          λ i. most_owed (goes.geometry i).slots * (length (waiting_of s) + reads i) in
          omega (arith, most, goes.tokens, sound.tokens);
      accepted = sound.accepted;
      counted = counted_kept s.counts s.frames fs sound.counted (same_or_fewer s.frames fs sound.frames goes.sound goes.rows) goes.given;
      next_rows = own_rows_kept s.frames fs s.check_row s.repair_row goes.geometry goes.shard sound.next_rows;
    }

-- the direct reads go on where they are the same
pub reading_kept : (old new : Frames) → KeepsReads old new → AreReadOn old → AreReadOn new
reading_kept old new reads on = subst (AllByRecursion IsReadOn) (sym reads) on

-- ---- frames whose slots stay as they are

-- a shard with nothing beside its frames
abbrev pub no_rest : Rest
no_rest =
    record { accepted = 0; request = λ id. None; calls = []; untold = None; check_row = 0; repair_row = 0; counts = counts_of none_counted }

abbrev pub SlotsStay : Frames → Frames → Type 0
SlotsStay old new = (states_of new.slots ≡ states_of old.slots) × (new.saw_failed ≡ old.saw_failed)

pub goes_still : (s : State) (fs : Frames) → IsSound s → held.IsSound fs → fs.geometry ≡ s.frames.geometry → fs.shard ≡ s.frames.shard → SlotsStay s.frames fs
    → held_requests fs ≡ held_requests s.frames → KeepsReads s.frames fs → KeepsRows s.frames fs → fs.commands.next + owed fs ≤ s.frames.commands.next + owed s.frames
    → s.frames.commands.next ≤ fs.commands.next → Goes s fs s.calls
goes_still s fs sound frames geometry shard slots requests reads rows tokens given =
    record {
      sound = frames;
      geometry = geometry;
      shard = shard;
      seen = slots.1;
      requests = requests;
      reads = ap keys_of reads;
      rows = rows;
      tokens = tokens;
      given = given;
      room = refl;
      few =
          let out = calls_same s.frames fs slots.0 geometry in
          omega (arith, out, sound.room.few_calls);
    }

pub drives_still : (old new : Frames) → AreLive old → AreLive new → Drives old new → SlotsStay old new
drives_still old new live still drives = (drives_keep no_rest old new drives, still.1 ∙ sym live.1)

-- no token is taken back
pub drives_give : (old new : Frames) → Drives old new → old.commands.next ≤ new.commands.next
drives_give old new drives = tokens_grow (layout_of old.geometry) old.shard PutsOut (shard_with no_rest old) (shard_with no_rest new) (drives.2 no_rest)

pub answers_still : (old new : Frames) (token : ℕ) (block : List ℕ) → Answers old token block new → SlotsStay old new
answers_still old new token block answers =
    let took = answers.2 no_rest in
    let s = shard_with no_rest old in
    let l = layout_of old.geometry in
    let kept = answer_kept l s token block took.0 took.1 in
    let classed = classified_led l old.shard (after l s took.0) (shard_with no_rest new) took.3.0 took.3.1 in
    (classed.0 ∙ kept.0, classed.1 ∙ kept.1)
