-- A direct read met an error: its request waits again, to be held.
use Rattle.std.proofs.Common.{◌≡◌, ℕ, [], ◌∷◌, ◌++◌, true, refl, sym, ap, subst, ◌∙◌, Option, Some}
use Rattle.std.specs.List.{AllByRecursion}
use Rattle.r6_world.specs.Tables.{put}
use Rattle.r6_world.specs.ShardStates as shards
use Rattle.r6_world.specs.ShardStates.{Erred, Reading}
use Rattle.r6_world.specs.Changes.{Set_back, after}
use Rattle.r6_world.specs.Steps.{GoesOn, Read_error, Taken}
use Rattle.r6_world.specs.Values.{op_of}
use Rattle.r6_world.specs.declared.values.Request.{Request}
use Rattle.r6_frames.specs.declared.frames.Frames.{Frames}
use Rattle.r6_frames.specs.Slots.{states_of}
use Rattle.r6_frames.specs.Calls.{IsRequestOf, KeepsHolds, KeepsSlots}
use Rattle.r6_frames.specs.Directs.{read_entry, read_requests}
use Rattle.r6_frames.specs.Reads.{IsWithEntry, SetsBack}
use Rattle.r6_frames.specs.Sound as held
use Rattle.r6_frames.specs.Views.{command_of, hold_at, shard_with, AreLive}
use Rattle.r6_waiters.specs.Line.{Line}
use Rattle.r6_core.specs.declared.queued.Queued.{Queued}
use Rattle.r6_core.specs.declared.state.State.{State}
use Rattle.r6_core.specs.Inside.{IsQueuedOf, IsReadOn, IsSettled, TakesThrough}
use Rattle.r6_core.specs.Queued.{requests_in, waiting_request}
use Rattle.r6_core.specs.Order.{IsSetBack}
use Rattle.r6_core.specs.Shards.{layout_in, rest_of, state_of, waiting_of}
use Rattle.r6_core.proofs.Answering.{live_still, rested_kept}
use Rattle.r6_core.proofs.BackInLine.{IsBackInLine, lined_sound, requests_lined}
use Rattle.r6_core.proofs.Lined.{SameRoom}
use Rattle.r6_core.proofs.Passed.{all-middle}
use Rattle.r6_core.proofs.Throughs.{goes_on_only, through_none}

-- so it waits
abbrev pub erred : Request → Queued
erred r = record { id = r.id; op = r.op; erred = true }

module _ (s : State) (token : ℕ) (request : Request) (fs : Frames) (waiting : Line Queued) (core : IsSettled s) (frames : held.IsSound fs) (live : AreLive fs)
    (sets : SetsBack s.frames token request fs) (holds : KeepsHolds s.frames fs) (slots : KeepsSlots s.frames fs) (next : fs.commands.next ≡ s.frames.commands.next)
    (items : requests_in waiting ≡ waiting_of s ++ erred request ∷ []) (room : SameRoom s.waiting waiting) where
  abbrev pub set_back : State
  set_back = record s { waiting = waiting; frames = fs }

  abbrev was : shards.Request
  was = (read_entry sets.read (Reading token)).1

  in_line : IsBackInLine s (erred request) was fs waiting
  in_line = record {
    sound = core.sound;
    frames = frames;
    same = sets.same;
    reads = subst (λ (r : Request). IsWithEntry (read_requests fs) (r.id, was) (read_requests s.frames)) (sym sets.is) sets.requests;
    own = subst (λ (r : Request). IsQueuedOf s.frames (erred r)) (sym sets.is) (record { request = subst (IsRequestOf s.frames) sets.is sets.of; read = λ e. refl });
    holds = holds;
    slots = slots;
    next = next;
    items = items;
    room = room;
  }

  pub set_back_takes : TakesThrough s token Read_error Taken set_back
  set_back_takes =
      let moved = requests_lined s (erred request) was fs waiting in_line in
      let entry : ◌≡◌ {A = ℕ × shards.Request} (waiting_request (erred request)) (read_entry sets.read Erred) = ap (λ r. waiting_request (erred r)) sets.is in
      let stood = subst (λ (id : ℕ). (state_of s).request id ≡ Some was) (ap (λ (r : Request). r.id) sets.is) moved.was in
      let shard = sets.shard (rest_of s) stood in
      let change = Set_back token (command_of s.frames.slots s.frames.next_taken token shard.0) sets.read.served.id sets.read.served.block in
      let table = moved.now ∙ ap (λ (e : ℕ × shards.Request). put (state_of s).request e.0 (Some e.1)) entry in
      let is : state_of set_back ≡ after (layout_in s) (state_of s) change =
      ap (λ (request : ℕ → Option shards.Request). shard_with (record (rest_of s) { request = request }) fs) table ∙ shard.4 in (
        change,
        (refl, shard.2),
        shard.3,
        goes_on_only (layout_in s) s.frames.shard (after (layout_in s) (state_of s) change) (state_of set_back)
            (through_none (layout_in s) s.frames.shard GoesOn (after (layout_in s) (state_of s) change) (state_of set_back) is),
      )

  pub set_back_again : IsSetBack (state_of s) token (erred request ∷ [])
  set_back_again =
      let moved = requests_lined s (erred request) was fs waiting in_line in
      (erred request, refl, refl, moved.was ∙ ap (λ r. Some (record { op = op_of r.op; stage = Reading token })) (sym sets.is))

  pub set_back_settled : IsSettled set_back
  set_back_settled = record {
    sound = lined_sound s (erred request) was fs waiting in_line;
    reading =
        subst (AllByRecursion IsReadOn) (sym sets.requests.without)
        (all-middle IsReadOn sets.requests.before (read_entry sets.read (Reading token)) sets.requests.behind (subst (AllByRecursion IsReadOn) sets.requests.with core.reading)).1;
    rested = λ _ f. rested_kept s.frames fs f (ap (λ held. hold_at held f) holds) (core.rested (live_still s.frames fs sets.same.0 (ap states_of slots.0, slots.1) live) f);
  }
