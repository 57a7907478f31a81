-- A hold can't go on with its read errors: their slots are lost, and there is room for the calls that declare it.
use Rattle.std.proofs.Common.{◌≡◌, ℕ, zero, suc, ◌+◌, ◌<◌, ◌≤◌, Bool, true, false, List, [], ◌∷◌, ◌++◌, map, length, refl, sym, ap, subst, ◌∙◌, inl, inr, arith, length-append, eq-eqb}
use Rattle.std.specs.Prelude.{if◌then◌else◌}
use Rattle.std.specs.List.{AllByRecursion}
use Rattle.std.specs.Map.{keys_of}
use Rattle.std.proofs.lemmas.Bool.{or_left, or_right}
use Rattle.std.proofs.lemmas.List.{length-map, map-append}
use Rattle.circular_buffer.specs.Buffer.{Buffer, buffer}
use Rattle.r6_layout.specs.Shape.{Shape}
use Rattle.r6_stripe.specs.Holds.{cell_at}
use Rattle.r6_stripe.specs.Plans.{is_in_error}
use Rattle.r6_world.specs.Tables.{put}
use Rattle.r6_world.specs.Layouts.{Layout}
use Rattle.r6_world.specs.Geometries.{layout_of}
use Rattle.r6_world.specs.Tasks.{Hold}
use Rattle.r6_world.specs.ShardStates.{Shard, SlotState, Synced, Missing, Building, Doubled, Paired, InSyncFor, LossOf, devices_of, has_device}
use Rattle.r6_world.specs.Changes.{Give_over, Move, after, in_error_from, lost_slot, lost_slots, slots_in_error, without}
use Rattle.r6_world.specs.Steps.{GivesOver as GivesOverSteps}
use Rattle.r6_world.proofs.Geometries.{layouts}
use Rattle.r6_frames.specs.declared.frames.Frames.{Frames}
use Rattle.r6_frames.specs.Slots.{states_of}
use Rattle.r6_frames.specs.Views.{held_requests, reads_on, shard_with, AreLive}
use Rattle.r6_frames.specs.Calls.{GivesOver as FramesGiveOver, MovesOver as FramesMoveOver, OwesNoMore, KeepsRows, losses_of}
use Rattle.r6_frames.specs.Owed.{MovesUnreadable}
use Rattle.r6_frames.specs.Reads.{KeepsReaders}
use Rattle.r6_frames.specs.Sound as held
use Rattle.r6_frames.proofs.Resting.{frame-held}
use Rattle.r6_core.specs.declared.call.Call.{Call}
use Rattle.r6_core.specs.declared.call.Call.TheVariants as call
use Rattle.r6_core.specs.declared.state.State.{State}
use Rattle.r6_core.specs.Shards.{call_of, layout_in, rest_of, state_of}
use Rattle.r6_core.specs.Inside.{AreReadable, GivesOver, IsSound, MovesOver, NoneMoves}
use Rattle.r6_core.specs.Limits.{most_calls}
use Rattle.r6_core.proofs.CallRoom.{few_slots, missing_more, most_of, most_put, without_more}
use Rattle.r6_core.proofs.Going.{no_rest, Goes, gone_on, gone_sound, rest_with}
use Rattle.r6_core.proofs.ReadOn.{keys_on, requests_on, tables_on}
use Rattle.r6_core.proofs.Throughs.{through_both, through_in, through_none, through_one}

-- ---- as many more calls may be to be made

-- these are slots of the array
abbrev AreSlots : (n : ℕ) → List ℕ → Type 0
AreSlots n slots = AllByRecursion (λ slot. slot < n) slots

-- with slots that are lost there may be as many calls more as come
lost_count : (l : Layout) (n : ℕ) (s : Shard) (lost : List ℕ) → AreSlots n lost → most_of s.slot n + length (lost_slots l s lost).calls ≤ most_of (lost_slots l s lost).slot n + length s.calls
lost_count l n s [] all = omega arith
lost_count l n s (slot ∷ lost) all =
    let one = most_put s.slot slot Missing n (length (devices_of (s.slot slot))) all.0 (missing_more (s.slot slot)) in
    let calls = length-append s.calls (map (LossOf slot) (devices_of (s.slot slot))) in
    let devices = length-map (devices_of (s.slot slot)) (LossOf slot) in
    let rest = lost_count l n (lost_slot l s slot) lost all.1 in
    omega (arith, one, calls, devices, rest)

-- those of a row's positions are
slots_of_row : (l : Layout) (h : Hold) (n at count : ℕ) → ((p : ℕ) → p < at + count → l.slot_at h.row p < n) → AreSlots n (in_error_from l h at count)
slots_of_row l h n at zero there = tt
slots_of_row l h n at (suc count) there = by_error (is_in_error (cell_at h.course.cells at)) (slots_of_row l h n (suc at) count (λ p below. there p (omega arith)))
  where
    by_error : (b : Bool) → AreSlots n (in_error_from l h (suc at) count) → AreSlots n (if b then l.slot_at h.row at ∷ in_error_from l h (suc at) count else in_error_from l h (suc at) count)
    by_error true rest = (there at (omega arith), rest)
    by_error false rest = rest

module _ (old new : Frames) (frame : ℕ) (losses : List (ℕ × ℕ)) (sound : held.IsSound old) (gives : FramesGiveOver old frame losses new) where
  abbrev l : Layout
  l = layout_of old.geometry

  abbrev s : Shard
  s = shard_with no_rest old

  abbrev hold : Hold
  hold = (gives.2 no_rest).0

  abbrev n : ℕ
  n = old.geometry.slots

  there : (p : ℕ) → p < 0 + length hold.course.cells → l.slot_at hold.row p < n
  there =
      let row = frame-held old frame hold (gives.2 no_rest).1.0 in
      subst (λ (x : Hold). (p : ℕ) → p < 0 + length x.course.cells → l.slot_at x.row p < n) row.2
      (λ p below.
      let is_held = sound.frames.rows frame row.0 row.1 in
      ((layouts old.geometry sound.shape).back row.0.row p is_held.own.0 (omega (arith, below, is_held.wide))).0)

  pub given_more : most_calls old + length losses ≤ most_calls new
  given_more =
      let is = (gives.2 no_rest).2 in
      let room = lost_count l n s (slots_in_error l hold) (slots_of_row l hold n 0 (length hold.course.cells) there) in
      let calls = ap (λ (x : Shard). length x.calls) is in
      let long = length-append no_rest.calls (losses_of losses) in
      let each = length-losses losses in
      let slots = ap (λ (x : Shard). most_of x.slot n) is in
      let wide : most_calls new ≡ most_of (states_of new.slots) n = ap (λ (g : Shape). most_of (states_of new.slots) g.slots) gives.0 in
      omega (arith, calls, long, each, room, slots, wide)
    where
      length-losses : (some : List (ℕ × ℕ)) → length (losses_of some) ≡ length some
      length-losses [] = refl
      length-losses (loss ∷ some) = omega (arith, length-losses some)

-- ---- the state then

-- the calls that declare losses
abbrev pub declared : List (ℕ × ℕ) → List Call
declared losses = map (λ loss. call.DeclareLost loss.0 loss.1) losses

declared_are : (losses : List (ℕ × ℕ)) → map call_of (declared losses) ≡ losses_of losses
declared_are [] = refl
declared_are (loss ∷ losses) = ap (λ calls. LossOf loss.0 loss.1 ∷ calls) (declared_are losses)

pub length-declared : (losses : List (ℕ × ℕ)) → length (declared losses) ≡ length losses
length-declared [] = refl
length-declared (loss ∷ losses) = omega (arith, length-declared losses)

module _ (s : State) (fs : Frames) (frame : ℕ) (losses : List (ℕ × ℕ)) (sound : IsSound s) (frames : held.IsSound fs) (gives : FramesGiveOver s.frames frame losses fs)
    (owes : OwesNoMore s.frames fs) (requests : held_requests fs ≡ held_requests s.frames) (rows : KeepsRows s.frames fs) where
  -- there is room for a call of each
  pub losses_fit : length s.calls.items + length losses ≤ s.calls.capacity
  losses_fit =
      let more = given_more s.frames fs frame losses sound.frames gives in
      let all = few_slots fs in
      let wide = ap (λ (g : Shape). g.slots) gives.0 in
      omega (arith, more, all, wide, sound.room.few_calls, sound.room.calls, sound.frames.shape.slots_allowed.1)

  abbrev calls : Buffer Call
  calls = buffer (s.calls.items ++ declared losses) s.calls.capacity

  given_goes : Goes s fs calls
  given_goes = record {
    sound = frames;
    geometry = gives.0;
    shard = gives.1;
    seen = lost_seen (layout_of s.frames.geometry) (shard_with no_rest s.frames) (slots_in_error (layout_of s.frames.geometry) (gives.2 no_rest).0) (ap (λ (x : Shard). x.saw_failed) (gives.2 no_rest).2);
    requests = requests;
    reads = ap keys_of gives.3 ∙ keys_on fs _;
    rows = rows;
    tokens = let a = owes.0 in let b = owes.1 in omega (arith, a, b);
    given = let b = owes.1 in omega (arith, b);
    room = refl;
    few =
        let more = given_more s.frames fs frame losses sound.frames gives in
        let long = length-append s.calls.items (declared losses) in
        let each = length-declared losses in
        omega (arith, more, long, each, sound.room.few_calls);
  }
    where
      lost_seen : (l : Layout) (x : Shard) (slots : List ℕ) → fs.saw_failed ≡ (lost_slots l x slots).saw_failed → fs.saw_failed ≡ x.saw_failed
      lost_seen l x [] is = is
      lost_seen l x (slot ∷ slots) is = lost_seen l (lost_slot l x slot) slots is

  abbrev pub given : State
  given = gone_on s fs calls

  given_state : state_of given ≡ after (layout_in s) (state_of s) (Give_over frame (gives.2 (rest_of s)).0)
  given_state =
      let more = map-append call_of s.calls.items (declared losses) ∙ ap (λ cs. map call_of s.calls.items ++ cs) (declared_are losses) in
      ap (λ (request : ℕ → _). shard_with (record (rest_with s calls) { request = request }) fs)
      (tables_on s fs _ (requests_on s given refl refl refl requests gives.3 given_goes.seen))
      ∙ ap (λ cs. shard_with (record (reads_on fs (rest_of s)) { calls = cs }) fs) more ∙ (gives.2 (rest_of s)).2

  pub gives_over : (AreLive fs → ⊥) → KeepsReaders s.frames fs → GivesOver s given
  gives_over stopped readers = record {
    sound = gone_sound s fs calls sound given_goes;
    leads = through_one (layout_in s) s.frames.shard GivesOverSteps (state_of s) (state_of given) (Give_over frame (gives.2 (rest_of s)).0) (record {}) (gives.2 (rest_of s)).1 given_state;
    readable = λ live. absurd (stopped live);
    same = (gives.0, gives.1);
    readers = readers;
    rest = refl;
  }

-- none is lost
pub gives_none : (s : State) → IsSound s → AreReadable s.frames → GivesOver s s
gives_none s sound readable = record {
  sound = sound;
  leads = through_none (layout_in s) s.frames.shard GivesOverSteps (state_of s) (state_of s) refl;
  readable = readable;
  same = (refl, refl);
  readers = λ number. refl;
  rest = refl;
}

-- ---- the first of two devices is lost

in_sync_there : (state : SlotState) (row generation : ℕ) → InSyncFor state row generation → has_device state generation ≡ true
in_sync_there (Synced current) row generation is = eq-eqb current generation (sym is)
in_sync_there Missing row generation is = absurd is
in_sync_there (Building current built) row generation is = eq-eqb current generation (sym is.0)
in_sync_there (Doubled old new built) row generation (inl is) = or_left _ _ (eq-eqb old generation (sym is))
in_sync_there (Doubled old new built) row generation (inr is) = or_right _ _ (eq-eqb new generation (sym is.0))
in_sync_there (Paired old new) row generation (inl is) = or_left _ _ (eq-eqb old generation (sym is))
in_sync_there (Paired old new) row generation (inr is) = or_right _ _ (eq-eqb new generation (sym is))

-- there may be one call more
moved_more : (old new : Frames) (frame slot generation : ℕ) → FramesMoveOver old frame slot generation new → most_calls old + 1 ≤ most_calls new
moved_more old new frame slot generation moves =
    let moved = moves.2 no_rest in
    let state = states_of old.slots slot in
    let has = in_sync_there state _ generation moved.1.2.0 in
    let more = most_put (states_of old.slots) slot (without state generation) old.geometry.slots 1 moved.1.1 (without_more state generation has) in
    let slots : states_of new.slots ≡ put (states_of old.slots) slot (without state generation) = ap (λ (x : Shard). x.slot) moved.2 in
    let same : most_calls new ≡ most_of (put (states_of old.slots) slot (without state generation)) old.geometry.slots = λ i. most_of (slots i) (moves.0 i).slots in
    omega (arith, more, same)

module _ (s : State) (fs : Frames) (frame slot generation : ℕ) (sound : IsSound s) (frames : held.IsSound fs) (moves : FramesMoveOver s.frames frame slot generation fs)
    (owes : OwesNoMore s.frames fs) (requests : held_requests fs ≡ held_requests s.frames) (rows : KeepsRows s.frames fs) where
  -- there is room for a call of it
  pub move_fits : length s.calls.items < s.calls.capacity
  move_fits =
      let more = moved_more s.frames fs frame slot generation moves in
      let all = few_slots fs in
      let wide = ap (λ (g : Shape). g.slots) moves.0 in
      omega (arith, more, all, wide, sound.room.few_calls, sound.room.calls, sound.frames.shape.slots_allowed.1)

  abbrev pub calls_moved : Buffer Call
  calls_moved = buffer (s.calls.items ++ call.DeclareLost slot generation ∷ []) s.calls.capacity

  moved_goes : Goes s fs calls_moved
  moved_goes = record {
    sound = frames;
    geometry = moves.0;
    shard = moves.1;
    seen = ap (λ (x : Shard). x.saw_failed) (moves.2 no_rest).2;
    requests = requests;
    reads = ap keys_of moves.3 ∙ keys_on fs _;
    rows = rows;
    tokens = let a = owes.0 in let b = owes.1 in omega (arith, a, b);
    given = let b = owes.1 in omega (arith, b);
    room = refl;
    few =
        let more = moved_more s.frames fs frame slot generation moves in
        let long = length-append s.calls.items (call.DeclareLost slot generation ∷ []) in
        omega (arith, more, long, sound.room.few_calls);
  }

  abbrev pub moved_on : State
  moved_on = gone_on s fs calls_moved

  moved_state : state_of moved_on ≡ after (layout_in s) (state_of s) (Move frame (moves.2 (rest_of s)).0 slot generation)
  moved_state =
      let more = map-append call_of s.calls.items (call.DeclareLost slot generation ∷ []) in
      ap (λ (request : ℕ → _). shard_with (record (rest_with s calls_moved) { request = request }) fs)
      (tables_on s fs _ (requests_on s moved_on refl refl refl requests moves.3 moved_goes.seen))
      ∙ ap (λ cs. shard_with (record (reads_on fs (rest_of s)) { calls = cs }) fs) more ∙ (moves.2 (rest_of s)).2

  pub moves_over : ((other : ℕ) → MovesUnreadable fs other → ⊥) → KeepsReaders s.frames fs → MovesOver s moved_on
  moves_over last readers = record {
    sound = gone_sound s fs calls_moved sound moved_goes;
    leads = through_one (layout_in s) s.frames.shard GivesOverSteps (state_of s) (state_of moved_on) (Move frame (moves.2 (rest_of s)).0 slot generation) (record {}) (moves.2 (rest_of s)).1 moved_state;
    moved = λ live. last;
    same = (moves.0, moves.1);
    readers = readers;
    rest = refl;
  }

-- none is
pub moves_none : (s : State) → IsSound s → NoneMoves s.frames → MovesOver s s
moves_none s sound none = record {
  sound = sound;
  leads = through_none (layout_in s) s.frames.shard GivesOverSteps (state_of s) (state_of s) refl;
  moved = none;
  same = (refl, refl);
  readers = λ number. refl;
  rest = refl;
}

-- and then slots are lost
pub both_over : (s mid new : State) → MovesOver s mid → GivesOver mid new → GivesOver s new
both_over s mid new moves gives = record {
  sound = gives.sound;
  leads =
      through_both (layout_in s) s.frames.shard GivesOverSteps (state_of s) (state_of mid) (state_of new) moves.leads
      (through_in s.frames.geometry mid.frames.geometry s.frames.shard mid.frames.shard GivesOverSteps (state_of mid) (state_of new) moves.same.0 moves.same.1 gives.leads);
  readable = gives.readable;
  same = (gives.same.0 ∙ moves.same.0, gives.same.1 ∙ moves.same.1);
  readers = λ number. gives.readers number ∙ moves.readers number;
  rest = gives.rest ∙ ap (λ (x : State). record x { frames = new.frames; calls = new.calls }) moves.rest;
}
