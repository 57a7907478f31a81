-- A device is lost: its slot goes out, and the loss is to be declared.
use Rattle.std.proofs.Common.{List, ◌≡◌, ℕ, ◌+◌, ◌<◌, ◌≤◌, Bool, true, false, [], ◌∷◌, ◌++◌, map, length, take, drop, refl, sym, ap, subst, ◌∙◌, Option, Some, inl, inr, arith, length-append}
use Rattle.std.proofs.lemmas.List.{map-append}
use Rattle.circular_buffer.specs.Buffer.{Buffer, buffer}
use Rattle.std.specs.Map.{keys_of}
use Rattle.std.specs.Prelude.{◌||◌, not}
use Rattle.r6_frames.specs.Directs.{read_requests}
use Rattle.r6_layout.specs.Shape.{Shape}
use Rattle.r6_world.specs.Tables.{put}
use Rattle.r6_world.specs.ShardStates as shards
use Rattle.r6_world.specs.ShardStates.{Shard, has_device, is_first_read}
use Rattle.r6_world.specs.Changes.{Lose, after, without}
use Rattle.r6_world.specs.Steps.{GivesOver as GivesOverSteps, GoOn, GoesOn, Through, Error, Read_error, Taken}
use Rattle.r6_frames.specs.declared.command.Outstanding.{Outstanding}
use Rattle.r6_frames.specs.declared.frames.FrameUse.{FrameUse}
use Rattle.r6_frames.specs.declared.frames.Frames.{Frames}
use Rattle.r6_frames.specs.declared.slots.Slot.{Slot}
use Rattle.r6_frames.specs.Slots.{states_of, count_out, is_abandoned}
use Rattle.r6_frames.specs.Views.{hold_at, outstanding, command_of, held_requests, reads_on, shard_with}
use Rattle.r6_frames.specs.Calls.{IsFirstRead, Loses, KeepsRows}
use Rattle.r6_frames.specs.Owed.{owed}
use Rattle.r6_frames.specs.Sound as held
use Rattle.r6_frames.proofs.Resting.{command-there}
use Rattle.r6_core.specs.declared.call.Call.{Call}
use Rattle.r6_core.specs.declared.call.Call.TheVariants as call
use Rattle.r6_core.specs.declared.state.State.{State}
use Rattle.r6_core.specs.Shards.{call_of, state_of, rest_of, layout_in, requests_in}
use Rattle.r6_frames.specs.Reads.{KeepsReaders}
use Rattle.r6_core.specs.Order.{Finishes}
use Rattle.r6_core.proofs.HandedBack.{were_read}
use Rattle.r6_core.specs.Inside.{AreReadable, GivesOver, HandsBack, IsSettled, IsSound, LosesThrough, ReadAgain, Seen, TakesThrough}
use Rattle.r6_core.specs.Limits.{most_calls}
use Rattle.r6_core.proofs.CallRoom.{few_slots, most_of, most_put, without_more}
use Rattle.r6_core.proofs.Going.{no_rest, Goes, gone_on, rest_with}
use Rattle.r6_core.proofs.ReadOn.{keys_on, requests_on, tables_on}
use Rattle.r6_core.proofs.Throughs.{through_in}

-- ---- a command that is wanted went to a device that is there

pub wanted_there : (slots : List Slot) (token : ℕ) (c : Outstanding) → is_abandoned slots token c ≡ false → has_device (states_of slots c.slot) c.generation ≡ true
wanted_there slots token c wanted = of_parts (has_device (states_of slots c.slot) c.generation) _ wanted
  where
    of_parts : (b d : Bool) → (not b || d) ≡ false → b ≡ true
    of_parts true d e = refl
    of_parts false d e = absurd (cc)

-- ---- the loss

-- there may be one call more
lost_more : (old new : Frames) (token slot generation : ℕ) → held.IsSound old → Loses old token slot generation new
    → most_calls old + 1 ≤ most_calls new
lost_more old new token slot generation sound loses =
    let lost = loses.2 no_rest in
    let c = lost.0 in
    let there = command-there no_rest old token c lost.4.0 in
    let x = there.0 in
    let here : x.slot ≡ c.slot = ap (λ (c : shards.Command). c.slot) there.2 in
    let inside = (sound.commands.lawful token x there.1).0 in
    let wanted : is_abandoned old.slots token x ≡ false = ap (λ (c : shards.Command). c.abandoned) there.2 ∙ lost.4.1 in
    let has : has_device (states_of old.slots c.slot) c.generation ≡ true =
    (λ i. has_device (states_of old.slots (sym here i)) ((ap (λ (c : shards.Command). c.generation) (sym there.2)) i)) ∙ wanted_there old.slots token x wanted in
    let more = most_put (states_of old.slots) c.slot (without (states_of old.slots c.slot) c.generation) old.geometry.slots 1 (omega (arith, here, inside)) (without_more (states_of old.slots c.slot) c.generation has) in
    let slots : states_of new.slots ≡ put (states_of old.slots) c.slot (without (states_of old.slots c.slot) c.generation) = ap (λ (x : Shard). x.slot) lost.5 in
    let same : most_calls new ≡ most_of (put (states_of old.slots) c.slot (without (states_of old.slots c.slot) c.generation)) old.geometry.slots = λ i. most_of (slots i) (loses.0 i).slots in
    omega (arith, more, same)

-- there is room for the call that declares it
pub loss_fits : (s : State) (fs : Frames) (token slot generation : ℕ) → IsSound s → Loses s.frames token slot generation fs → length s.calls.items < s.calls.capacity
loss_fits s fs token slot generation sound loses =
    let more = lost_more s.frames fs token slot generation sound.frames loses in
    let all = few_slots fs in
    let wide = ap (λ (g : Shape). g.slots) loses.0 in
    omega (arith, more, all, wide, sound.room.few_calls, sound.room.calls, sound.frames.shape.slots_allowed.1)

pub lost_goes : (s : State) (fs : Frames) (calls : Buffer Call) (token slot generation : ℕ) → IsSound s → held.IsSound fs → Loses s.frames token slot generation fs
    → (owed fs ≤ owed s.frames) × (fs.commands.next ≡ s.frames.commands.next) → held_requests fs ≡ held_requests s.frames → KeepsRows s.frames fs
    → calls ≡ buffer (s.calls.items ++ call.DeclareLost slot generation ∷ []) s.calls.capacity → Goes s fs calls
lost_goes s fs calls token slot generation sound frames loses tokens requests rows pushed =
    record {
      sound = frames;
      geometry = loses.0;
      shard = loses.1;
      seen = ap (λ (x : Shard). x.saw_failed) (loses.2 no_rest).5;
      requests = requests;
      reads = ap keys_of loses.3 ∙ keys_on fs (read_requests s.frames);
      rows = rows;
      tokens = let a = tokens.0 in let b = tokens.1 in omega (arith, a, b);
      given = let b = tokens.1 in omega (arith, b);
      room = ap (λ (b : Buffer Call). b.capacity) pushed;
      few =
          let more = lost_more s.frames fs token slot generation sound.frames loses in
          let one = ap (λ (b : Buffer Call). length b.items) pushed ∙ length-append s.calls.items (call.DeclareLost slot generation ∷ []) in
          omega (arith, more, one, sound.room.few_calls);
    }

-- slots are lost for read errors, direct reads wait again, and holds go on
pub went_on : (s mid given back new : State) (from : Shard) → mid.frames.geometry ≡ s.frames.geometry → mid.frames.shard ≡ s.frames.shard → state_of mid ≡ from → GivesOver mid given → HandsBack given back
    → Through (layout_in back) back.frames.shard GoesOn (state_of back) (state_of new) → GoOn (layout_in s) s.frames.shard from (state_of new)
went_on s mid given back new from shape shard is gives handed leads =
    let lost = through_in s.frames.geometry mid.frames.geometry s.frames.shard mid.frames.shard GivesOverSteps (state_of mid) (state_of given) shape shard gives.leads in
    let goes = through_in s.frames.geometry back.frames.geometry s.frames.shard back.frames.shard GoesOn (state_of back) (state_of new)
    (handed.geometry.0 ∙ gives.same.0 ∙ shape) (handed.geometry.1 ∙ gives.same.1 ∙ shard) leads in (
      state_of given,
      subst (λ (x : Shard). Through (layout_in s) s.frames.shard GivesOverSteps x (state_of given)) is lost,
      subst (λ (x : Shard). Through (layout_in s) s.frames.shard GoesOn x (state_of new)) handed.state goes,
    )

-- the loss, with what holds do behind it
pub lost_takes : (s : State) (fs : Frames) (calls : Buffer Call) (token slot generation : ℕ) (given back new : State) → Goes s fs calls → Loses s.frames token slot generation fs
    → calls ≡ buffer (s.calls.items ++ call.DeclareLost slot generation ∷ []) s.calls.capacity → GivesOver (gone_on s fs calls) given → HandsBack given back
    → Through (layout_in back) back.frames.shard GoesOn (state_of back) (state_of new) → LosesThrough s token new
lost_takes s fs calls token slot generation given back new goes loses pushed gives handed leads =
    let lost = loses.2 (rest_of s) in
    let more = ap (λ (b : Buffer Call). map call_of b.items) pushed ∙ map-append call_of s.calls.items (call.DeclareLost slot generation ∷ []) in
    let is : state_of (gone_on s fs calls) ≡ after (layout_in s) (state_of s) (Lose token lost.0) =
    ap (λ (request : ℕ → Option shards.Request). shard_with (record (rest_with s calls) { request = request }) fs)
    (tables_on s fs _ (requests_on s (gone_on s fs calls) refl refl refl goes.requests loses.3 goes.seen))
    ∙ ap (λ cs. shard_with (record (reads_on fs (rest_of s)) { calls = cs }) fs) more ∙ lost.5 in (
      lost.0,
      lost.3,
      lost.4,
      went_on s (gone_on s fs calls) given back new (after (layout_in s) (state_of s) (Lose token lost.0)) loses.0 loses.1 is gives handed leads,
    )

-- an error takes the slot; so does a read error that isn't the first of its position
pub lost_by_error : (s : State) (token : ℕ) (new : State) → LosesThrough s token new → TakesThrough s token Error Taken new
lost_by_error s token new lost = (Lose token lost.0, (refl, lost.1), lost.2, lost.3)

pub lost_by_read : (s : State) (token : ℕ) (new : State) → (IsFirstRead s.frames token → ⊥) → LosesThrough s token new → TakesThrough s token Read_error Taken new
lost_by_read s token new second lost =
    let there = command-there (rest_of s) s.frames token lost.0 lost.2.0 in
    (Lose token lost.0, (refl, lost.1, not_first there.0 there.1 lost.0 there.2 (is_first_read (layout_in s) (state_of s) lost.0) refl), lost.2, lost.3)
  where
    not_first : (x : Outstanding) → outstanding s.frames token ≡ Some x → (c : shards.Command) → command_of s.frames.slots s.frames.next_taken token x ≡ c
        → (b : Bool) → is_first_read (layout_in s) (state_of s) c ≡ b → b ≡ false
    not_first x is c same false e = refl
    not_first x is c same true e = absurd (second (x, is, λ rest. ap (is_first_read (layout_in s) (state_of s)) same ∙ e))

-- direct reads from the slot wait again
pub lost_again : (s : State) (fs : Frames) (calls : Buffer Call) (given back new : State) → IsSettled s → KeepsReaders s.frames fs → GivesOver (gone_on s fs calls) given → HandsBack given back
    → new.waiting ≡ back.waiting → ReadAgain s new
lost_again s fs calls given back new core readers gives handed waiting = (
  handed.again,
  were_read s given.frames 0 handed.again core.sound core.reading (λ number r has. sym (gives.readers number ∙ readers number) ∙ has) handed.were,
  ap requests_in waiting ∙ handed.waiting ∙ ap (λ (x : State). requests_in x.waiting ++ handed.again) gives.rest,
)

pub lost_order : (s : State) (fs : Frames) (calls : Buffer Call) (given back new : State) → GivesOver (gone_on s fs calls) given → HandsBack given back → Seen Finishes back new → Seen Finishes s new
lost_order s fs calls given back new gives handed order = (
  order.0,
  order.1,
  order.2 ∙ (λ i. drop (handed.rest i).released (handed.rest i).replies.items ++ order.0) ∙ (λ i. drop (gives.rest i).released (gives.rest i).replies.items ++ order.0),
  order.3 ∙ (λ i. take (handed.rest i).released (handed.rest i).replies.items) ∙ (λ i. take (gives.rest i).released (gives.rest i).replies.items),
)

-- a shard whose holds are readable stays so while direct reads are handed back
pub readable_back : (given back : State) → AreReadable given.frames → HandsBack given back → AreReadable back.frames
readable_back given back readable handed live frame lacks =
    readable (subst (λ (g : Shape). (count_out given.frames.slots g.slots ≤ 2) × (given.frames.saw_failed ≡ false)) handed.geometry.0
    (subst (λ (ss : List Slot). count_out ss back.frames.geometry.slots ≤ 2) handed.slots.0 live.0, sym handed.slots.1 ∙ live.1)) frame (elim lacks [
      | inl moves ↦ inl (moves.0, (moves.1.0, ap (λ (items : List FrameUse). hold_at items frame) (sym handed.holds) ∙ moves.1.1, moves.1.2))
      | inr loses ↦ inr (loses.0, ap (λ (items : List FrameUse). hold_at items frame) (sym handed.holds) ∙ loses.1, loses.2)
    ])
