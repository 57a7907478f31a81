-- A rebuilt row is marked, and the last one brings its slot in sync.
use Rattle.std.proofs.Common.{◌≡◌, ℕ, ◌+◌, ◌<◌, ◌≤◌, inl, inr, Bool, true, List, [], ◌∷◌, ◌++◌, map, length, refl, sym, ap, subst, ◌∙◌, Some, None, arith, append-nil, length-append}
use mathlib.Core.Path.{fun_ext}
use Rattle.std.specs.Prelude.{option_map}
use Rattle.std.proofs.lemmas.Bool.{cases_eq}
use Rattle.std.proofs.lemmas.List.{map-append}
use Rattle.circular_buffer.specs.Buffer.{Buffer}
use Rattle.r6_layout.specs.Shape.{Shape}
use Rattle.r6_world.specs.Tables.{put, count_below}
use Rattle.r6_world.proofs.Tables.{put-same, put-other}
use Rattle.r6_world.specs.Geometries.{layout_of}
use Rattle.r6_world.specs.Tasks.{Rebuilt}
use Rattle.r6_world.specs.ShardStates.{Shard, SlotState, Synced, Missing, Building, Doubled, Paired, RebuildOf, IsBuiltOn, IsLive, is_away}
use Rattle.r6_world.specs.Changes.{Bring_in, Finish, AllBuilt, Allowed, after, brought_in, with_row}
use Rattle.r6_world.specs.Steps.{GoesOn, Through}
use Rattle.r6_frames.specs.declared.finish.Ended.{Ended}
use Rattle.r6_frames.specs.declared.finish.Ended.TheVariants as ended
use Rattle.r6_frames.specs.FramesState.{Commands}
use Rattle.r6_frames.specs.declared.frames.FrameUse.{FrameUse}
use Rattle.r6_frames.specs.declared.frames.Frames.{Frames}
use Rattle.r6_frames.specs.declared.frames.HeldRow.{HeldRow}
use Rattle.r6_frames.specs.declared.rebuilt.Target.{Target}
use Rattle.r6_frames.specs.Rebuilt.{is_rebuilt}
use Rattle.r6_frames.specs.Slots.{slot_in, states_of}
use Rattle.r6_frames.specs.Views.{held_for, hold_at, requests_from, shard_with, use_at, AreLive}
use Rattle.r6_frames.specs.Calls.{BringsIn, Ends, KeepsHolds, KeepsOthers, Marks, MayMark, KeepsReads}
use Rattle.r6_frames.specs.Owed.{owed, owed_in}
use Rattle.r6_frames.specs.Sound as held
use Rattle.r6_core.specs.declared.call.Call.{Call}
use Rattle.r6_core.specs.declared.call.Call.TheVariants as call
use Rattle.std.specs.Map.{keys_of}
use Rattle.r6_core.specs.declared.state.State.{State}
use Rattle.r6_core.specs.Shards.{call_of, layout_in, rest_of, state_of}
use Rattle.r6_core.specs.Inside.{FinishesHeld, IsMarked, IsRestedFrame, IsSound, one_rebuilt}
use Rattle.r6_core.specs.Limits.{count_untold, most_calls}
use Rattle.r6_core.proofs.CallRoom.{brought_more, highest, most_le, most_of, most_put, row_more}
use Rattle.r6_core.proofs.Delivering.{ended_is, ended_requests, ended_sound, ended_state, ends_still, finish_is, freed, left, none_rested}
use Rattle.r6_core.proofs.Going.{Goes, gone_on, gone_sound, gone_state, no_rest, rest_with}
use Rattle.r6_core.proofs.Rebuilding.{on_world}
use Rattle.r6_core.proofs.Throughs.{through_both, through_one}

-- ---- one slot has another state

-- a slot with another state that passes as it did counts as it did
pub count_put : (test : SlotState → Bool) (f : ℕ → SlotState) (k : ℕ) (v : SlotState) (n : ℕ) → test v ≡ test (f k)
    → count_below (λ d. test (put f k v d)) n ≡ count_below (λ d. test (f d)) n
count_put test f k v n same = ap (λ (p : ℕ → Bool). count_below p n) (fun_ext at)
  where
    at : (d : ℕ) → test (put f k v d) ≡ test (f d)
    at d = elim (cases_eq d k) [
      | inl e ↦ ap test (put-same f k v d e) ∙ same ∙ ap (λ (j : ℕ). test (f j)) (sym e)
      | inr ne ↦ ap test (put-other f k v d ne)
    ]

-- a row more is built
row_built : (state : SlotState) (generation : ℕ) (built : ℕ → Bool) (row : ℕ) → IsBuiltOn state generation built → IsBuiltOn (with_row state row) generation (put built row true)
row_built (Synced current) generation built row on = on
row_built Missing generation built row on = on
row_built (Building current rows) generation built row on = (on.0, ap (λ r. put r row true) on.1)
row_built (Doubled old new rows) generation built row on = (on.0, ap (λ r. put r row true) on.1)
row_built (Paired old new) generation built row on = on

row_away : (state : SlotState) (row : ℕ) → is_away (with_row state row) ≡ is_away state
row_away (Synced current) row = refl
row_away Missing row = refl
row_away (Building current rows) row = refl
row_away (Doubled old new rows) row = refl
row_away (Paired old new) row = refl

row_brought : (state : SlotState) (row : ℕ) → brought_in (with_row state row) ≡ brought_in state
row_brought (Synced current) row = refl
row_brought Missing row = refl
row_brought (Building current rows) row = refl
row_brought (Doubled old new rows) row = refl
row_brought (Paired old new) row = refl

put_again : (f : ℕ → SlotState) (k : ℕ) (v w : SlotState) → put (put f k v) k w ≡ put f k w
put_again f k v w =
    fun_ext (λ d. elim (cases_eq d k) [
      | inl e ↦ put-same (put f k v) k w d e ∙ sym (put-same f k w d e)
      | inr ne ↦ put-other (put f k v) k w d ne ∙ put-other f k v d ne ∙ sym (put-other f k w d ne)
    ])

module _ (s : State) (frame : ℕ) (target : Target) (row : ℕ) (fs : Frames) (h : HeldRow) (sound : IsSound s) (live : AreLive s.frames)
    (ends : Ends s.frames frame (ended.Rebuilt target row) fs) (is : hold_at s.frames.uses frame ≡ Some h)
    (fs_sound : held.IsSound fs) (others : KeepsOthers s.frames frame fs) (fewer : owed fs ≤ owed s.frames) (next : fs.commands.next ≡ s.frames.commands.next)
    (may : MayMark fs (ended.Rebuilt target row)) where
  abbrev end : Ended
  end = ended.Rebuilt target row

  -- the row's hold has ended, and the row is counted
  abbrev pub mid : State
  mid = ended_state s fs s.replies (one_rebuilt s.counts) s.rooms

  last : s.replies.items ≡ s.replies.items ++ []
  last = sym (append-nil s.replies.items)

  mid_sound : IsSound mid
  mid_sound = ended_sound s frame end fs s.replies (one_rebuilt s.counts) s.rooms h sound live ends is last refl fs_sound others fewer next refl refl

  building : IsBuiltOn (states_of fs.slots target.slot) target.generation (is_rebuilt may.2.rebuilt)
  building = on_world (slot_in fs.slots target.slot).device target.generation may.2.rebuilt may.2.device

  -- there is room for the call that reports the slot
  pub report_fits : length s.calls.items < s.calls.capacity
  report_fits =
      let slots = states_of fs.slots in
      let state = slots target.slot in
      let rises = brought_more state target.generation (is_rebuilt may.2.rebuilt) building in
      let high = highest (brought_in state) in
      let more = most_put slots target.slot Missing fs.geometry.slots 1 may.0 (omega (arith, rises, high)) in
      let most = most_le (put slots target.slot Missing) fs.geometry.slots in
      let room = mid_sound.room in
      omega (arith, more, most, room.few_calls, room.calls, fs_sound.shape.slots_allowed.1)

  -- the frames hold what they held, and the calls are these
  module _ (new : State) (new_sound : held.IsSound new.frames) (holds : KeepsHolds fs new.frames) (commands : new.frames.commands ≡ fs.commands)
      (same : new ≡ gone_on mid new.frames new.calls) where
    goes_by : KeepsReads fs new.frames → new.frames.geometry ≡ fs.geometry → new.frames.shard ≡ fs.shard → new.frames.saw_failed ≡ fs.saw_failed → new.calls.capacity ≡ s.calls.capacity
        → length new.calls.items + count_untold s.untold ≤ most_calls new.frames → Goes mid new.frames new.calls
    goes_by reads geometry shard seen room few =
        record {
          sound = new_sound;
          geometry = geometry;
          shard = shard;
          seen = seen;
          requests = ap (λ (held : List FrameUse). requests_from 0 held) holds;
          reads = ap keys_of reads;
          rows = λ other. ap (λ (held : List FrameUse). option_map held_for (hold_at held other)) holds;
          tokens =
              let given = ap (λ (t : Commands). t.next) commands in
              let owes = ap (λ (held : List FrameUse). owed_in held) holds in
              omega (arith, given, owes);
          given = let given = ap (λ (t : Commands). t.next) commands in omega (arith, given);
          room = room;
          few = few;
        }

    goes_marked : Marks fs target row new.frames × (new.calls ≡ s.calls) → Goes mid new.frames new.calls
    goes_marked m =
        let marks = m.0 in
        let slots = ap (λ (x : Shard). x.slot) (marks.2 no_rest) in
        let state = states_of fs.slots target.slot in
        let most = most_put (states_of fs.slots) target.slot (with_row state row) fs.geometry.slots 0 may.0 (row_more state row) in
        let same : most_calls new.frames ≡ most_of (put (states_of fs.slots) target.slot (with_row state row)) fs.geometry.slots = λ i. most_of (slots i) (marks.0 i).slots in
        let calls = ap (λ (b : Buffer Call). length b.items) m.1 in
        goes_by marks.3 marks.0 marks.1 (ap (λ (x : Shard). x.saw_failed) (marks.2 no_rest)) (ap (λ (b : Buffer Call). b.capacity) m.1)
        (omega (arith, most, same, calls, mid_sound.room.few_calls))

    goes_brought : BringsIn fs target row new.frames × (new.calls.items ≡ s.calls.items ++ call.ReportRebuilt target.slot target.generation ∷ []) × (new.calls.capacity ≡ s.calls.capacity)
        → Goes mid new.frames new.calls
    goes_brought b =
        let brings = b.0 in
        let slots = ap (λ (x : Shard). x.slot) (brings.2 no_rest).1 in
        let state = states_of fs.slots target.slot in
        let most = most_put (states_of fs.slots) target.slot (brought_in state) fs.geometry.slots 1 may.0 (brought_more state target.generation (is_rebuilt may.2.rebuilt) building) in
        let same : most_calls new.frames ≡ most_of (put (states_of fs.slots) target.slot (brought_in state)) fs.geometry.slots = λ i. most_of (slots i) (brings.0 i).slots in
        let calls = ap length b.1 ∙ length-append s.calls.items (call.ReportRebuilt target.slot target.generation ∷ []) in
        goes_by brings.3 brings.0 brings.1 (ap (λ (x : Shard). x.saw_failed) (brings.2 no_rest).1) b.2
        (omega (arith, most, same, calls, mid_sound.room.few_calls))

    -- ---- in the world

    -- the slots when the hold ends: the row is built
    abbrev marked_left : Shard
    marked_left =
        let x = left s frame end fs s.replies (one_rebuilt s.counts) s.rooms h sound live ends is last refl in
        record x { slot = put x.slot target.slot (with_row (x.slot target.slot) row) }

    end_is : after (layout_in s) (state_of s) (Finish frame ends.hold Rebuilt) ≡ marked_left
    end_is =
        let x = left s frame end fs s.replies (one_rebuilt s.counts) s.rooms h sound live ends is last refl in
        finish_is s frame end fs s.replies (one_rebuilt s.counts) s.rooms h sound live ends is last refl
        ∙ (λ i. record x { slot = put x.slot target.slot (with_row (x.slot target.slot) (ends.row i)) })

    mid_is : state_of mid ≡ left s frame end fs s.replies (one_rebuilt s.counts) s.rooms h sound live ends is last refl
    mid_is = ended_is s frame end fs s.replies (one_rebuilt s.counts) s.rooms h sound live ends is last refl

    state_is : Goes mid new.frames new.calls → KeepsReads fs new.frames → state_of new ≡ shard_with (rest_with mid new.calls) new.frames
    state_is goes reads = ap state_of same ∙ gone_state mid new.frames new.calls goes reads

    pub leads_marked : Marks fs target row new.frames × (new.calls ≡ s.calls) → Through (layout_in s) s.frames.shard GoesOn (state_of s) (state_of new)
    leads_marked m =
        let is_now : state_of new ≡ marked_left =
        state_is (goes_marked m) m.0.3
        ∙ (λ i. shard_with (rest_with mid (m.1 i)) new.frames)
        ∙ m.0.2 (rest_of mid)
        ∙ (λ i. record (mid_is i) { slot = put (mid_is i).slot target.slot (with_row ((mid_is i).slot target.slot) row) }) in
        through_one (layout_in s) s.frames.shard GoesOn (state_of s) (state_of new) (Finish frame ends.hold Rebuilt) (record {}) (ends.may.2 (rest_of s)) (is_now ∙ sym end_is)

    -- the device is the one that the shard had
    was : states_of fs.slots target.slot ≡ states_of s.frames.slots target.slot
    was = ap (λ (slots : ℕ → SlotState). slots target.slot) (ends_still s.frames fs frame end ends).0

    marked_is : marked_left.slot target.slot ≡ with_row (states_of s.frames.slots target.slot) row
    marked_is = put-same (states_of s.frames.slots) target.slot (with_row (states_of s.frames.slots target.slot) row) target.slot refl

    built_now : IsBuiltOn (marked_left.slot target.slot) target.generation (put (is_rebuilt may.2.rebuilt) row true)
    built_now =
        subst (λ (x : SlotState). IsBuiltOn x target.generation (put (is_rebuilt may.2.rebuilt) row true)) (ap (λ (x : SlotState). with_row x row) was ∙ sym marked_is)
        (row_built (states_of fs.slots target.slot) target.generation (is_rebuilt may.2.rebuilt) row building)

    still_live : IsLive (layout_in s) marked_left
    still_live =
        let out = count_put is_away (states_of s.frames.slots) target.slot (with_row (states_of s.frames.slots target.slot) row) s.frames.geometry.slots
        (row_away (states_of s.frames.slots target.slot) row) in
        (let few = live.0 in omega (arith, out, few), live.1)

    all_built : BringsIn fs target row new.frames → AllBuilt (layout_in s) s.frames.shard (marked_left.slot target.slot)
    all_built brings =
        let all : AllBuilt (layout_of fs.geometry) fs.shard (with_row (states_of fs.slots target.slot) row) = (brings.2 no_rest).0 in
        let here = subst (λ (g : Shape). AllBuilt (layout_of g) fs.shard (with_row (states_of fs.slots target.slot) row)) ends.shard.0 all in
        let own = subst (λ (n : ℕ). AllBuilt (layout_in s) n (with_row (states_of fs.slots target.slot) row)) ends.shard.1 here in
        subst (λ (x : SlotState). AllBuilt (layout_in s) s.frames.shard x) (ap (λ (x : SlotState). with_row x row) was ∙ sym marked_is) own

    pub leads_brought : BringsIn fs target row new.frames × (new.calls.items ≡ s.calls.items ++ call.ReportRebuilt target.slot target.generation ∷ []) × (new.calls.capacity ≡ s.calls.capacity)
        → Through (layout_in s) s.frames.shard GoesOn (state_of s) (state_of new)
    leads_brought b =
        let l = layout_in s in
        let n = s.frames.shard in
        let bring = Bring_in target.slot target.generation in
        let allowed : Allowed l n marked_left bring = (
          put (is_rebuilt may.2.rebuilt) row true,
          built_now,
          all_built b.0,
          still_live,
        ) in
        let calls : map call_of new.calls.items ≡ (state_of s).calls ++ RebuildOf target.slot target.generation ∷ [] =
        ap (map call_of) b.1 ∙ map-append call_of s.calls.items (call.ReportRebuilt target.slot target.generation ∷ []) in
        let x = left s frame end fs s.replies (one_rebuilt s.counts) s.rooms h sound live ends is last refl in
        let is_now : state_of new ≡ after l marked_left bring =
        state_is (goes_brought b) b.0.3
        ∙ (b.0.2 (rest_with mid new.calls)).1
        ∙ (λ i. record (mid_is i) { slot = put (mid_is i).slot target.slot (brought_in ((mid_is i).slot target.slot)); calls = calls i })
        ∙ (λ i. record x {
          slot = sym (put_again x.slot target.slot (with_row (x.slot target.slot) row) (brought_in (x.slot target.slot))) i;
          calls = x.calls ++ RebuildOf target.slot target.generation ∷ [];
        })
        ∙ (λ i. record marked_left {
          slot = put marked_left.slot target.slot ((sym (row_brought (states_of s.frames.slots target.slot) row) ∙ sym (ap brought_in marked_is)) i);
          calls = marked_left.calls ++ RebuildOf target.slot target.generation ∷ [];
        }) in
        let first = through_one l n GoesOn (state_of s) marked_left (Finish frame ends.hold Rebuilt) (record {}) (ends.may.2 (rest_of s)) (sym end_is) in
        let second = through_one l n GoesOn marked_left (state_of new) bring (record {}) allowed is_now in
        through_both l n GoesOn (state_of s) marked_left (state_of new) first second

    -- ---- what the state keeps

    brings_of : BringsIn fs target row new.frames × (new.calls ≡ record { items = s.calls.items ++ call.ReportRebuilt target.slot target.generation ∷ []; capacity = s.calls.capacity })
        → BringsIn fs target row new.frames × (new.calls.items ≡ s.calls.items ++ call.ReportRebuilt target.slot target.generation ∷ []) × (new.calls.capacity ≡ s.calls.capacity)
    brings_of b = (b.0, ap (λ (c : Buffer Call). c.items) b.1, ap (λ (c : Buffer Call). c.capacity) b.1)

    pub marked_sound : IsMarked (record s { frames = fs }) target row new → IsSound new
    marked_sound (inl m) = subst IsSound (sym same) (gone_sound mid new.frames new.calls mid_sound (goes_marked m))
    marked_sound (inr b) = subst IsSound (sym same) (gone_sound mid new.frames new.calls mid_sound (goes_brought (brings_of b)))

    pub marked_leads : IsMarked (record s { frames = fs }) target row new → Through (layout_in s) s.frames.shard GoesOn (state_of s) (state_of new)
    marked_leads (inl m) = leads_marked m
    marked_leads (inr b) = leads_brought (brings_of b)

    pub marked_frames : IsMarked (record s { frames = fs }) target row new → (new.frames.geometry ≡ s.frames.geometry) × (new.frames.shard ≡ s.frames.shard)
    marked_frames (inl m) = (m.0.0 ∙ ends.shard.0, m.0.1 ∙ ends.shard.1)
    marked_frames (inr b) = (b.0.0 ∙ ends.shard.0, b.0.1 ∙ ends.shard.1)

    none_now : hold_at new.frames.uses frame ≡ None
    none_now = ap (λ (held : List FrameUse). hold_at held frame) holds ∙ freed s.frames fs frame end ends

    pub marked_rests : IsRestedFrame new frame
    marked_rests = none_rested new.frames frame none_now

    pub marked_others : KeepsOthers s.frames frame new.frames
    marked_others other ne = ap (λ (held : List FrameUse). use_at held other) holds ∙ others other ne

    pub marked_ends : FinishesHeld s frame new
    marked_ends i there over = ([], ended_requests s.frames fs frame end i ends there, ap (λ (x : State). x.replies.items) same ∙ last, none_now)

    pub marked_reads : IsMarked (record s { frames = fs }) target row new → KeepsReads s.frames new.frames
    marked_reads (inl m) = m.0.3 ∙ ends.shard.3
    marked_reads (inr b) = b.0.3 ∙ ends.shard.3
