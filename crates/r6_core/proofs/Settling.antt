-- Holds that are over end one by one, and then their requests stand by number.
use Rattle.std.proofs.Common.{◌≡◌, ℕ, Bool, true, ◌+◌, ◌<◌, ◌≤◌, List, [], ◌∷◌, ◌++◌, map, take, drop, length, refl, sym, ap, subst, ◌∙◌, None, inl, inr, arith, append_assoc, append-nil, length-append}
use Rattle.std.specs.Prelude.{option_map, IsPermutation}
use Rattle.std.proofs.lemmas.Bool.{cases_eq}
use Rattle.std.proofs.lemmas.List.{drop-append-le, take-append-le, take-append-drop, take_all, drop_all}
use Rattle.r6_world.specs.PlainArray as world
use Rattle.r6_world.specs.Layouts.{Layout}
use Rattle.r6_world.specs.Steps.{GoesOn, Through}
use Rattle.r6_world.specs.declared.values.Request.{Request}
use Rattle.r6_frames.specs.declared.frames.HeldRow.{HeldRow}
use Rattle.r6_frames.specs.declared.frames.Job.{Job}
use Rattle.r6_frames.specs.declared.frames.Frames.{Frames}
use Rattle.r6_world.specs.Values.{op_of}
use Rattle.r6_frames.specs.Views.{row_in, hold_at, held_for, held_requests, kind_in, requests_by, AreLive}
use Rattle.r6_frames.specs.Calls.{KeepsOthers, KeepsReads, KeepsRows, Drives}
use Rattle.r6_frames.specs.Owed.{owed, IsDriven, IsOver}
use Rattle.r6_frames.specs.Sound as held
use Rattle.r6_core.specs.declared.scan.Freed.{Freed}
use Rattle.r6_core.specs.declared.scan.Freed.TheVariants as freed
use Rattle.r6_core.specs.declared.state.State.{State}
use Rattle.r6_core.specs.Shards.{core_of, state_of, layout_in}
use Rattle.r6_core.specs.Order.{AreOfOneRow, Finishes, MayFinish}
use Rattle.r6_core.specs.Inside.{AllWait, AreReadOn, HasBuffer, HasFreed, HasLetGo, KeepsWaiting, SameFrames, IsSound, IsSettled, IsRested, IsRestedFrame, FinishesHeld, Seen, StandByNumber, count_rows, numbered_op, one_if}
use Rattle.r6_core.proofs.CountedRows.{row_weight, rows_counted_but_one}
use Rattle.r6_core.proofs.Lined.{all_permuted}
use Rattle.r6_core.proofs.Throughs.{through_both, through_in, through_of}
use Rattle.r6_core.proofs.Going.{Goes, goes_still, drives_give, drives_still, between_states, gone_sound, puts_out_on, reading_kept}

-- ---- requests that are finished

pub one_row_few : (l : Layout) (rs : List Request) → length rs ≤ 1 → AreOfOneRow l rs
one_row_few l [] few = (0, tt)
one_row_few l (r ∷ []) few = (l.row_of (world.block_of (op_of r.op)), (refl, tt))
one_row_few l (r ∷ q ∷ rs) few = absurd (omega arith)

-- more requests are finished, behind those that were, and none is released
pub behind_finished : (old new : State) (more : List Request) → IsSound old → new.released ≡ old.released → new.replies.items ≡ old.replies.items ++ more
    → ((core_of new).finished ≡ (core_of old).finished ++ more) × ((core_of new).released ≡ (core_of old).released)
behind_finished old new more sound released items = (
  (λ i. drop (released i) (items i)) ∙ drop-append-le old.released old.replies.items more sound.requests.marked,
  (λ i. take (released i) (items i)) ∙ take-append-le old.released old.replies.items more sound.requests.marked,
)

-- ---- the loop

-- since the old state requests were finished
pub record IsSettling (old now : State) : Type 0 where
  pub sound : IsSound now
  pub reading : AreReadOn now.frames
  pub live : AreLive now.frames
  pub leads : Through (layout_in old) old.frames.shard GoesOn (state_of old) (state_of now)
  pub driven : (frame : ℕ) → IsDriven now.frames frame
  pub same : SameFrames old now
  pub unanswered : now.unanswered ≡ old.unanswered
  pub waiting : now.waiting ≡ old.waiting
  pub released : now.released ≡ old.released
  pub more : List Request
  pub items : now.replies.items ≡ old.replies.items ++ more

-- all commands that come next were put out
pub driven_goes : (s : State) (fs : Frames) → IsSound s → AreLive s.frames → held.IsSound fs → AreLive fs → Drives s.frames fs → held_requests fs ≡ held_requests s.frames
    → KeepsRows s.frames fs → fs.commands.next + owed fs ≤ s.frames.commands.next + owed s.frames → Goes s fs s.calls
driven_goes s fs sound live frames still drives requests rows tokens =
    goes_still s fs sound frames drives.0 drives.1 (drives_still s.frames fs live still drives) requests drives.3 rows tokens (drives_give s.frames fs drives)

pub driven_leads : (s : State) (fs : Frames) → Goes s fs s.calls → Drives s.frames fs
    → Through (layout_in s) s.frames.shard GoesOn (state_of s) (state_of (record s { frames = fs }))
driven_leads s fs goes drives =
    between_states (λ l n old new. Through l n GoesOn old new) s fs goes
    (drives.0, drives.1, (λ rest. through_of (layout_in s) s.frames.shard _ GoesOn puts_out_on _ _ (drives.2 rest)), drives.3)

pub settling : (s : State) (fs : Frames) → Goes s fs s.calls → Drives s.frames fs → IsSound s → AreReadOn s.frames → AreLive fs → ((frame : ℕ) → IsDriven fs frame) → IsSettling s (record s { frames = fs })
settling s fs goes drives sound reading live driven =
    record {
      sound = gone_sound s fs s.calls sound goes;
      reading = reading_kept s.frames fs drives.3 reading;
      live = live;
      leads = driven_leads s fs goes drives;
      driven = driven;
      same = (drives.0, drives.1);
      unanswered = refl;
      waiting = refl;
      released = refl;
      more = [];
      items = sym (append-nil s.replies.items);
    }

-- a hold that is over ends
module _ (old now new : State) (frame : ℕ) (before : IsSettling old now) (over : IsOver now.frames frame)
    (sound : IsSound new) (live : AreLive new.frames) (leads : Through (layout_in now) now.frames.shard GoesOn (state_of now) (state_of new))
    (rests : IsRestedFrame new frame) (others : KeepsOthers now.frames frame new.frames) (same : SameFrames now new)
    (released : new.released ≡ now.released) (ends : FinishesHeld now frame new) (unanswered : new.unanswered ≡ now.unanswered) (waiting : new.waiting ≡ now.waiting) (reads : KeepsReads now.frames new.frames) where
  abbrev h : HeldRow
  h = over.0

  pub ended : (more : List Request) × (map numbered_op more ≡ requests_by h.job (kind_in h)) × (new.replies.items ≡ now.replies.items ++ more) × (hold_at new.frames.uses frame ≡ None)
  ended = ends h over.1 over

  driven_on : (other : ℕ) → IsDriven new.frames other
  driven_on other =
      elim (cases_eq other frame) [
        | inl e ↦ subst (IsDriven new.frames) (sym e) rests.0
        | inr ne ↦ λ i is. before.driven other i (sym (ap row_in (others other ne)) ∙ is)
      ]

  pub settling_on : IsSettling old new
  settling_on =
      record {
        sound = sound;
        reading = reading_kept now.frames new.frames reads before.reading;
        live = live;
        leads =
            through_both (layout_in old) old.frames.shard GoesOn (state_of old) (state_of now) (state_of new) before.leads
            (through_in old.frames.geometry now.frames.geometry old.frames.shard now.frames.shard GoesOn (state_of now) (state_of new) before.same.0 before.same.1 leads);
        driven = driven_on;
        same = (same.0 ∙ before.same.0, same.1 ∙ before.same.1);
        unanswered = unanswered ∙ before.unanswered;
        waiting = waiting ∙ before.waiting;
        released = released ∙ before.released;
        more = before.more ++ ended.0;
        items = ended.2 ∙ ap (λ rs. rs ++ ended.0) before.items ∙ append_assoc old.replies.items before.more ended.0;
      }

  -- a row less is held
  pub fewer_left : count_rows (λ job. true) new.frames.uses < count_rows (λ job. true) now.frames.uses
  fewer_left =
      let any : Job → Bool = λ job. true in
      let rows = rows_counted_but_one any frame now.frames new.frames before.sound.frames sound.frames others in
      let one : row_weight any now.frames.uses frame ≡ 1 = ap (λ o. one_if any (option_map held_for o)) over.1 in
      let none : row_weight any new.frames.uses frame ≡ 0 = ap (λ o. one_if any (option_map held_for o)) ended.3 in
      omega (arith, rows, one, none)

-- when none is over, all have rested
pub settled : (old now : State) → IsSettling old now → ((frame : ℕ) → IsOver now.frames frame → ⊥) → IsSettled now
settled old now is none = record { sound = is.sound; reading = is.reading; rested = λ live frame. (is.driven frame, none frame) }

-- ---- what was finished stands by number then

-- those that were finished before stay in front
pub sorted_items : {X : Type 0} (old more was now : List X) → was ≡ old ++ more → take (length old) now ≡ take (length old) was → now ≡ old ++ drop (length old) now
sorted_items old more was now is before =
    sym (take-append-drop (length old) now)
    ∙ ap (λ rs. rs ++ drop (length old) now) (before ∙ ap (take (length old)) is ∙ take-append-le (length old) old more (omega arith) ∙ take_all (length old) old (omega arith))

-- the same are finished
pub sorted_more : (old more was now : List Request) → was ≡ old ++ more → IsPermutation (drop (length old) was) (drop (length old) now) → IsPermutation more (drop (length old) now)
sorted_more old more was now is same =
    subst (λ rs. IsPermutation rs (drop (length old) now)) (ap (drop (length old)) is ∙ drop-append-le (length old) old more (omega arith) ∙ ap (λ rs. rs ++ more) (drop_all (length old) old (omega arith))) same

pub settled_sorted : (s new : State) (from : ℕ) → IsSettled s → StandByNumber s from new → IsSettled new
settled_sorted s new from settled by =
    record {
      sound = by.sound;
      reading = subst (λ (x : State). AreReadOn x.frames) (sym by.rest) settled.reading;
      rested = subst (λ (x : State). AreLive x.frames → IsRested x) (sym by.rest) (λ live frame. settled.rested live frame);
    }

pub sorted_order : (old s new : State) (more : List Request) → IsSound old → s.released ≡ old.released → s.replies.items ≡ old.replies.items ++ more → StandByNumber s (length old.replies.items) new → Seen Finishes old new
sorted_order old s new more sound released items by =
    let last = drop (length old.replies.items) new.replies.items in
    let both = behind_finished old new last sound (ap (λ (x : State). x.released) by.rest ∙ released) (sorted_items old.replies.items more s.replies.items new.replies.items items by.before) in
    (last, by.rising, both.0, both.1)

pub sorted_row_order : (old s new : State) (more : List Request) → IsSound old → s.released ≡ old.released → s.replies.items ≡ old.replies.items ++ more → AreOfOneRow (layout_in old) more
    → StandByNumber s (length old.replies.items) new → Seen MayFinish old new
sorted_row_order old s new more sound released items row by =
    let last = drop (length old.replies.items) new.replies.items in
    let both = behind_finished old new last sound (ap (λ (x : State). x.released) by.rest ∙ released) (sorted_items old.replies.items more s.replies.items new.replies.items items by.before) in
    let all = all_permuted (λ (r : Request). (layout_in old).row_of (world.block_of (op_of r.op)) ≡ row.0) more last (sorted_more old.replies.items more s.replies.items new.replies.items items by.same) row.1 in
    (last, by.rising, (row.0, all), both.0, both.1)

pub sorted_keeps : (old s new : State) (from : ℕ) → KeepsWaiting old s → StandByNumber s from new → KeepsWaiting old new
sorted_keeps old s new from keeps by = subst (λ (x : State). KeepsWaiting old x) (sym by.rest) keeps

-- there is nothing but what was finished since behind the mark
pub settled_within : (old now : State) (more : List Request) → now.replies.items ≡ old.replies.items ++ more → length old.replies.items ≤ length now.replies.items
settled_within old now more is = let long = ap length is ∙ length-append old.replies.items more in omega (arith, long)

pub freed_sorted : (freed : Freed) (s new : State) (from : ℕ) → HasFreed freed s → StandByNumber s from new → HasFreed freed new
freed_sorted freed.Nothing s new from waits by = subst (λ (x : State). AllWait x) (sym by.rest) waits
freed_sorted (freed.Row frame) s new from left by =
    subst (HasLetGo frame) (sym by.rest)
    (record { there = left.there; before = left.before; like = left.like; others = left.others; directs = left.directs; empty = left.empty; waits = left.waits })
freed_sorted freed.Buffer s new from left by =
    subst HasBuffer (sym by.rest) (record { before = left.before; like = left.like; holds = left.holds; number = left.number; frees = left.frees; waits = left.waits })
freed_sorted freed.Any s new from left by = tt
