-- A command is answered: its hold goes on, and may end.
use Rattle.std.proofs.Common.{◌≡◌, ◌≢◌, ◌⊎◌, ℕ, ◌+◌, ◌≤◌, List, refl, sym, ap, subst, ◌∙◌, Some, None, inl, inr, arith}
use Rattle.std.specs.List.{AllByRecursion}
use Rattle.std.proofs.lemmas.Bool.{cases_eq}
use Rattle.r6_world.specs.Changes.{after}
use Rattle.r6_world.specs.Steps.{GoesOn, Through, Good, Taken}
use Rattle.r6_frames.specs.declared.answer.Expected.{Expected}
use Rattle.r6_frames.specs.declared.answer.Expected.TheVariants as expected
use Rattle.r6_frames.specs.declared.frames.Frames.{Frames}
use Rattle.r6_frames.specs.Views.{row_in, hold_at, held_requests, shard_with, AreLive}
use Rattle.r6_frames.specs.Calls.{Answers, Classifies, Drives, IsAbandoned, IsAwaited, IsHeldFrame, KeepsDirects, KeepsOthers, KeepsReads, KeepsRows, OwesNoMore}
use Rattle.r6_frames.specs.Owed.{owed, IsDriven, IsOver, LacksBlocks}
use Rattle.r6_frames.specs.Reads.{IsExpected, IsOfRead}
use Rattle.r6_frames.specs.Sound as held
use Rattle.r6_core.specs.declared.state.State.{State}
use Rattle.r6_core.specs.Shards.{state_of, rest_of, layout_in}
use Rattle.r6_core.specs.declared.scan.Freed.{Freed}
use Rattle.r6_core.specs.declared.scan.Freed.TheVariants.{Nothing, Row, Buffer, Any}
use Rattle.r6_frames.specs.Slots.{states_of}
use Rattle.r6_core.specs.Inside.{AllWait, HasEnded, HasFreed, HasLetGo, KeepsPassed, IsSound, IsSettled, IsRestedFrame, SameFrames, TakesThrough, Waits}
use Rattle.r6_core.proofs.PassedOn.{passed_answers, passed_both, passed_drives, passed_others}
use Rattle.r6_core.proofs.Lined.{all_then}
use Rattle.r6_core.proofs.Waking.{all_wait_still, frees_kept, holders_by_rows}
use Rattle.r6_waiters.specs.Line.{entries_of}
use Rattle.r6_core.proofs.Throughs.{goes_on_only, through_both, through_in, through_of}
use Rattle.r6_core.proofs.Going.{Goes, SlotsStay, classifies_on, drives_give, drives_still, reading_kept, goes_still, answers_still, gone_state, gone_sound}
use Rattle.r6_core.proofs.SlotsKept.{out_same}
use Rattle.r6_core.proofs.Settling.{driven_goes, driven_leads}

-- ---- what a completion is for

pub awaited : (fs : Frames) (token : ℕ) (e : Expected) → IsExpected fs token e → IsAwaited fs token
awaited fs token expected.Late is = is.0
awaited fs token expected.Read is = is.0
awaited fs token expected.Hold is = is.0

pub wanted : (fs : Frames) (token : ℕ) (e : Expected) → IsExpected fs token e → e ≢ expected.Late → IsAbandoned fs token → ⊥
wanted fs token expected.Late is not_late = absurd (not_late refl)
wanted fs token expected.Read is not_late = is.1
wanted fs token expected.Hold is not_late = is.1

pub of_hold : (fs : Frames) (token : ℕ) (e : Expected) → IsExpected fs token e → e ≢ expected.Late → e ≢ expected.Read → IsOfRead fs token → ⊥
of_hold fs token expected.Late is not_late not_read = absurd (not_late refl)
of_hold fs token expected.Read is not_late not_read = absurd (not_read refl)
of_hold fs token expected.Hold is not_late not_read = is.2

-- a frame that has what it had
pub rested_kept : (old new : Frames) (frame : ℕ) → hold_at new.uses frame ≡ hold_at old.uses frame → IsDriven old frame × (IsOver old frame → ⊥) → IsDriven new frame × (IsOver new frame → ⊥)
rested_kept old new frame same rested = (λ h is. rested.0 h (sym same ∙ is), λ over. rested.1 (over.0, sym same ∙ over.1, over.2))

pub live_still : (old new : Frames) → new.geometry ≡ old.geometry → SlotsStay old new → AreLive new → AreLive old
live_still old new geometry slots live =
    let out = out_same old new slots.0 geometry in
    (omega (arith, out, live.0), sym slots.1 ∙ live.1)

pub answered_goes : (s : State) (fs : Frames) (token : ℕ) (block : List ℕ) → IsSound s → held.IsSound fs → Answers s.frames token block fs → held_requests fs ≡ held_requests s.frames
    → KeepsRows s.frames fs → OwesNoMore s.frames fs → Goes s fs s.calls
answered_goes s fs token block sound frames answers requests rows tokens =
    goes_still s fs sound frames answers.0 answers.1 (answers_still s.frames fs token block answers) requests answers.3 rows (let a = tokens.0 in let b = tokens.1 in omega (arith, a, b)) (let b = tokens.1 in omega (arith, b))

-- the hold rested, so that the slots of its read errors aren't to be lost
pub answered_readable : (s : State) (token : ℕ) (block : List ℕ) (middle : Frames) → IsSettled s → AreLive middle → Answers s.frames token block middle
    → (frame : ℕ) → (LacksBlocks middle frame → LacksBlocks s.frames frame) → LacksBlocks middle frame → ⊥
answered_readable s token block middle core live answers frame was lacks =
    let rested = core.rested (live_still s.frames middle answers.0 (answers_still s.frames middle token block answers) live) frame in
    elim (was lacks) [
      | inl moves ↦ absurd (let both = sym (rested.0 moves.1.0 moves.1.1) ∙ moves.1.2 in cc)
      | inr loses ↦ absurd (let both = sym (rested.0 loses.0 loses.1) ∙ loses.2 in cc)
    ]

-- the command is answered, and its hold puts out what comes next
module _ (s : State) (token : ℕ) (block : List ℕ) (middle driven : Frames) (core : IsSettled s) (sound : held.IsSound middle) (live : AreLive middle) (answers : Answers s.frames token block middle)
    (requests : held_requests middle ≡ held_requests s.frames) (rows : KeepsRows s.frames middle) (tokens : OwesNoMore s.frames middle)
    (driven_sound : held.IsSound driven) (driven_live : AreLive driven) (drives : Drives middle driven) (driven_requests : held_requests driven ≡ held_requests middle)
    (more_rows : KeepsRows middle driven) (driven_tokens : driven.commands.next + owed driven ≤ middle.commands.next + owed middle) where
  abbrev answered_state : State
  answered_state = record s { frames = middle }

  abbrev driven_state : State
  driven_state = record s { frames = driven }

  first_goes : Goes s middle s.calls
  first_goes = answered_goes s middle token block core.sound sound answers requests rows tokens

  answered_sound : IsSound answered_state
  answered_sound = gone_sound s middle s.calls core.sound first_goes

  second_goes : Goes answered_state driven s.calls
  second_goes = driven_goes answered_state driven answered_sound live driven_sound driven_live drives driven_requests more_rows driven_tokens

  pub driven_on : IsSound driven_state
  driven_on = gone_sound answered_state driven s.calls answered_sound second_goes

  pub answered_takes : (new : State) → Through (layout_in driven_state) driven.shard GoesOn (state_of driven_state) (state_of new) → TakesThrough s token (Good block) Taken new
  answered_takes new ends =
      let took = answers.2 (rest_of s) in
      let first = through_in s.frames.geometry middle.geometry s.frames.shard middle.shard GoesOn (state_of answered_state) (state_of driven_state) answers.0 answers.1
      (driven_leads answered_state driven second_goes drives) in
      let second = through_in s.frames.geometry driven.geometry s.frames.shard driven.shard GoesOn (state_of driven_state) (state_of new) (drives.0 ∙ answers.0) (drives.1 ∙ answers.1) ends in
      let both = through_both (layout_in s) s.frames.shard GoesOn (state_of answered_state) (state_of driven_state) (state_of new) first second in
      let taken = after (layout_in s) (state_of s) took.0 in
      let classed = through_of (layout_in s) s.frames.shard Classifies GoesOn classifies_on taken (shard_with (rest_of s) middle) took.3 in
      let to_state = subst (Through (layout_in s) s.frames.shard GoesOn taken) (sym (gone_state s middle s.calls first_goes answers.3)) classed in (
        took.0,
        took.1,
        took.2,
        goes_on_only (layout_in s) s.frames.shard taken (state_of new)
            (through_both (layout_in s) s.frames.shard GoesOn taken (state_of answered_state) (state_of new) to_state both),
      )

  pub answered_core : (new : State) (frame : ℕ) → KeepsOthers s.frames frame middle → KeepsOthers middle frame driven → KeepsOthers driven frame new.frames
      → KeepsReads driven new.frames → IsSound new → IsRestedFrame new frame → IsSettled new
  answered_core new frame kept still others reads new_sound rests =
      record {
        sound = new_sound;
        reading = reading_kept s.frames new.frames (reads ∙ drives.3 ∙ answers.3) core.reading;
        rested = λ _ at. elim (cases_eq at frame) [
          | inl e ↦ subst (IsRestedFrame new) (sym e) rests
          | inr ne ↦
              rested_kept s.frames new.frames at (ap row_in (others at ne ∙ still at ne ∙ kept at ne))
              (core.rested (live_still s.frames middle answers.0 (answers_still s.frames middle token block answers) live) at)
        ];
      }

  -- if the frame's hold has ended, it has let its row go, and if it hasn't all wait still
  slots_same : states_of driven.slots ≡ states_of s.frames.slots
  slots_same = (drives_still middle driven live driven_live drives).0 ∙ (answers_still s.frames middle token block answers).0

  tokens_same : s.frames.commands.next ≤ driven.commands.next
  tokens_same = let given = drives_give middle driven drives in let same = tokens.1 in omega arith

  pub answered_freed : (new : State) (frame : ℕ) (freed : Freed) → KeepsOthers s.frames frame middle → KeepsOthers middle frame driven → KeepsOthers driven frame new.frames
      → KeepsDirects s.frames middle → KeepsDirects middle driven
      → AllWait s → IsHeldFrame driven frame → new.waiting ≡ s.waiting → SameFrames driven_state new
      → HasEnded freed frame driven_state new → HasFreed freed new
  answered_freed new frame freed kept still others first second waits held waiting same by =
      let shape : driven.geometry ≡ s.frames.geometry = drives.0 ∙ answers.0 in
      let lives : AreLive s.frames = live_still s.frames middle answers.0 (answers_still s.frames middle token block answers) live in
      let directs : KeepsDirects s.frames driven = second ∙ first in
      let passed : KeepsPassed s.frames driven =
      passed_both s.frames middle driven (passed_answers s.frames middle token block core.sound.frames answers) (passed_drives middle driven sound drives) in
      elim freed as (λ f. HasEnded f frame driven_state new → HasFreed f new) [
        | Any ↦ λ any. tt
        | Buffer ↦ λ no. absurd no
        | Row let_go ↦ λ ended. subst (λ at. HasLetGo at new) (sym ended.0) (record {
          there = ended.1;
          before = s.frames;
          like = record {
            geometry = same.0 ∙ shape;
            live = λ alive. lives;
            slots = ended.4 ∙ slots_same;
            passed = passed_both s.frames driven new.frames passed
                (passed_others driven new.frames frame same.0 others ended.6 (λ h is. absurd (let none : None ≡ Some h = sym ended.2 ∙ is in cc)));
            tokens = let next = ended.5 in let given = tokens_same in omega arith;
          };
          others = λ other ne. others other ne ∙ still other ne ∙ kept other ne;
          directs = ended.3 ∙ directs;
          empty = ended.2;
          waits = subst (λ line. AllByRecursion (λ entry. Waits new.frames entry ⊎ Waits s.frames entry) (entries_of line)) (sym waiting)
              (all_then (Waits s.frames) (λ entry. Waits new.frames entry ⊎ Waits s.frames entry) (entries_of s.waiting) (λ e w. inr w) (waits lives));
        })
        | Nothing ↦ λ none. subst AllWait (sym none) (λ alive.
            all_wait_still s.frames driven (record { geometry = shape; live = λ alive. lives; slots = slots_same; passed = passed; tokens = tokens_same })
            (frees_kept s.frames driven directs) (holders_by_rows s.frames driven (λ f. more_rows f ∙ rows f))
            (λ at free. elim (cases_eq at frame) [
              | inl e ↦ absurd (let is = ap (hold_at driven.uses) e in let none : None ≡ Some held.0 = sym (ap row_in free.1) ∙ is ∙ held.1 in cc)
              | inr ne ↦ (free.0, sym (still at ne ∙ kept at ne) ∙ free.1)
            ])
            (entries_of s.waiting) (waits lives))
      ] by
