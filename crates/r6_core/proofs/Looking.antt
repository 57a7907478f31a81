-- A look at the register is one step of the shard.
use Rattle.std.proofs.Common.{◌≡◌, ℕ, true, false, List, [], ◌∷◌, ◌++◌, map, refl, sym, ap, subst, ◌∙◌, append-nil}
use Rattle.std.specs.Prelude.{option_map}
use Rattle.std.specs.List.{AllByRecursion}
use Rattle.r6_layout.specs.Shape.{Shape}
use Rattle.r6_world.specs.Layouts.{Layout}
use Rattle.r6_world.specs.Geometries.{layout_of}
use Rattle.r6_world.specs.Registers.{Snapshot}
use Rattle.r6_world.specs.ShardStates.{Shard}
use Rattle.r6_world.specs.Changes.{Change, Ask, Prepare, Classify, Send, Fix, Ask_again, Finish, Bring_in, Give_over, Adopt, Release, See_failed, after, lost_slot, lost_slots, slots_in_error, Copy, Move}
use Rattle.r6_world.specs.Steps.{AtRest, Leads, Through, GivesOver, GoOn, GoesOn, Scans, TakesOver, Looks, Look}
use Rattle.r6_world.specs.declared.values.Request.{Request}
use Rattle.r6_frames.specs.declared.frames.Frames.{Frames}
use Rattle.r6_core.specs.declared.state.State.{State}
use Rattle.r6_core.specs.Shards.{Step, layout_in, state_of, call_of, core_of, waiting_of, requests_in}
use Rattle.r6_core.specs.Order.{SameReplies, Agrees, Finishes, IsRising, ReleasesAll, IsWaiting, HaveTurns, HaveTurnsAfter}
use Rattle.r6_core.specs.Inside.{ReadAgain, SameFrames, TookOver, NoCalls, IsCore, IsSettled, IsSound, ReleasesFinished, Seen}
use Rattle.r6_core.proofs.AtRest.{at_rest}
use Rattle.r6_core.proofs.Releasing.{released_nothing}
use Rattle.r6_core.proofs.Scanned.{all_stopped, turns_in, waiting_wait}
use Rattle.r6_core.proofs.Throughs.{through_in, through_none}

rest_in : (g g' : Shape) (n n' : ℕ) (s : Shard) → g' ≡ g → n' ≡ n → AtRest (layout_of g') n' s → AtRest (layout_of g) n s
rest_in g g' n n' s same_shape same_shard rest = subst (λ m. AtRest (layout_of g) m s) same_shard (subst (λ x. AtRest (layout_of x) n' s) same_shape rest)

-- ---- whether the failure was seen

failed_after-goes_on : (l : Layout) (s : Shard) (change : Change) → GoesOn change → (after l s change).saw_failed ≡ s.saw_failed
failed_after-goes_on l s (Ask f h slot generation) is = refl
failed_after-goes_on l s (Prepare f h event) is = refl
failed_after-goes_on l s (Classify f h class) is = refl
failed_after-goes_on l s (Send f h slot generation block) is = refl
failed_after-goes_on l s (Copy f h slot generation block) is = refl
failed_after-goes_on l s (Fix f h slot generation block) is = refl
failed_after-goes_on l s (Ask_again f h slot generation) is = refl
failed_after-goes_on l s (Finish f h outcome) is = refl
failed_after-goes_on l s (Bring_in slot generation) is = refl
failed_after-goes_on l s change is = absurd is

failed_after-takes_over : (seen : Snapshot) (l : Layout) (s : Shard) (change : Change) → TakesOver seen change → (after l s change).saw_failed ≡ s.saw_failed
failed_after-takes_over seen l s (Adopt slot status) is = refl
failed_after-takes_over seen l s change is = absurd is

failed_led : (Kind : Change → Type 0) → ((l : Layout) (s : Shard) (change : Change) → Kind change → (after l s change).saw_failed ≡ s.saw_failed)
    → (l : Layout) (n : ℕ) (old new : Shard) (changes : List Change) → Leads l n Kind old changes new → new.saw_failed ≡ old.saw_failed
failed_led Kind keeps l n old new [] leads = ap (λ (s : Shard). s.saw_failed) leads
failed_led Kind keeps l n old new (change ∷ changes) leads = failed_led Kind keeps l n (after l old change) new changes leads.2 ∙ keeps l old change leads.0

pub failed_by-goes_on : (l : Layout) (n : ℕ) (old new : Shard) → Through l n GoesOn old new → new.saw_failed ≡ old.saw_failed
failed_by-goes_on l n old new through = failed_led GoesOn failed_after-goes_on l n old new through.0 through.1

lost_seen : (l : Layout) (s : Shard) (slots : List ℕ) → (lost_slots l s slots).saw_failed ≡ s.saw_failed
lost_seen l s [] = refl
lost_seen l s (slot ∷ slots) = lost_seen l (lost_slot l s slot) slots

failed_after-gives_over : (l : Layout) (s : Shard) (change : Change) → GivesOver change → (after l s change).saw_failed ≡ s.saw_failed
failed_after-gives_over l s (Move f h slot generation) is = refl
failed_after-gives_over l s (Give_over f h) is = lost_seen l s (slots_in_error l h)
failed_after-gives_over l s change is = absurd is

pub failed_by-took_over : (s mid : State) (seen : Snapshot) → TookOver s seen mid → mid.frames.saw_failed ≡ s.frames.saw_failed
failed_by-took_over s mid seen took =
    failed_led GivesOver failed_after-gives_over (layout_in s) s.frames.shard took.mid (state_of mid) took.gives.0 took.gives.1
    ∙ failed_led (TakesOver seen) (failed_after-takes_over seen) (layout_in s) s.frames.shard (state_of s) took.mid took.takes.0 took.takes.1

-- a shard that has seen the failure is at rest
rest_failed : (l : Layout) (n : ℕ) (s : Shard) → s.saw_failed ≡ true → AtRest l n s
rest_failed l n s failed =
    record {
      goes_on = λ live. let not = live.1 in absurd (cc);
      nothing_next = λ live. let not = live.1 in absurd (cc);
      none_could_start = λ live. let not = live.1 in absurd (cc);
      none_could_hold = λ live. let not = live.1 in absurd (cc);
      brought_in = λ live. let not = live.1 in absurd (cc);
    }

-- ---- the slots as the look has them

pub record Adopts (s mid : State) (seen : Snapshot) : Type 0 where
  pub told : NoCalls s
  pub over : TookOver s seen mid
  pub same : SameFrames s mid
  pub order : Seen SameReplies s mid
  pub again : ReadAgain s mid

-- slots are lost for read errors, and then holds go on
go_on_over : (s mid : State) (seen : Snapshot) (took : Adopts s mid seen) (new : Shard) → Through (layout_in s) s.frames.shard GoesOn (state_of mid) new → GoOn (layout_in s) s.frames.shard took.over.mid new
go_on_over s mid seen took new goes = (state_of mid, took.over.gives, goes)

step_from : (s mid new : State) (seen : Snapshot) (took : Adopts s mid seen) → SameFrames s new → Looks (layout_in s) s.frames.shard seen.failed took.over.mid (state_of new)
    → AtRest (layout_in s) s.frames.shard (state_of new) → Step (core_of s) (Look seen) (core_of new)
step_from s mid new seen took same looks rest =
    (same, (ap (map call_of) took.told.0, ap (option_map call_of) took.told.1, took.over.mid, took.over.takes, took.over.slots, looks, rest))

-- the array has failed
pub looked_failed : (s mid new : State) (seen : Snapshot) → Adopts s mid seen → seen.failed ≡ true → SameFrames mid new → state_of new ≡ after (layout_in mid) (state_of mid) See_failed
    → Step (core_of s) (Look seen) (core_of new)
looked_failed s mid new seen took failed same fails =
    step_from s mid new seen took (same.0 ∙ took.same.0, same.1 ∙ took.same.1)
    (subst (λ b. Looks (layout_in s) s.frames.shard b took.over.mid (state_of new)) (sym failed)
    (fails ∙ ap (λ (g : Shape). after (layout_of g) (state_of mid) See_failed) took.same.0 ∙ ap (λ (x : Shard). after (layout_in s) x See_failed) (took.over.failed failed)))
    (rest_failed (layout_in s) s.frames.shard (state_of new) (ap (λ (x : Shard). x.saw_failed) fails))

-- it has failed before
pub looked_stopped : (s mid : State) (seen : Snapshot) → Adopts s mid seen → seen.failed ≡ false → mid.frames.saw_failed ≡ true → Step (core_of s) (Look seen) (core_of mid)
looked_stopped s mid seen took unfailed failed =
    let looks : Looks (layout_in s) s.frames.shard false took.over.mid (state_of mid) =
    (state_of mid, go_on_over s mid seen took (state_of mid) ([], refl), through_none (layout_in s) s.frames.shard Scans (after (layout_in s) (state_of mid) Release) (state_of mid) (released_nothing mid failed)) in
    step_from s mid mid seen took took.same
    (subst (λ b. Looks (layout_in s) s.frames.shard b took.over.mid (state_of mid)) (sym unfailed) looks)
    (rest_failed (layout_in s) s.frames.shard (state_of mid) failed)

-- ---- holds went on, if a slot went out

pub record HasSettled (s mid new : State) (seen : Snapshot) : Type 0 where
  pub core : IsSettled new
  pub leads : Through (layout_in mid) mid.frames.shard GoesOn (state_of mid) (state_of new)
  pub same : SameFrames mid new
  pub more : List Request
  pub rising : IsRising more
  pub none : Agrees (core_of s) seen → more ≡ []
  pub finished : (core_of new).finished ≡ (core_of mid).finished ++ more
  pub released : (core_of new).released ≡ (core_of mid).released
  pub unanswered : new.unanswered ≡ mid.unanswered
  pub waiting : new.waiting ≡ mid.waiting
  pub stays : Agrees (core_of s) seen → state_of new ≡ state_of s

pub settled_some : (s mid new : State) (seen : Snapshot) → (Agrees (core_of s) seen → ⊥) → IsSettled new → Through (layout_in mid) mid.frames.shard GoesOn (state_of mid) (state_of new) → SameFrames mid new
    → Seen Finishes mid new → new.unanswered ≡ mid.unanswered → new.waiting ≡ mid.waiting → HasSettled s mid new seen
settled_some s mid new seen other core leads same finishes unanswered waiting =
    record {
      core = core;
      leads = leads;
      same = same;
      more = finishes.0;
      rising = finishes.1;
      none = λ agrees. absurd (other agrees);
      finished = finishes.2;
      released = finishes.3;
      unanswered = unanswered;
      waiting = waiting;
      stays = λ agrees. absurd (other agrees);
    }

pub settled_none : (s mid : State) (seen : Snapshot) → mid ≡ s → IsSettled s → HasSettled s mid mid seen
settled_none s mid seen same core =
    record {
      core = subst IsSettled (sym same) core;
      leads = ([], refl);
      same = (refl, refl);
      more = [];
      rising = tt;
      none = λ agrees. refl;
      finished = sym (append-nil (core_of mid).finished);
      released = refl;
      unanswered = refl;
      waiting = refl;
      stays = λ agrees. ap state_of same;
    }

-- what is finished was released, and what can start has started
pub record HasReleased (mid settled released new : State) : Type 0 where
  pub is : state_of released ≡ after (layout_in settled) (state_of settled) Release
  pub frames : released.frames ≡ settled.frames
  pub leads : Through (layout_in released) released.frames.shard Scans (state_of released) (state_of new)
  pub same : SameFrames released new
  pub core : IsCore new

pub looked : (s mid settled released new : State) (seen : Snapshot) → Adopts s mid seen → seen.failed ≡ false → HasSettled s mid settled seen → HasReleased mid settled released new
    → Step (core_of s) (Look seen) (core_of new)
looked s mid settled released new seen took unfailed done has =
    let shape = ap (λ (fs : Frames). fs.geometry) has.frames ∙ done.same.0 ∙ took.same.0 in
    let shard = ap (λ (fs : Frames). fs.shard) has.frames ∙ done.same.1 ∙ took.same.1 in
    let goes = through_in s.frames.geometry mid.frames.geometry s.frames.shard mid.frames.shard GoesOn (state_of mid) (state_of settled) took.same.0 took.same.1 done.leads in
    let leads = through_in s.frames.geometry released.frames.geometry s.frames.shard released.frames.shard Scans (state_of released) (state_of new) shape shard has.leads in
    let looks : Looks (layout_in s) s.frames.shard false took.over.mid (state_of new) =
    (state_of settled, go_on_over s mid seen took (state_of settled) goes, subst (λ x. Through (layout_in s) s.frames.shard Scans x (state_of new)) has.is leads) in
    step_from s mid new seen took (has.same.0 ∙ shape, has.same.1 ∙ shard)
    (subst (λ b. Looks (layout_in s) s.frames.shard b took.over.mid (state_of new)) (sym unfailed) looks)
    (rest_in s.frames.geometry new.frames.geometry s.frames.shard new.frames.shard (state_of new) (has.same.0 ∙ shape) (has.same.1 ∙ shard) (at_rest new has.core))

pub looked_releases : (s mid settled released new : State) (seen : Snapshot) → Seen SameReplies s mid → HasSettled s mid settled seen
    → Seen ReleasesFinished settled released → Seen SameReplies released new
    → ReleasesAll (core_of s) seen (core_of new)
looked_releases s mid settled released new seen same done order kept = (
  done.more,
  done.rising,
  done.none,
  kept.1 ∙ order.0 ∙ (λ i. (done.released ∙ same.1) i ++ (done.finished ∙ ap (λ rs. rs ++ done.more) same.0) i),
  kept.0 ∙ order.1,
)

pub looked_turns : (s mid settled released new : State) (seen : Snapshot) (took : Adopts s mid seen) → HasSettled s mid settled seen → HasReleased mid settled released new
    → (Agrees (core_of s) seen → took.again.0 ≡ []) → released.waiting ≡ settled.waiting → HaveTurns (core_of released) (state_of released) (waiting_of released) (core_of new)
    → HaveTurnsAfter (core_of s) seen (core_of new)
looked_turns s mid settled released new seen took done has none waiting turns = λ unfailed.
    let shape = done.same.0 ∙ took.same.0 in
    let shard = done.same.1 ∙ took.same.1 in
    let own = turns_in s.frames.geometry released.frames.geometry s.frames.shard released.frames.shard (state_of released) (state_of new) (waiting_of released) (waiting_of new)
    (ap (λ (fs : Frames). fs.geometry) has.frames ∙ shape) (ap (λ (fs : Frames). fs.shard) has.frames ∙ shard) turns.1 in
    let from = subst (λ x. HaveTurns (core_of s) x (waiting_of released) (core_of new)) (has.is ∙ ap (λ g. after (layout_of g) (state_of settled) Release) shape) (turns.0, own) in (
      took.over.mid,
      took.over.takes,
      state_of settled,
      go_on_over s mid seen took (state_of settled)
          (through_in s.frames.geometry mid.frames.geometry s.frames.shard mid.frames.shard GoesOn (state_of mid) (state_of settled) took.same.0 took.same.1 done.leads),
      took.again.0,
      took.again.1,
      (λ agrees. (done.stays agrees, none agrees)),
      subst (λ rs. HaveTurns (core_of s) (after (layout_in s) (state_of settled) Release) rs (core_of new)) (ap requests_in (waiting ∙ done.waiting) ∙ took.again.2) from,
    )

pub stopped_turns : (s mid : State) (seen : Snapshot) (took : Adopts s mid seen) → IsSound mid → mid.frames.saw_failed ≡ true → (Agrees (core_of s) seen → state_of mid ≡ state_of s)
    → (Agrees (core_of s) seen → took.again.0 ≡ []) → HaveTurnsAfter (core_of s) seen (core_of mid)
stopped_turns s mid seen took sound failed stays none = λ unfailed. (
  took.over.mid,
  took.over.takes,
  state_of mid,
  go_on_over s mid seen took (state_of mid) ([], refl),
  took.again.0,
  took.again.1,
  (λ agrees. (stays agrees, none agrees)),
  subst (λ x. HaveTurns (core_of s) x (waiting_of s ++ took.again.0) (core_of mid)) (released_nothing mid failed)
      (subst (λ rs. HaveTurns (core_of s) (state_of mid) rs (core_of mid)) took.again.2
      (wait, all_stopped (layout_in s) s.frames.shard (state_of mid) (waiting_of mid) wait (λ live. let not = live.1 in absurd (cc)))),
)
  where
    wait : AllByRecursion (IsWaiting (state_of mid)) (waiting_of mid)
    wait = waiting_wait mid sound
