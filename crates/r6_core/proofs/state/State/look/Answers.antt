use Rattle.std.proofs.Common.{◌≡◌, Bool, true, false, List, [], ◌++◌, length, inl, inr, arith, length-append, refl, sym, ap, subst, ◌∙◌}
use Rattle.std.proofs.lemmas.List.{nil_from_length}
use Rattle.r6_world.specs.Registers.{Snapshot}
use Rattle.r6_core.specs.Shards.{layout_in, state_of, core_of, waiting_of}
use Rattle.r6_core.specs.Order.{Agrees}
use Rattle.r6_core.specs.Parts.{DiffersIf}
use Rattle.std.specs.List.{AllByRecursion}
use Rattle.r6_frames.specs.declared.frames.Frames.{Frames}
use Rattle.r6_frames.specs.Views.{AreLive}
use Rattle.r6_core.specs.Inside.{HasFreed, IsSettled, ReadAgain, Waits}
use Rattle.r6_core.specs.declared.state.State.{State}
use Rattle.r6_core.specs.declared.queued.Queued.{Queued}
use Rattle.r6_core.proofs.Looking.{Adopts, HasSettled, HasReleased, settled_some, settled_none, failed_by-took_over, failed_by-goes_on, looked, looked_failed, looked_stopped, looked_releases, looked_turns, stopped_turns}
use Rattle.r6_core.proofs.state.State.look.Goals as goal
use Rattle.r6_core.proofs.state.State.look.Goals.{then-differs, else-differs}
use Rattle.r6_waiters.specs.Line.{Line, entries_of}
use Rattle.r6_core.proofs.Lined.{all_of_none}

no_both : (b : Bool) → b ≡ true → b ≡ false → ⊥
no_both b is not = let e : true ≡ false = sym is ∙ not in absurd (cc)

-- nothing stands behind what is all
none_more : (xs ys : List Queued) → xs ≡ xs ++ ys → ys ≡ []
none_more xs ys same = nil_from_length ys (let long = ap length same ∙ length-append xs ys in omega (arith, long))

-- a look that finds no slot other lets no direct read wait again
none_again : (s mid : State) (seen : Snapshot) (went_out : Bool) (again : ReadAgain s mid) → (went_out ≡ true → Agrees (core_of s) seen → ⊥) → (went_out ≡ false → (mid ≡ s) × Agrees (core_of s) seen)
    → Agrees (core_of s) seen → again.0 ≡ []
none_again s mid seen true again some none agrees = absurd (some refl agrees)
none_again s mid seen false again some none agrees =
    none_more (waiting_of s) again.0 (sym (ap (λ (x : State). waiting_of x) (none refl).0) ∙ again.2)

-- and leaves the shard
stays : (s mid : State) (seen : Snapshot) (went_out : Bool) → (went_out ≡ true → Agrees (core_of s) seen → ⊥) → (went_out ≡ false → (mid ≡ s) × Agrees (core_of s) seen)
    → Agrees (core_of s) seen → state_of mid ≡ state_of s
stays s mid seen true some none agrees = absurd (some refl agrees)
stays s mid seen false some none agrees = ap state_of (none refl).0

-- what the look sees
sees_other : (s : State) (seen : Snapshot) (differs : Bool) → DiffersIf differs s seen → differs ≡ true → Agrees (core_of s) seen → ⊥
sees_other s seen true is e = is
sees_other s seen false is e = absurd (cc)

sees_same : (s mid : State) (seen : Snapshot) (differs : Bool) → DiffersIf differs s seen → (differs ≡ false → mid ≡ s) → differs ≡ false → (mid ≡ s) × Agrees (core_of s) seen
sees_same s mid seen true is same e = absurd (cc)
sees_same s mid seen false is same e = (same e, is)

pub returns-then-failed-clause-step : goal.returns-then-failed-clause-step
returns-then-failed-clause-step c =
    let s = c.args.self.now in
    let adopt = c.adopt.ensures in
    let mid = c.adopt.new.self in
    let fails = c.see_failure.ensures in
    looked_failed c.args.self.now mid c.see_failure.new.self c.args.snapshot.now
    (record { told = c.is_all_told.ensures.yes c.if-not-is_all_told.false; over = adopt.takes; same = adopt.keeps.0; order = adopt.order; again = adopt.again })
    (sym c.failed.ensures ∙ c.if-failed.true) fails.same fails.fails

pub returns-then-saw_failed-clause-step : goal.returns-then-saw_failed-clause-step
returns-then-saw_failed-clause-step c =
    let s = c.args.self.now in
    let adopt = c.adopt.ensures in
    let mid = c.adopt.new.self in
    looked_stopped c.args.self.now mid c.args.snapshot.now
    (record { told = c.is_all_told.ensures.yes c.if-not-is_all_told.false; over = adopt.takes; same = adopt.keeps.0; order = adopt.order; again = adopt.again })
    (sym c.failed.ensures ∙ c.if-failed.false) (sym c.saw_failed.ensures ∙ c.if-saw_failed.true)

pub returns-then-saw_failed-clause-order : goal.returns-then-saw_failed-clause-order
returns-then-saw_failed-clause-order c =
    let adopt = c.adopt.ensures in
    let unfailed = sym c.failed.ensures ∙ c.if-failed.false in
    let s = c.args.self.now in
    let mid = c.adopt.new.self in
    let kept : mid.frames.saw_failed ≡ s.frames.saw_failed = failed_by-took_over s mid c.args.snapshot.now adopt.takes in
    (λ failed. absurd (no_both _ failed unfailed), λ e was. absurd (no_both _ (sym kept ∙ (sym c.saw_failed.ensures ∙ c.if-saw_failed.true)) was), λ e was. adopt.order)

pub release-requires-clause-core : goal.release-requires-clause-core
release-requires-clause-core c =
    elim c.if-differs.branch [
      | then-differs w ↦ subst IsSettled (sym w.self-is) w.settle.ensures.core
      | else-differs w ↦ subst IsSettled (sym (w.self-is ∙ c.adopt.ensures.none w.if-differs.false)) c.requires.settled
    ]

pub release-requires-clause-unfailed : goal.release-requires-clause-unfailed
release-requires-clause-unfailed c =
    elim c.if-differs.branch [
      | then-differs w ↦
          let mid = c.adopt.new.self in
          let kept : w.settle.new.self.frames.saw_failed ≡ mid.frames.saw_failed = failed_by-goes_on (layout_in mid) mid.frames.shard (state_of mid) (state_of w.settle.new.self) w.settle.ensures.leads in
          ap (λ (x : State). x.frames.saw_failed) w.self-is ∙ kept ∙ (sym c.saw_failed.ensures ∙ c.if-saw_failed.false)
      | else-differs w ↦ ap (λ (x : State). x.frames.saw_failed) w.self-is ∙ (sym c.saw_failed.ensures ∙ c.if-saw_failed.false)
    ]

pub returns-then-saw_failed-clause-turns : goal.returns-then-saw_failed-clause-turns
returns-then-saw_failed-clause-turns c =
    let adopt = c.adopt.ensures in
    let s = c.args.self.now in
    let mid = c.adopt.new.self in
    stopped_turns s mid c.args.snapshot.now
    (record { told = c.is_all_told.ensures.yes c.if-not-is_all_told.false; over = adopt.takes; same = adopt.keeps.0; order = adopt.order; again = adopt.again })
    adopt.sound (sym c.saw_failed.ensures ∙ c.if-saw_failed.true) (stays s mid c.args.snapshot.now c.in-Some.differs (sees_other c.args.self.now c.args.snapshot.now c.in-Some.differs c.in-Some.ensures.1) (sees_same c.args.self.now c.adopt.new.self c.args.snapshot.now c.in-Some.differs c.in-Some.ensures.1 c.adopt.ensures.none))
    (none_again s mid c.args.snapshot.now c.in-Some.differs adopt.again (sees_other c.args.self.now c.args.snapshot.now c.in-Some.differs c.in-Some.ensures.1) (sees_same c.args.self.now c.adopt.new.self c.args.snapshot.now c.in-Some.differs c.in-Some.ensures.1 c.adopt.ensures.none))

-- ---- a look at an array that hasn't failed

abbrev took : (c : goal.After-start_waiting) → Adopts c.args.self.now c.adopt.new.self c.args.snapshot.now
took c =
    let adopt = c.adopt.ensures in
    record {
      told = c.is_all_told.ensures.yes c.if-not-is_all_told.false;
      over = adopt.takes;
      same = adopt.keeps.0;
      order = adopt.order;
      again = adopt.again;
    }

went_on : (c : goal.After-start_waiting) → HasSettled c.args.self.now c.adopt.new.self c.if-differs.self c.args.snapshot.now
went_on c =
    let s = c.args.self.now in
    let mid = c.adopt.new.self in
    let seen = c.args.snapshot.now in
    let adopt = c.adopt.ensures in
    elim c.if-differs.branch [
      | then-differs w ↦
          let settle = w.settle.ensures in
          subst (λ (x : State). HasSettled s mid x seen) (sym w.self-is)
          (settled_some s mid w.settle.new.self seen ((sees_other c.args.self.now c.args.snapshot.now c.in-Some.differs c.in-Some.ensures.1) w.if-differs.true) settle.core settle.leads settle.keeps.0 settle.order settle.keeps.2 settle.keeps.1)
      | else-differs w ↦ subst (λ (x : State). HasSettled s mid x seen) (sym w.self-is) (settled_none s mid seen (adopt.none w.if-differs.false) c.requires.settled)
    ]

released : (c : goal.After-start_waiting) → HasReleased c.adopt.new.self c.if-differs.self c.release.new.self c.start_waiting.new.self
released c =
    let release = c.release.ensures in
    let scan = c.start_waiting.ensures in
    record { is = release.released; frames = release.same.0; leads = scan.leads; same = scan.only.0; core = scan.core }

pub returns-clause-step : goal.returns-clause-step
returns-clause-step c =
    looked c.args.self.now c.adopt.new.self c.if-differs.self c.release.new.self c.start_waiting.new.self c.args.snapshot.now (took c) (sym c.failed.ensures ∙ c.if-failed.false) (went_on c) (released c)

pub returns-clause-order : goal.returns-clause-order
returns-clause-order c =
    let s = c.args.self.now in
    let mid = c.adopt.new.self in
    let seen = c.args.snapshot.now in
    let adopt = c.adopt.ensures in
    let unfailed = sym c.failed.ensures ∙ c.if-failed.false in
    let kept : mid.frames.saw_failed ≡ s.frames.saw_failed = failed_by-took_over s mid seen adopt.takes in (
      λ failed. absurd (no_both _ failed unfailed),
      λ e was. looked_releases s mid c.if-differs.self c.release.new.self c.start_waiting.new.self seen adopt.order (went_on c) c.release.ensures.order c.start_waiting.ensures.only.2.0,
      λ e was. absurd (no_both _ was (sym kept ∙ (sym c.saw_failed.ensures ∙ c.if-saw_failed.false))),
    )

pub returns-clause-turns : goal.returns-clause-turns
returns-clause-turns c =
    looked_turns c.args.self.now c.adopt.new.self c.if-differs.self c.release.new.self c.start_waiting.new.self c.args.snapshot.now (took c) (went_on c) (released c)
    (none_again c.args.self.now c.adopt.new.self c.args.snapshot.now c.in-Some.differs c.adopt.ensures.again (sees_other c.args.self.now c.args.snapshot.now c.in-Some.differs c.in-Some.ensures.1) (sees_same c.args.self.now c.adopt.new.self c.args.snapshot.now c.in-Some.differs c.in-Some.ensures.1 c.adopt.ensures.none))
    c.release.ensures.waiting c.start_waiting.ensures.turns

-- in a shard that has stopped none could start
pub returns-then-failed-clause-core : goal.returns-then-failed-clause-core
returns-then-failed-clause-core c =
    let fails = c.see_failure.ensures in
    record {
      settled = fails.core;
      waits = λ live. all_of_none (Waits c.see_failure.new.self.frames) (entries_of c.see_failure.new.self.waiting) fails.order.2;
    }

pub returns-then-saw_failed-clause-core : goal.returns-then-saw_failed-clause-core
returns-then-saw_failed-clause-core c =
    let mid = c.adopt.new.self in
    let stopped : AreLive mid.frames → ⊥ = λ live. no_both _ (sym c.saw_failed.ensures ∙ c.if-saw_failed.true) live.1 in
    record {
      settled = record { sound = c.adopt.ensures.sound; reading = c.adopt.ensures.reading; rested = λ live. absurd (stopped live) };
      waits = λ live. absurd (stopped live);
    }

-- a look that found no slot other leaves what waits where it was
pub start_waiting-requires-clause-freed : goal.start_waiting-requires-clause-freed
start_waiting-requires-clause-freed c =
    let s = c.args.self.now in
    let adopt = c.adopt.ensures in
    let new = c.release.new.self in
    let release = c.release.ensures in
    elim c.if-differs.branch [
      | then-differs w ↦ subst (λ f. HasFreed f new) (sym w.freed-is) tt
      | else-differs w ↦
          let same : c.if-differs.self ≡ s = w.self-is ∙ adopt.none w.if-differs.false in
          let frames = release.same.0 ∙ ap (λ (x : State). x.frames) same in
          let waiting = release.waiting ∙ ap (λ (x : State). x.waiting) same in
          subst (λ f. HasFreed f new) (sym w.freed-is)
          (subst (λ (fs : Frames). AreLive fs → AllByRecursion (Waits fs) (entries_of new.waiting)) (sym frames)
          (subst (λ (line : Line Queued). AreLive s.frames → AllByRecursion (Waits s.frames) (entries_of line)) (sym waiting) c.requires.waits))
    ]

pub returns-clause-told : goal.returns-clause-told
returns-clause-told c = c.is_all_told.ensures.yes c.if-not-is_all_told.false

pub returns-clause-unanswered : goal.returns-clause-unanswered
returns-clause-unanswered c =
    let unanswered = c.start_waiting.ensures.only.2.1 ∙ c.release.ensures.unanswered in
    elim c.if-differs.branch [
      | then-differs w ↦ unanswered ∙ ap (λ (x : State). x.unanswered) w.self-is ∙ w.settle.ensures.keeps.2 ∙ c.adopt.ensures.keeps.1
      | else-differs w ↦ unanswered ∙ ap (λ (x : State). x.unanswered) w.self-is ∙ c.adopt.ensures.keeps.1
    ]

pub returns-then-not-is_all_told-clause-core : goal.returns-then-not-is_all_told-clause-core
returns-then-not-is_all_told-clause-core c = c.requires

pub returns-then-not-is_all_told-clause-step : goal.returns-then-not-is_all_told-clause-step
returns-then-not-is_all_told-clause-step c = tt

pub returns-then-not-is_all_told-clause-told : goal.returns-then-not-is_all_told-clause-told
returns-then-not-is_all_told-clause-told c = tt

pub returns-then-not-is_all_told-clause-refused : goal.returns-then-not-is_all_told-clause-refused
returns-then-not-is_all_told-clause-refused c = (refl, inl (refl, c.is_all_told.ensures.no c.if-not-is_all_told.true))

pub returns-then-not-is_all_told-clause-order : goal.returns-then-not-is_all_told-clause-order
returns-then-not-is_all_told-clause-order c = tt

pub returns-then-not-is_all_told-clause-unanswered : goal.returns-then-not-is_all_told-clause-unanswered
returns-then-not-is_all_told-clause-unanswered c = refl

pub returns-then-not-is_all_told-clause-turns : goal.returns-then-not-is_all_told-clause-turns
returns-then-not-is_all_told-clause-turns c = tt

pub adopt-requires-clause-settled : goal.adopt-requires-clause-settled
adopt-requires-clause-settled c = c.requires.settled

pub adopt-requires-clause-told : goal.adopt-requires-clause-told
adopt-requires-clause-told c = c.is_all_told.ensures.yes c.if-not-is_all_told.false

pub see_failure-requires : goal.see_failure-requires
see_failure-requires c = c.adopt.ensures.sound

pub returns-then-failed-clause-told : goal.returns-then-failed-clause-told
returns-then-failed-clause-told c = c.is_all_told.ensures.yes c.if-not-is_all_told.false

pub returns-then-failed-clause-refused : goal.returns-then-failed-clause-refused
returns-then-failed-clause-refused c = tt

pub returns-then-failed-clause-order : goal.returns-then-failed-clause-order
returns-then-failed-clause-order c =
    let failed = sym c.failed.ensures ∙ c.if-failed.true in
    let fails = c.see_failure.ensures.order in (
      λ e. (fails.0, fails.1 ∙ c.adopt.ensures.order.1, fails.2),
      λ e was. absurd (no_both _ failed e),
      λ e was. absurd (no_both _ failed e),
    )

pub returns-then-failed-clause-turns : goal.returns-then-failed-clause-turns
returns-then-failed-clause-turns c = λ e. absurd (no_both _ (sym c.failed.ensures ∙ c.if-failed.true) e)

pub returns-then-failed-clause-unanswered : goal.returns-then-failed-clause-unanswered
returns-then-failed-clause-unanswered c = c.see_failure.ensures.unanswered ∙ c.adopt.ensures.keeps.1

pub returns-then-saw_failed-clause-told : goal.returns-then-saw_failed-clause-told
returns-then-saw_failed-clause-told c = c.is_all_told.ensures.yes c.if-not-is_all_told.false

pub returns-then-saw_failed-clause-refused : goal.returns-then-saw_failed-clause-refused
returns-then-saw_failed-clause-refused c = tt

pub returns-then-saw_failed-clause-unanswered : goal.returns-then-saw_failed-clause-unanswered
returns-then-saw_failed-clause-unanswered c = c.adopt.ensures.keeps.1

pub settle-requires-clause-sound : goal.settle-requires-clause-sound
settle-requires-clause-sound c = c.adopt.ensures.sound

pub settle-requires-clause-reading : goal.settle-requires-clause-reading
settle-requires-clause-reading c = c.adopt.ensures.reading

pub settle-requires-clause-readable : goal.settle-requires-clause-readable
settle-requires-clause-readable c = c.adopt.ensures.readable (sym c.failed.ensures ∙ c.if-failed.false) c.if-differs.true

pub start_waiting-requires-clause-settled : goal.start_waiting-requires-clause-settled
start_waiting-requires-clause-settled c = c.release.ensures.core

pub returns-clause-core : goal.returns-clause-core
returns-clause-core c = c.start_waiting.ensures.core

pub returns-clause-refused : goal.returns-clause-refused
returns-clause-refused c = tt

pub adopt-requires-clause-one : goal.adopt-requires-clause-one
adopt-requires-clause-one c = c.in-Some.ensures.0

pub returns-then-not-is_all_told-clause-one : goal.returns-then-not-is_all_told-clause-one
returns-then-not-is_all_told-clause-one c = tt

pub adopt-requires-clause-differs : goal.adopt-requires-clause-differs
adopt-requires-clause-differs c = c.in-Some.ensures.1

-- ---- two slots are being replaced

pub compare-requires : goal.compare-requires
compare-requires c = c.requires.settled.sound

pub returns-in_default-clause-core : goal.returns-in_default-clause-core
returns-in_default-clause-core c = c.requires

pub returns-in_default-clause-step : goal.returns-in_default-clause-step
returns-in_default-clause-step c = tt

pub returns-in_default-clause-told : goal.returns-in_default-clause-told
returns-in_default-clause-told c = tt

pub returns-in_default-clause-one : goal.returns-in_default-clause-one
returns-in_default-clause-one c = tt

pub returns-in_default-clause-refused : goal.returns-in_default-clause-refused
returns-in_default-clause-refused c = (refl, inr (c.is_all_told.ensures.yes c.if-not-is_all_told.false, refl, c.in_default.ensures))

pub returns-in_default-clause-order : goal.returns-in_default-clause-order
returns-in_default-clause-order c = tt

pub returns-in_default-clause-unanswered : goal.returns-in_default-clause-unanswered
returns-in_default-clause-unanswered c = refl

pub returns-in_default-clause-turns : goal.returns-in_default-clause-turns
returns-in_default-clause-turns c = tt

-- one is at most

pub returns-then-failed-clause-one : goal.returns-then-failed-clause-one
returns-then-failed-clause-one c = c.in-Some.ensures.0

pub returns-then-saw_failed-clause-one : goal.returns-then-saw_failed-clause-one
returns-then-saw_failed-clause-one c = c.in-Some.ensures.0

pub returns-clause-one : goal.returns-clause-one
returns-clause-one c = c.in-Some.ensures.0
