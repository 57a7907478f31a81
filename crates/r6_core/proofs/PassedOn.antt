-- Which slots are passed on stays while no device is taken out: until the hold has ended that has passed on one.
use Rattle.std.proofs.Common.{◌≡◌, ◌≢◌, ◌⊎◌, ◌==◌, ℕ, zero, suc, Bool, true, false, if◌then◌else◌, List, [], ◌∷◌, map, refl, sym, ap, subst, ◌∙◌, Option, Some, inl, inr}
use Rattle.std.specs.Prelude.{◌↔◌, option_map}
use Rattle.std.proofs.lemmas.Bool.{cases_eq}
use Rattle.r6_layout.specs.PlainArray.{Block}
use Rattle.r6_layout.specs.Shape.{Shape}
use Rattle.r6_layout.specs.Layout as layout
use Rattle.r6_stripe.specs.Holds.{Cell, Event, Hold as Course, Kind, Reading, Standing, after_event, cell_at, doubled, ready_for, standing_cell, targeted, with_target}
use Rattle.r6_stripe.specs.Holds.Doubling.{Single, Doubled, Passed}
use Rattle.r6_stripe.specs.Holds.Event.{Asks, Fixes, AsksAgain, Restores, Computes, Writes, Copies, Gives, Fails, Confirms, Mends, Settles, Loses, Moves, Drops}
use Rattle.r6_stripe.specs.Holds.Reading.{Unread, Recalled, Asked, Unreadable, Fixing, Fixed, AskedAgain, Known, Replaced}
use Rattle.r6_stripe.specs.Holds.Standing.{InSync, Target, Out}
use Rattle.r6_stripe.specs.Plans.{Planned, planned_after, planned_at, planned_first}
use Rattle.r6_stripe.specs.RowWorld.{confirming}
use Rattle.r6_stripe.proofs.CellsAfter.{Became, cell_after, ready_second, set_cell}
use Rattle.r6_world.specs.Tables.{put}
use Rattle.r6_world.specs.Layouts.{Layout, first}
use Rattle.r6_world.specs.Geometries.{layout_of}
use Rattle.r6_world.specs.Tasks.{Hold}
use Rattle.r6_world.specs.ShardStates.{Shard, SlotState, IsPassedOn, found, generation_in, standings_of}
use Rattle.r6_world.specs.Changes.{Change, Ask, Prepare, Send, Copy, Fix, Ask_again, Learn, Confirm, Give_direct, Classify, IsWorkedOut, after, Allowed, confirmed_by}
use Rattle.r6_world.specs.Steps.{Leads, Takes, Good, Taken}
use Rattle.r6_world.proofs.Tables.{put-same, put-other}
use Rattle.r6_frames.specs.declared.frames.Frames.{Frames}
use Rattle.r6_frames.specs.declared.frames.HeldRow.{HeldRow}
use Rattle.r6_frames.specs.Slots.{states_of}
use Rattle.r6_frames.specs.Views.{Rest, hold_at, hold_of, row_in, shard_with}
use Rattle.r6_frames.specs.Calls.{Answers, Classifies, Drives, KeepsHolds, KeepsOthers, PutsOut}
use Rattle.r6_frames.specs.Reads.{IsPassedOnIn}
use Rattle.r6_frames.specs.Sound as held
use Rattle.r6_frames.proofs.Resting.{frame-held}
use Rattle.r6_core.specs.Inside.{KeepsPassed}
use Rattle.r6_core.proofs.Going.{no_rest}

-- ---- a position is passed on only where it has no second device any more

abbrev pub IsPassed : Cell → Type 0
IsPassed c = c.doubling ≡ Passed

abbrev pub IsAlone : Cell → Type 0
IsAlone c = IsPassed c → c.second ≡ Out

-- by an event that takes no device out it is passed on then if it was
pub record IsStill (before later : Cell) : Type 0 where
  pub was : IsPassed later → IsPassed before
  pub is : IsPassed before → IsPassed later
  pub alone : IsAlone later

still_same : (before later : Cell) → later.doubling ≡ before.doubling → later.second ≡ before.second → IsAlone before → IsStill before later
still_same before later doubling second alone =
    record { was = λ p. sym doubling ∙ p; is = λ p. doubling ∙ p; alone = λ p. second ∙ alone (sym doubling ∙ p) }

-- a write is put out
still_sent : (before later : Cell) → later.doubling ≡ doubled before.second before.doubling → later.second ≡ before.second → IsAlone before → IsStill before later
still_sent before later doubling second alone = by_second before.second refl
  where
    by_second : (t : Standing) → before.second ≡ t → IsStill before later
    by_second InSync e =
        let now : later.doubling ≡ Doubled = doubling ∙ ap (λ x. doubled x before.doubling) e in
        record {
          was = λ p. let both : Doubled ≡ Passed = sym now ∙ p in absurd (cc);
          is = λ p. let both : InSync ≡ Out = sym e ∙ alone p in absurd (cc);
          alone = λ p. let both : Doubled ≡ Passed = sym now ∙ p in absurd (cc);
        }
    by_second Target e = still_same before later (doubling ∙ ap (λ x. doubled x before.doubling) e) second alone
    by_second Out e = still_same before later (doubling ∙ ap (λ x. doubled x before.doubling) e) second alone

ready_doubling : (t : Standing) (c : Cell) (block : List ℕ) → (ready_for t c block).doubling ≡ c.doubling
ready_doubling InSync c block = refl
ready_doubling Target c block = refl
ready_doubling Out c block = refl

-- it takes no device out
abbrev pub IsCalm : Event → Type 0
IsCalm (Loses position) = ⊥
IsCalm (Moves position) = ⊥
IsCalm (Drops position) = ⊥
IsCalm event = Unit {0}

still_became : (event : Event) → IsCalm event → (j : ℕ) (before later : Cell) → IsAlone before → Became event j before later → IsStill before later
still_became (Asks i) calm j before later alone b = still_same before later (ap (λ (c : Cell). c.doubling) b.1) (ap (λ (c : Cell). c.second) b.1) alone
still_became (Fixes i block) calm j before later alone b = still_same before later (ap (λ (c : Cell). c.doubling) b.1) (ap (λ (c : Cell). c.second) b.1) alone
still_became (AsksAgain i) calm j before later alone b = still_same before later (ap (λ (c : Cell). c.doubling) b.1) (ap (λ (c : Cell). c.second) b.1) alone
still_became (Restores i block) calm j before later alone b = still_same before later (ap (λ (c : Cell). c.doubling) b.1) (ap (λ (c : Cell). c.second) b.1) alone
still_became (Computes new) calm j before later alone b =
    still_same before later (ap (λ (c : Cell). c.doubling) b.1.1 ∙ ready_doubling before.second before b.1.0) (ap (λ (c : Cell). c.second) b.1.1 ∙ ready_second before.second before b.1.0) alone
still_became (Writes i block) calm j before later alone b = still_sent before later (ap (λ (c : Cell). c.doubling) b.1) (ap (λ (c : Cell). c.second) b.1) alone
still_became (Copies i block) calm j before later alone b = still_same before later (ap (λ (c : Cell). c.doubling) b.1) (ap (λ (c : Cell). c.second) b.1) alone
still_became (Gives i block) calm j before later alone b = still_same before later (ap (λ (c : Cell). c.doubling) b.1) (ap (λ (c : Cell). c.second) b.1) alone
still_became (Fails i) calm j before later alone b = still_same before later (ap (λ (c : Cell). c.doubling) b.1) (ap (λ (c : Cell). c.second) b.1) alone
still_became (Confirms i) calm j before later alone b = still_same before later (ap (λ (c : Cell). c.doubling) b.1) (ap (λ (c : Cell). c.second) b.1) alone
still_became (Mends i) calm j before later alone b = still_same before later (ap (λ (c : Cell). c.doubling) b.1) (ap (λ (c : Cell). c.second) b.1) alone
still_became (Settles i) calm j before later alone b = still_same before later (ap (λ (c : Cell). c.doubling) b.1) (ap (λ (c : Cell). c.second) b.1) alone
still_became (Loses i) calm j before later alone b = absurd calm
still_became (Moves i) calm j before later alone b = absurd calm
still_became (Drops i) calm j before later alone b = absurd calm

pub still_after : (hold : Course) (event : Event) → IsCalm event → (j : ℕ) → IsAlone (cell_at hold.cells j) → IsStill (cell_at hold.cells j) (cell_at (after_event hold event).cells j)
still_after hold event calm j alone = elim (cell_after hold event j) [
  | inl same ↦ still_same (cell_at hold.cells j) (cell_at (after_event hold event).cells j) (ap (λ (c : Cell). c.doubling) same) (ap (λ (c : Cell). c.second) same) alone
  | inr became ↦ still_became event calm j (cell_at hold.cells j) (cell_at (after_event hold event).cells j) alone became
]

-- ---- a hold that follows its plan

-- a device that is taken out leaves no second one
alone_after : (hold : Course) (event : Event) (j : ℕ) → IsAlone (cell_at hold.cells j) → IsAlone (cell_at (after_event hold event).cells j)
alone_after hold event j alone = by_event event (cell_after hold event j)
  where
    later : Event → Cell
    later event = cell_at (after_event hold event).cells j

    calm : (event : Event) → IsCalm event → IsAlone (later event)
    calm event is = (still_after hold event is j alone).alone

    out : (event : Event) → (later event ≡ cell_at hold.cells j) ⊎ ((later event).second ≡ Out) → IsAlone (later event)
    out event (inl same) p = ap (λ (c : Cell). c.second) same ∙ alone (sym (ap (λ (c : Cell). c.doubling) same) ∙ p)
    out event (inr second) p = second

    by_event : (event : Event) → (later event ≡ cell_at hold.cells j) ⊎ Became event j (cell_at hold.cells j) (later event) → IsAlone (later event)
    by_event (Loses i) (inl same) = out (Loses i) (inl same)
    by_event (Loses i) (inr b) = out (Loses i) (inr (ap (λ (c : Cell). c.second) b.1))
    by_event (Moves i) (inl same) = out (Moves i) (inl same)
    by_event (Moves i) (inr b) = out (Moves i) (inr (ap (λ (c : Cell). c.second) b.1))
    by_event (Drops i) (inl same) = out (Drops i) (inl same)
    by_event (Drops i) (inr b) = out (Drops i) (inr (ap (λ (c : Cell). c.second) b.1))
    by_event (Asks i) either = calm (Asks i) tt
    by_event (Fixes i block) either = calm (Fixes i block) tt
    by_event (AsksAgain i) either = calm (AsksAgain i) tt
    by_event (Restores i block) either = calm (Restores i block) tt
    by_event (Computes new) either = calm (Computes new) tt
    by_event (Writes i block) either = calm (Writes i block) tt
    by_event (Copies i block) either = calm (Copies i block) tt
    by_event (Gives i block) either = calm (Gives i block) tt
    by_event (Fails i) either = calm (Fails i) tt
    by_event (Confirms i) either = calm (Confirms i) tt
    by_event (Mends i) either = calm (Mends i) tt
    by_event (Settles i) either = calm (Settles i) tt

pub alone_at : (planned : Planned) (events : List Event) (j : ℕ) → IsAlone (cell_at planned.hold.cells j) → IsAlone (cell_at (planned_at planned events).hold.cells j)
alone_at planned [] j alone = alone
alone_at planned (event ∷ events) j alone = alone_at (planned_after planned event) events j (alone_after planned.hold event j alone)

-- ---- as a hold begins

standing_single : (standings : List (Standing × Standing)) (j : ℕ) → (cell_at (map standing_cell standings) j).doubling ≡ Single
standing_single [] j = refl
standing_single (standing ∷ standings) zero = refl
standing_single (standing ∷ standings) (suc j) = standing_single standings j

targeted_single : (t : Standing) (c : Cell) → c.doubling ≡ Single → (targeted t c).doubling ≡ Single
targeted_single InSync c single = single
targeted_single Target c single = single
targeted_single Out c single = refl

begun_cells : (kind : Kind) (cells : List Cell) → ((j : ℕ) → (cell_at cells j).doubling ≡ Single) → (j : ℕ) → (cell_at (with_target kind cells) j).doubling ≡ Single
begun_cells Kind.Idle cells single j = single j
begun_cells (Kind.Read index) cells single j = single j
begun_cells (Kind.Write batch) cells single j = single j
begun_cells (Kind.Rebuild target) cells single j = elim (set_cell (λ c. targeted c.standing c) cells target j) [
  | inl same ↦ ap (λ (c : Cell). c.doubling) same ∙ single j
  | inr own ↦ ap (λ (c : Cell). c.doubling) own.1 ∙ targeted_single (cell_at cells j).standing (cell_at cells j) (single j)
]
begun_cells Kind.Check cells single j = single j
begun_cells Kind.Repair cells single j = single j

pub begun_single : (l : Layout) (slots : ℕ → SlotState) (row : ℕ) (kind : Kind) (j : ℕ) → (cell_at (planned_first (found l slots row) kind).hold.cells j).doubling ≡ Single
begun_single l slots row kind j = begun_cells kind (found l slots row).cells (λ k. standing_single (first l.slots (λ at. standings_of (slots (l.slot_at row at)) row)) k) j

single_alone : (c : Cell) → c.doubling ≡ Single → IsAlone c
single_alone c single p = absurd (let both : Single ≡ Passed = sym single ∙ p in cc)

-- ---- in the world

pub passed_in : (rest : Rest) (fs : Frames) (row slot : ℕ) → IsPassedOnIn fs row slot → IsPassedOn (layout_of fs.geometry) (shard_with rest fs) row slot
passed_in rest fs row slot p = (p.0, hold_of p.1, ap (option_map hold_of) p.2, p.3, p.4)

pub passed_of : (rest : Rest) (fs : Frames) (row slot : ℕ) → IsPassedOn (layout_of fs.geometry) (shard_with rest fs) row slot → IsPassedOnIn fs row slot
passed_of rest fs row slot p =
    let held = frame-held fs p.0 p.1 p.2 in
    (p.0, held.0, held.1, ap (λ (h : Hold). h.row) held.2 ∙ p.3, ap (λ (h : Hold). (cell_at h.course.cells (layout.position_at fs.geometry row slot)).doubling) held.2 ∙ p.4)

abbrev AreAlone : Shard → Type 0
AreAlone s = (f : ℕ) (h : Hold) → s.frame f ≡ Some h → (j : ℕ) → IsAlone (cell_at h.course.cells j)

abbrev StaysIn : Layout → Shard → Shard → Type 0
StaysIn l old new = AreAlone new × ((row slot : ℕ) → IsPassedOn l new row slot ↔ IsPassedOn l old row slot)

all_alone : (rest : Rest) (fs : Frames) → held.IsSound fs → AreAlone (shard_with rest fs)
all_alone rest fs sound f h is j =
    let held = frame-held fs f h is in
    let under = (sound.frames.rows f held.0 held.1).under_way in
    let start = planned_first (found (layout_of fs.geometry) (states_of under.slots) under.row) under.kind in
    let here = ap (λ (p : Planned). cell_at p.hold.cells j) under.here ∙ ap (λ (x : Hold). cell_at x.course.cells j) held.2 in
    subst IsAlone here (alone_at start under.events j (single_alone (cell_at start.hold.cells j) (begun_single (layout_of fs.geometry) (states_of under.slots) under.row under.kind j)))

-- one hold goes on
module _ (l : Layout) (s s' : Shard) (f : ℕ) (h h' : Hold) (there : s.frame f ≡ Some h) (puts : s'.frame ≡ put s.frame f (Some h')) (row : h'.row ≡ h.row)
    (still : (j : ℕ) → IsStill (cell_at h.course.cells j) (cell_at h'.course.cells j)) (alone : AreAlone s) where
  own : (k : Hold) → s'.frame f ≡ Some k → h' ≡ k
  own k is = let both : Some h' ≡ Some k = sym (put-same s.frame f (Some h') f refl) ∙ sym (ap (λ (x : ℕ → Option Hold). x f) puts) ∙ is in cc

  other : (g : ℕ) → g ≢ f → s'.frame g ≡ s.frame g
  other g ne = ap (λ (x : ℕ → Option Hold). x g) puts ∙ put-other s.frame f (Some h') g ne

  still_alone : AreAlone s'
  still_alone g k is j = elim (cases_eq g f) [
    | inl e ↦ subst (λ (x : Hold). IsAlone (cell_at x.course.cells j)) (own k (sym (ap s'.frame e) ∙ is)) (still j).alone
    | inr ne ↦ alone g k (sym (other g ne) ∙ is) j
  ]

  was_passed : (at slot : ℕ) → IsPassedOn l s' at slot → IsPassedOn l s at slot
  was_passed at slot p = elim (cases_eq p.0 f) [
    | inl e ↦
        let same = own p.1 (sym (ap s'.frame e) ∙ p.2) in
        (f, h, there, sym row ∙ ap (λ (x : Hold). x.row) same ∙ p.3, (still (l.position at slot)).was (ap (λ (x : Hold). (cell_at x.course.cells (l.position at slot)).doubling) same ∙ p.4))
    | inr ne ↦ (p.0, p.1, sym (other p.0 ne) ∙ p.2, p.3, p.4)
  ]

  is_passed : (at slot : ℕ) → IsPassedOn l s at slot → IsPassedOn l s' at slot
  is_passed at slot p = elim (cases_eq p.0 f) [
    | inl e ↦
        let same : h ≡ p.1 = let both : Some h ≡ Some p.1 = sym there ∙ sym (ap s.frame e) ∙ p.2 in cc in (
          f,
          h',
          ap (λ (x : ℕ → Option Hold). x f) puts ∙ put-same s.frame f (Some h') f refl,
          row ∙ ap (λ (x : Hold). x.row) same ∙ p.3,
          (still (l.position at slot)).is (ap (λ (x : Hold). (cell_at x.course.cells (l.position at slot)).doubling) same ∙ p.4),
        )
    | inr ne ↦ (p.0, p.1, other p.0 ne ∙ p.2, p.3, p.4)
  ]

  goes_on_still : StaysIn l s s'
  goes_on_still = (still_alone, λ at slot. (was_passed at slot, is_passed at slot))

-- by an event that takes no device out
event_stays : (l : Layout) (s s' : Shard) (f : ℕ) (h : Hold) (event : Event) → IsCalm event → s.frame f ≡ Some h → s'.frame ≡ put s.frame f (Some (record h { course = after_event h.course event })) → AreAlone s
    → StaysIn l s s'
event_stays l s s' f h event calm there puts alone =
    goes_on_still l s s' f h (record h { course = after_event h.course event }) there puts refl (λ j. still_after h.course event calm j (alone f h there j)) alone

same_stays : (l : Layout) (s s' : Shard) → s'.frame ≡ s.frame → AreAlone s → StaysIn l s s'
same_stays l s s' same alone = (
  λ f h is j. alone f h (sym (ap (λ (x : ℕ → Option Hold). x f) same) ∙ is) j,
  λ at slot. (
    λ p. (p.0, p.1, sym (ap (λ (x : ℕ → Option Hold). x p.0) same) ∙ p.2, p.3, p.4),
    λ p. (p.0, p.1, ap (λ (x : ℕ → Option Hold). x p.0) same ∙ p.2, p.3, p.4),
  ),
)

worked_calm : (event : Event) → IsWorkedOut event → IsCalm event
worked_calm (Restores position block) is = tt
worked_calm (Computes new) is = tt
worked_calm event is = absurd is

put_stays : (l : Layout) (n : ℕ) (s : Shard) (change : Change) → PutsOut change → Allowed l n s change → AreAlone s → StaysIn l s (after l s change)
put_stays l n s (Ask f h slot generation) puts may alone = event_stays l s (after l s (Ask f h slot generation)) f h (Asks (l.position h.row slot)) tt may.0 refl alone
put_stays l n s (Prepare f h event) puts may alone = event_stays l s (after l s (Prepare f h event)) f h event (worked_calm event may.2) may.0 refl alone
put_stays l n s (Send f h slot generation b) puts may alone = event_stays l s (after l s (Send f h slot generation b)) f h (Writes (l.position h.row slot) b) tt may.0 refl alone
put_stays l n s (Copy f h slot generation b) puts may alone = event_stays l s (after l s (Copy f h slot generation b)) f h (Copies (l.position h.row slot) b) tt may.0 refl alone
put_stays l n s (Fix f h slot generation b) puts may alone = event_stays l s (after l s (Fix f h slot generation b)) f h (Fixes (l.position h.row slot) b) tt may.0 refl alone
put_stays l n s (Ask_again f h slot generation) puts may alone = event_stays l s (after l s (Ask_again f h slot generation)) f h (AsksAgain (l.position h.row slot)) tt may.0 refl alone
put_stays l n s change puts may alone = absurd puts

both_stay : (l : Layout) (s mid new : Shard) → StaysIn l s mid → StaysIn l mid new → StaysIn l s new
both_stay l s mid new a b = (b.0, λ at slot. (λ p. (a.1 at slot).0 ((b.1 at slot).0 p), λ p. (b.1 at slot).1 ((a.1 at slot).1 p)))

led_stays : (Kind : Change → Type 0) (l : Layout) (n : ℕ) → ((s : Shard) (change : Change) → Kind change → Allowed l n s change → AreAlone s → StaysIn l s (after l s change))
    → (old new : Shard) (changes : List Change) → Leads l n Kind old changes new → AreAlone old → StaysIn l old new
led_stays Kind l n step old new [] leads alone = same_stays l old new (ap (λ (x : Shard). x.frame) leads) alone
led_stays Kind l n step old new (change ∷ changes) leads alone =
    let first = step old change leads.0 leads.1 alone in
    both_stay l old (after l old change) new first (led_stays Kind l n step (after l old change) new changes leads.2 first.0)

-- ---- what the frames do

-- as the world has it
stays_in : (rest : Rest) (old new : Frames) → new.geometry ≡ old.geometry → StaysIn (layout_of old.geometry) (shard_with rest old) (shard_with rest new) → KeepsPassed old new
stays_in rest old new same stays row slot = (
  λ p. passed_of rest old row slot ((stays.1 row slot).0 (subst (λ (g : Shape). IsPassedOn (layout_of g) (shard_with rest new) row slot) same (passed_in rest new row slot p))),
  λ p. passed_of rest new row slot (subst (λ (g : Shape). IsPassedOn (layout_of g) (shard_with rest new) row slot) (sym same) ((stays.1 row slot).1 (passed_in rest old row slot p))),
)

pub passed_drives : (old new : Frames) → held.IsSound old → Drives old new → KeepsPassed old new
passed_drives old new sound drives =
    let l = layout_of old.geometry in
    let through = drives.2 no_rest in
    stays_in no_rest old new drives.0
    (led_stays PutsOut l old.shard (put_stays l old.shard) (shard_with no_rest old) (shard_with no_rest new) through.0 through.1 (all_alone no_rest old sound))

-- a command is answered
confirmed_calm : (b : Bool) (reading : Reading) (at : ℕ) → IsCalm (if b then confirming reading at else Settles at)
confirmed_calm true Unread at = tt
confirmed_calm true Recalled at = tt
confirmed_calm true Asked at = tt
confirmed_calm true Unreadable at = tt
confirmed_calm true Fixing at = tt
confirmed_calm true Fixed at = tt
confirmed_calm true AskedAgain at = tt
confirmed_calm true (Known block) at = tt
confirmed_calm true Replaced at = tt
confirmed_calm false reading at = tt

answer_stays : (l : Layout) (n : ℕ) (s : Shard) (token : ℕ) (block : Block) (change : Change) → Takes l s token (Good block) Taken change → Allowed l n s change → AreAlone s → StaysIn l s (after l s change)
answer_stays l n s token block (Learn t c h learned) takes may alone = event_stays l s (after l s (Learn t c h learned)) c.frame h (Gives (l.position h.row c.slot) learned) tt may.2 refl alone
answer_stays l n s token block (Confirm t c h) takes may alone =
    let at = l.position h.row c.slot in
    event_stays l s (after l s (Confirm t c h)) c.frame h (confirmed_by (s.slot c.slot) c.generation (cell_at h.course.cells at).reading at) (confirmed_calm (generation_in (s.slot c.slot) == c.generation) (cell_at h.course.cells at).reading at) may.2 refl alone
answer_stays l n s token block (Give_direct t c id number given) takes may alone = same_stays l s (after l s (Give_direct t c id number given)) refl alone
answer_stays l n s token block change takes may alone = absurd takes

classified_stays : (l : Layout) (n : ℕ) (s : Shard) (change : Change) → Classifies change → Allowed l n s change → AreAlone s → StaysIn l s (after l s change)
classified_stays l n s (Classify f h class) is may alone =
    goes_on_still l s (after l s (Classify f h class)) f h (record h { class = Some class }) may.0 refl refl
    (λ j. record { was = λ p. p; is = λ p. p; alone = alone f h may.0 j }) alone
classified_stays l n s change is may alone = absurd is

pub passed_answers : (old new : Frames) (token : ℕ) (block : Block) → held.IsSound old → Answers old token block new → KeepsPassed old new
passed_answers old new token block sound answers =
    let l = layout_of old.geometry in
    let does = answers.2 no_rest in
    let s = shard_with no_rest old in
    let first = answer_stays l old.shard s token block does.0 does.1 does.2 (all_alone no_rest old sound) in
    stays_in no_rest old new answers.0
    (both_stay l s (after l s does.0) (shard_with no_rest new) first
    (led_stays Classifies l old.shard (classified_stays l old.shard) (after l s does.0) (shard_with no_rest new) does.3.0 does.3.1 first.0))

same_doubling : (old new : Frames) → new.geometry ≡ old.geometry → (row slot : ℕ) (h : HeldRow) → (cell_at h.hold.planned.hold.cells (layout.position_at new.geometry row slot)).doubling ≡ (cell_at h.hold.planned.hold.cells (layout.position_at old.geometry row slot)).doubling
same_doubling old new shape row slot h = ap (λ (g : Shape). (cell_at h.hold.planned.hold.cells (layout.position_at g row slot)).doubling) shape

-- the holds are as they were
pub passed_same : (old new : Frames) → new.geometry ≡ old.geometry → KeepsHolds old new → KeepsPassed old new
passed_same old new shape holds row slot = (
  λ p. (p.0, p.1, sym (ap (λ items. hold_at items p.0) holds) ∙ p.2, p.3, sym (same_doubling old new shape row slot p.1) ∙ p.4),
  λ p. (p.0, p.1, ap (λ items. hold_at items p.0) holds ∙ p.2, p.3, same_doubling old new shape row slot p.1 ∙ p.4),
)

-- a hold began or ended that has passed on no slot, and the others are as they were
abbrev pub PassesNoneIn : Option HeldRow → Type 0
PassesNoneIn o = (h : HeldRow) → o ≡ Some h → (j : ℕ) → IsPassed (cell_at h.hold.planned.hold.cells j) → ⊥

pub passed_others : (old new : Frames) (frame : ℕ) → new.geometry ≡ old.geometry → KeepsOthers old frame new → PassesNoneIn (hold_at old.uses frame) → PassesNoneIn (hold_at new.uses frame)
    → KeepsPassed old new
passed_others old new frame shape others first last row slot = (
  λ p. elim (cases_eq p.0 frame) [
    | inl e ↦ absurd (last p.1 (sym (ap (hold_at new.uses) e) ∙ p.2) (layout.position_at new.geometry row slot) p.4)
    | inr ne ↦ (p.0, p.1, sym (ap row_in (others p.0 ne)) ∙ p.2, p.3, sym (same_doubling old new shape row slot p.1) ∙ p.4)
  ],
  λ p. elim (cases_eq p.0 frame) [
    | inl e ↦ absurd (first p.1 (sym (ap (hold_at old.uses) e) ∙ p.2) (layout.position_at old.geometry row slot) p.4)
    | inr ne ↦ (p.0, p.1, ap row_in (others p.0 ne) ∙ p.2, p.3, same_doubling old new shape row slot p.1 ∙ p.4)
  ],
)

pub passed_both : (old mid new : Frames) → KeepsPassed old mid → KeepsPassed mid new → KeepsPassed old new
passed_both old mid new a b row slot = (λ p. (a row slot).0 ((b row slot).0 p), λ p. (b row slot).1 ((a row slot).1 p))
