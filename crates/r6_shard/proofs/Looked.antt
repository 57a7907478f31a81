-- What a shard knows by its last look, as it goes on.
use Rattle.std.proofs.Common.{◌≡◌, ℕ, ◌<◌, ◌≤◌, List, Bool, true, false, inl, inr, refl, sym, ap, subst, ◌∙◌, arith}
use Rattle.std.proofs.lemmas.Bool.{cases_Bool, false≢true}
use Rattle.r6_layout.specs.Shape.{Shape}
use Rattle.r6_health.specs.declared.history.View.{View}
use Rattle.r6_health.specs.Histories.{held}
use Rattle.r6_world.specs.Layouts.{Layout}
use Rattle.r6_world.specs.Registers.{Snapshot, Status, InSync, Lost, Rebuilding, Replacing, status_of}
use Rattle.r6_world.proofs.Tables.{None-not_Some}
use Rattle.r6_world.specs.ShardStates.{Shard, SlotState, Missing}
use Rattle.r6_world.specs.Changes.{Adopt, Bring_in, Finish, Give_over, Lose, Move, Release, adopted, without, brought_in, after, slots_in_error}
use Rattle.r6_world.specs.Steps as steps
use Rattle.r6_world.specs.Steps.{Event, Deliver, Error, Late, Look, Looks}
use Rattle.r6_world.specs.Worlds.{slot_at_start}
use Rattle.r6_world.specs.Refusals.{IsNoLook, SeesNoFailure}
use Rattle.r6_world.proofs.Changes.{Keeps, step-kept, go-on-kept, through-scans, lost-kept}
use Rattle.r6_world.proofs.Refused.Refusals.{stops_only_when_seen}
use Rattle.r6_world.specs.Looks.{IsDeviceOf}
use Rattle.r6_world.proofs.Looks.{look_keeps_no_other}
use Rattle.r6_world.proofs.Uses.{used-has}
use Rattle.r6_course.specs.Ends.{IsInUse}
use Rattle.r6_course.proofs.Ends.{look-sees, uses-of}
use Rattle.r6_core.specs.declared.turn.Task.{Task}
use Rattle.r6_core.specs.declared.turn.Turn.{Turn}
use Rattle.r6_core.specs.Effects.{IsMade, TakesTurn}
use Rattle.r6_core.specs.Shards.{CoreView, Step, core_layout, world_shard}
use Rattle.r6_shard.specs.declared.ledger.Entry.{Entry}
use Rattle.r6_shard.specs.Looked.{KnowsLast}
use Rattle.r6_shard.specs.Own.{SeesFailure}
use Rattle.r6_shard.proofs.Keeping.{turned, turned-no-look}
use Rattle.r6_shard.specs.Looked.{HasDevice, IsNumbered}
use Rattle.r6_shard.specs.New.{IsNew}
use Rattle.r6_shard.specs.Uses.{UsesOnly}
use Rattle.r6_shard.proofs.Sound.{put-used, without-used, brought-used, finished-used, uses-on, finds-none}

-- ---- each small change

-- what is in use in a slot was in use there, but where a look found a new device
abbrev WasInUse : (slot : ℕ) → (first now : Shard) → Type 0
WasInUse slot first now = (g : ℕ) → IsInUse (now.slot slot) g → IsInUse (first.slot slot) g

in-use-kept : (l : Layout) (n slot : ℕ) (first : Shard) (event : Event) → IsNoLook event → Keeps l n (WasInUse slot first) event
in-use-kept l n slot first event none s (Lose t c) within a x = λ g u.
    put-used s.slot c.slot (without (s.slot c.slot) c.generation) slot g
    (λ same v. x g (subst (λ y. IsInUse (s.slot y) g) (sym same) (without-used (s.slot c.slot) c.generation g v))) (x g) u
in-use-kept l n slot first event none s (Move f h d lost) within a x = λ g u.
    put-used s.slot d (without (s.slot d) lost) slot g
    (λ same v. x g (subst (λ y. IsInUse (s.slot y) g) (sym same) (without-used (s.slot d) lost g v))) (x g) u
in-use-kept l n slot first event none s (Give_over f h) within a x =
    lost-kept l (WasInUse slot first) (λ s d x g u. put-used s.slot d Missing slot g (λ same v. absurd v) (x g) u) (slots_in_error l h) s x
in-use-kept l n slot first event none s (Adopt d status) within a x = absurd (subst IsNoLook within.1 none)
in-use-kept l n slot first event none s (Finish f h outcome) within a x = λ g u. x g (finished-used s h h.task outcome slot g u)
in-use-kept l n slot first event none s (Bring_in d new) within a x = λ g u.
    put-used s.slot d (brought_in (s.slot d)) slot g
    (λ same v. x g (subst (λ y. IsInUse (s.slot y) g) (sym same) (brought-used (s.slot d) g v))) (x g) u
in-use-kept l n slot first event none s change within a x = x

-- ---- a look

used-then : (l : Layout) (n : ℕ) (failed : Bool) (mid new : Shard) → Looks l n failed mid new → (slot : ℕ) → WasInUse slot mid new
used-then l n true mid new p slot = subst (WasInUse slot mid) (sym p) (λ g u. u)
used-then l n false mid new p slot =
    let event = Deliver 0 Error Late in
    let kept = in-use-kept l n slot mid event (record {}) in
    through-scans l n (WasInUse slot mid) event kept (after l p.0 Release) new p.2
    (go-on-kept l n (WasInUse slot mid) event (record {}) kept mid p.0 p.1 (λ g u. u))

used-after : (l : Layout) (n : ℕ) (old : Shard) (seen : Snapshot) (new : Shard) → steps.Step l n old (Look seen) new → (slot : ℕ) → slot < l.slots
    → (status : Status) → status_of seen slot ≡ status → (g : ℕ) → IsInUse (new.slot slot) g → IsInUse (adopted (old.slot slot) status) g
used-after l n old seen new st slot below status e g u =
    subst (λ y. IsInUse (adopted (old.slot slot) y) g) e
    (subst (λ y. IsInUse y g) (st.4 slot below) (used-then l n seen.failed st.2 new st.5 slot g u))

-- no device is used after a look that the register didn't have
used-there : (now : SlotState) (status : Status) (g : ℕ) → IsInUse (adopted now status) g → IsDeviceOf status g
used-there now status g u = look_keeps_no_other now status g (used-has (adopted now status) g (uses-of (adopted now status) g u))

-- ---- each call of the core

sees-none : (event : Event) → IsNoLook event → SeesNoFailure event
sees-none (Look seen) k = absurd k
sees-none event k = record {}

same-shape : (old new : CoreView) (last : Snapshot) (slot : ℕ) → new.shape ≡ old.shape
    → UsesOnly old.shape.slots (λ g. g ≤ last.attaches) slot (world_shard new) → UsesOnly new.shape.slots (λ g. g ≤ last.attaches) slot (world_shard new)
same-shape old new last slot same x = subst (λ (y : Shape). UsesOnly y.slots (λ g. g ≤ last.attaches) slot (world_shard new)) (sym same) x

-- a device that is built is there
new-there : (status : Status) (g : ℕ) → IsNew status g → HasDevice status g
new-there (InSync current) g new = absurd new
new-there Lost g new = absurd new
new-there (Rebuilding current reported) g new = new
new-there (Replacing old current reported) g new = inr new

-- any call but a look
pub knows-on : (old : CoreView) (event : Event) (new : CoreView) (last : Snapshot) → IsNoLook event → Step old event new → KnowsLast old last → KnowsLast new last
knows-on old event new last none step x =
    let l = core_layout old in
    let used : (slot : ℕ) → WasInUse slot (world_shard old) (world_shard new) =
    (λ slot. step-kept l old.shard (WasInUse slot (world_shard old)) event (in-use-kept l old.shard slot (world_shard old) event none) (world_shard old)
    (world_shard new) step.1 (λ g u. u)) in
    let low : (slot : ℕ) → slot < new.shape.slots → slot < old.shape.slots = (λ slot below. subst (λ (y : Shape). slot < y.slots) step.0.0 below) in
    record {
      failed = stops_only_when_seen l old.shard (world_shard old) (world_shard new) event (sees-none event none) step.1 ∙ x.failed;
      lost = λ slot below e g u. x.lost slot (low slot below) e g (used slot g u);
      rebuilt = λ slot below new' reported e g u. x.rebuilt slot (low slot below) new' reported e g (used slot g u);
      replaced = λ slot below old' new' reported e g u other. x.replaced slot (low slot below) old' new' reported e g (used slot g u) other;
      in_sync = λ slot below current e more g u. x.in_sync slot (low slot below) current e more g (used slot g u);
      used = λ slot. same-shape old new last slot step.0.0
          (uses-on l old.shard (λ g. g ≤ last.attaches) slot event (finds-none l old.shard (λ g. g ≤ last.attaches) slot event none)
          (world_shard old) (world_shard new) step.1 (x.used slot));
    }

pub knows-twice : (old : CoreView) (event : Event) (mid : CoreView) (event' : Event) (new : CoreView) (last : Snapshot) → IsNoLook event → IsNoLook event'
    → Step old event mid → Step mid event' new → KnowsLast old last → KnowsLast new last
knows-twice old event mid event' new last none none' first second x = knows-on mid event' new last none' second (knows-on old event mid last none first x)

pub knows-same : (old new : CoreView) (last : Snapshot) → new ≡ old → KnowsLast old last → KnowsLast new last
knows-same old new last same x = subst (λ y. KnowsLast y last) (sym same) x

pub knows-turned : (old : CoreView) (task : Task) (turn : Turn) (new : CoreView) (last : Snapshot) → TakesTurn old task turn new → KnowsLast old last
    → KnowsLast new last
knows-turned old task turn new last t x =
    let p = turned old task turn new t in knows-on old p.0 new last (turned-no-look old task turn new t) p.5 x

-- the core looks at what the pass saw last: what it saw failed before has failed there
pub knows-looked : (old : CoreView) (last seen : Snapshot) (new : CoreView) (v : View) (entries : List Entry) → seen ≡ held v.start v.seen → IsNumbered seen
    → last.attaches ≤ (held v.start v.seen).attaches → Step old (Look seen) new → SeesFailure old v entries → KnowsLast old last → KnowsLast new seen
knows-looked old last seen new v entries is numbered few step failure x =
    let l = core_layout old in
    let low : (slot : ℕ) → slot < new.shape.slots → slot < old.shape.slots = (λ slot below. subst (λ (y : Shape). slot < y.slots) step.0.0 below) in
    record {
      failed = elim (cases_Bool seen.failed) [
        | inl failed ↦ look-sees l old.shard (world_shard old) seen (world_shard new) step.1 failed ∙ sym failed
        | inr fine ↦
            stops_only_when_seen l old.shard (world_shard old) (world_shard new) (Look seen) fine step.1 ∙ elim (cases_Bool (world_shard old).saw_failed) [
              | inl saw ↦ absurd (false≢true (sym fine ∙ ap (λ (y : Snapshot). y.failed) is ∙ failure.there saw))
              | inr unseen ↦ unseen ∙ sym fine
            ]
      ];
      lost = λ slot below e g u. used-there ((world_shard old).slot slot) Lost g
          (used-after l old.shard (world_shard old) seen (world_shard new) step.1 slot (low slot below) Lost e g u);
      rebuilt = λ slot below new' reported e g u. sym (used-there ((world_shard old).slot slot) (Rebuilding new' reported) g
          (used-after l old.shard (world_shard old) seen (world_shard new) step.1 slot (low slot below) (Rebuilding new' reported) e g u));
      replaced = λ slot below old' new' reported e g u other. elim (used-there ((world_shard old).slot slot) (Replacing old' new' reported) g
          (used-after l old.shard (world_shard old) seen (world_shard new) step.1 slot (low slot below) (Replacing old' new' reported) e g u)) [
            | inl one ↦ sym one
            | inr two ↦ absurd (other (sym two))
          ];
      in_sync = λ slot below current e more g u. sym (used-there ((world_shard old).slot slot) (InSync current) g
          (used-after l old.shard (world_shard old) seen (world_shard new) step.1 slot (low slot below) (InSync current) e g u));
      used = λ slot.
          let more : (g : ℕ) → g ≤ last.attaches → g ≤ seen.attaches =
          (λ g most. let all = few in let same = ap (λ (y : Snapshot). y.attaches) is in omega arith) in
          same-shape old new seen slot step.0.0
          (uses-on l old.shard (λ g. g ≤ seen.attaches) slot (Look seen) (λ below g new'. numbered slot g (new-there (status_of seen slot) g new'))
          (world_shard old) (world_shard new) step.1
          (λ below g u. more g ((x.used slot).0 below g u), λ token c e same. more c.generation ((x.used slot).1 token c e same)));
    }

-- ---- the start

pub knows-first : (shape : Shape) (snapshot : Snapshot) (number : ℕ) (core : CoreView) → snapshot.attaches ≡ 0 → snapshot.failed ≡ false → IsMade shape snapshot number core
    → KnowsLast core snapshot
knows-first shape snapshot number core unattached fine made =
    record {
      failed = ap (λ (y : Shard). y.saw_failed) made.start ∙ sym fine;
      lost = λ slot below e g u. at slot g Lost e u;
      rebuilt = λ slot below new reported e g u. absurd (at slot g (Rebuilding new reported) e u);
      replaced = λ slot below old new reported e g u other. absurd (at slot g (Replacing old new reported) e u);
      in_sync = λ slot below current e more g u. absurd (omega arith);
      used = λ slot. (
        λ below g u. first slot g (status_of snapshot slot) refl u,
        λ token c e same. absurd (None-not_Some c (sym (ap (λ (y : Shard). y.command token) made.start) ∙ e)),
      );
    }
  where
    at : (slot g : ℕ) (status : Status) → status_of snapshot slot ≡ status → IsInUse ((world_shard core).slot slot) g → IsInUse (slot_at_start status) g
    at slot g status e u = subst (λ y. IsInUse (slot_at_start y) g) e (subst (λ (y : Shard). IsInUse (y.slot slot) g) made.start u)

    first : (slot g : ℕ) (status : Status) → status_of snapshot slot ≡ status → IsInUse ((world_shard core).slot slot) g → g ≤ snapshot.attaches
    first slot g (InSync current) e u = let none : g ≡ 0 = at slot g (InSync current) e u in omega arith
    first slot g Lost e u = absurd (at slot g Lost e u)
    first slot g (Rebuilding new reported) e u = absurd (at slot g (Rebuilding new reported) e u)
    first slot g (Replacing old new reported) e u = absurd (at slot g (Replacing old new reported) e u)
