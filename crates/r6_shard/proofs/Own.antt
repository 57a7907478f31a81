-- A shard makes no calls but its own, and sees the failure with its pass.
use Rattle.std.proofs.Common.{◌≡◌, ℕ, ◌<◌, List, [], ◌∷◌, ◌++◌, length, Bool, true, false, All, inl, inr, refl, sym, ap, subst, ◌∙◌, Result, Ok, Err}
use Rattle.std.specs.Prelude.{slice_set}
use Rattle.std.proofs.lemmas.Bool.{cases_Bool, eq-eqb, false≢true}
use Rattle.std.proofs.lemmas.List.{append-nil}
use Rattle.std.proofs.lemmas.List.Elements.{All-nil, All-push}
use Rattle.r6_layout.specs.Shape.{Shape}
use Rattle.r6_health.specs.declared.call.Answer.{Answer}
use Rattle.r6_health.specs.declared.call.Call.{Call as RegisterCall}
use Rattle.r6_health.specs.declared.call.Call.TheVariants.{DeclareLost, ReportRebuilt}
use Rattle.r6_health.specs.declared.refusal.Refusal.{Refusal}
use Rattle.r6_health.specs.declared.history.OwnCall.{OwnCall}
use Rattle.r6_health.specs.declared.history.View.{View}
use Rattle.r6_health.specs.Histories.{made, held, StartsWith}
use Rattle.r6_health.specs.Views.{made_by}
use Rattle.r6_health.proofs.Runs.{failed_for_good}
use Rattle.r6_world.specs.PlainArray.{ArrayFailed}
use Rattle.r6_world.specs.Registers.{Snapshot}
use Rattle.r6_world.specs.ShardStates.{Shard, Call, LossOf, RebuildOf, Released}
use Rattle.r6_world.specs.Steps.{Event, Look, Take_call, Take_reply}
use Rattle.r6_world.specs.Worlds.{as_made}
use Rattle.r6_world.specs.Refusals.{IsIn, IsToTell, SeesNoFailure}
use Rattle.r6_world.proofs.Refused.Refusals.{stops_only_when_seen, fails_only_when_seen}
use Rattle.r6_world.proofs.Tables.{None-not_Some}
use Rattle.r6_world.specs.declared.values.Receipt.{Receipt}
use Rattle.r6_world.specs.declared.values.Receipt.TheVariants.{Taken, Late}
use Rattle.r6_world.specs.Values.{reply_of}
use Rattle.r6_core.specs.Shards.{CoreView, Step, core_layout, world_shard}
use Rattle.r6_core.specs.Effects.{IsMade}
use Rattle.r6_course.specs.Steps.{IsPlainCall}
use Rattle.r6_course.proofs.Ends.{look-sees}
use Rattle.r6_shard.specs.declared.ledger.Entry.{Entry}
use Rattle.r6_shard.specs.Kept.{AreNamed, named_by}
use Rattle.r6_shard.specs.Own.{is_own, AreOwn, HasFailed, FailsWhenSeen, SeesFailure}
use Rattle.r6_shard.proofs.Keeping.{set-named}

-- ---- calls at the register

-- what a shard has to call is its own
own-call : (number : ℕ) (named : List Bool) (shard : Shard) (call : Call) → AreNamed shard named → IsToTell shard call
    → is_own number named (as_made number call) ≡ true
own-call number named shard (LossOf slot generation) x i = x slot generation i
own-call number named shard (RebuildOf slot generation) x i = eq-eqb number number refl

pub own-told : (number : ℕ) (named : List Bool) (old mid : CoreView) (call : Call) (result : Result Answer Refusal) (mine mine' : List OwnCall)
    → AreNamed (world_shard old) named → Step old (Take_call call) mid → mine' ≡ mine ++ made_by (as_made number call) result
    → AreOwn number named mine → AreOwn number named mine'
own-told number named old mid call (Ok reply) mine mine' x takes is own =
    subst (AreOwn number named) (sym is)
    (All-push (λ (m : OwnCall). is_own number named m.call ≡ true) mine (made (as_made number call) reply) own
    (own-call number named (world_shard old) call x
    (inl (subst (IsIn call) (sym takes.1.1.0) (inl refl)))))
own-told number named old mid call (Err refusal) mine mine' x takes is own =
    subst (AreOwn number named) (sym (is ∙ append-nil mine)) own

still-own : (number : ℕ) (named : List Bool) (slot : ℕ) → slot < length named → (call : RegisterCall) → is_own number named call ≡ true
    → is_own number (slice_set named slot true) call ≡ true
still-own number named slot below (DeclareLost other generation) x = set-named named slot other below x
still-own number named slot below (ReportRebuilt shard other generation) x = x
still-own number named slot below call x = absurd (false≢true x)

-- no slot is un-named
pub own-named : (number : ℕ) (named : List Bool) (failed : Bool) (receipt : Receipt) (slot : ℕ) (mine : List OwnCall) → slot < length named
    → AreOwn number named mine → AreOwn number (named_by failed receipt slot named) mine
own-named number named true Taken slot mine below own = λ k d low. still-own number named slot below _ (own k d low)
own-named number named true Late slot mine below own = own
own-named number named false receipt slot mine below own = own

-- ---- the failure

pub failure-at-first : (geometry : Shape) (snapshot : Snapshot) (number : ℕ) (core : CoreView) (v : View) (entries : List Entry)
    → IsMade geometry snapshot number core → entries ≡ [] → SeesFailure core v entries
failure-at-first geometry snapshot number core v entries made none = record {
  there = λ saw. absurd (false≢true (sym (ap (λ (y : Shard). y.saw_failed) made.start) ∙ saw));
  waiting = subst FailsWhenSeen (sym made.start) (λ id op stage e f. absurd (None-not_Some _ e));
  answered = subst (All (λ (e : Entry). reply_of e.reply ≡ ArrayFailed → (world_shard core).saw_failed ≡ true)) (sym none) (All-nil _);
}

pub failure-on : (old : CoreView) (event : Event) (new : CoreView) (v : View) (entries : List Entry) → SeesNoFailure event
    → Step old event new → SeesFailure old v entries → SeesFailure new v entries
failure-on old event new v entries none step x =
    let l = core_layout old in
    let same : (world_shard new).saw_failed ≡ (world_shard old).saw_failed =
    stops_only_when_seen l old.shard (world_shard old) (world_shard new) event none step.1 in
    record {
      there = λ saw. x.there (sym same ∙ saw);
      waiting = λ id op stage e f.
          let before = fails_only_when_seen l old.shard (world_shard old) (world_shard new) event none step.1 id op stage e f in
          same ∙ x.waiting id op before.0 before.1 before.2;
      answered = λ k d below e. same ∙ x.answered k d below e;
    }

-- what goes on beside any register is no look that sees a failure
pub plain-sees : (event : Event) → ((register : Snapshot) → IsPlainCall register event) → SeesNoFailure event
plain-sees (Look seen) plain = ap (λ (y : Snapshot). y.failed) (plain (record { slots = []; attaches = 0; failed = false }))
plain-sees event plain = record {}

-- the core looks at what the pass saw last
pub failure-looked : (old : CoreView) (snapshot : Snapshot) (new : CoreView) (v : View) (entries : List Entry)
    → snapshot ≡ held v.start v.seen → Step old (Look snapshot) new → SeesFailure old v entries → SeesFailure new v entries
failure-looked old snapshot new v entries is step x = elim (cases_Bool snapshot.failed) [
  | inl failed ↦
      let saw = look-sees (core_layout old) old.shard (world_shard old) snapshot (world_shard new) step.1 failed in
      record {
        there = λ s. ap (λ (y : Snapshot). y.failed) (sym is) ∙ failed;
        waiting = λ id op stage e f. saw;
        answered = λ k d below e. saw;
      }
  | inr fine ↦ failure-on old (Look snapshot) new v entries fine step x
]

pub failure-replied : (old new : CoreView) (v : View) (entries : List Entry) (e : Entry) → Step old (Take_reply e.id.0 (reply_of e.reply)) new
    → SeesFailure old v entries → SeesFailure new v (entries ++ e ∷ [])
failure-replied old new v entries e step x =
    let on = failure-on old (Take_reply e.id.0 (reply_of e.reply)) new v entries (record {}) step x in
    let same : (world_shard new).saw_failed ≡ (world_shard old).saw_failed =
    stops_only_when_seen (core_layout old) old.shard (world_shard old) (world_shard new) (Take_reply e.id.0 (reply_of e.reply)) (record {}) step.1 in
    record {
      there = on.there;
      waiting = on.waiting;
      answered = All-push (λ (y : Entry). reply_of y.reply ≡ ArrayFailed → (world_shard new).saw_failed ≡ true) entries e on.answered
          (λ failed. same ∙ x.waiting e.id.0 step.1.0 (Released (reply_of e.reply)) step.1.1 failed);
    }

pub failure-same : (old new : CoreView) (v : View) (entries : List Entry) → new ≡ old → SeesFailure old v entries → SeesFailure new v entries
failure-same old new v entries same x = subst (λ y. SeesFailure y v entries) (sym same) x

-- what a pass saw failed it sees failed later
pub failed-later : (v w : View) → w.start ≡ v.start → StartsWith w.seen v.seen → HasFailed v → HasFailed w
failed-later v w same longer x =
    subst (λ s. (held s w.seen).failed ≡ true) (sym same)
    (subst (λ log. (held v.start log).failed ≡ true) (sym longer.1) (failed_for_good v.start v.seen longer.0 x))

pub failure-later : (core : CoreView) (v w : View) (entries : List Entry) → w.start ≡ v.start → StartsWith w.seen v.seen
    → SeesFailure core v entries → SeesFailure core w entries
failure-later core v w entries same longer x =
    record { there = λ saw. failed-later v w same longer (x.there saw); waiting = x.waiting; answered = x.answered }
