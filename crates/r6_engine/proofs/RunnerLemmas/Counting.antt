-- What the counts of checks and repairs add up to, as their shard goes on.
use Rattle.std.proofs.Common.{◌≡◌, ℕ, ◌+◌, ◌-◌, ◌≤◌, ◌⊎◌, List, [], ◌∷◌, ◌++◌, All, Bool, true, false, inl, inr, refl, sym, ap, subst, ◌∙◌, arith, Option, Some, None}
use Rattle.std.proofs.lemmas.Bool.{false≢true}
use Rattle.std.proofs.lemmas.List.Elements.{All-push}
use Rattle.r6_world.specs.ShardStates as world
use Rattle.r6_world.specs.Counting.{checks_held}
use Rattle.r6_world.proofs.Tables.{None-not_Some}
use Rattle.r6_core.specs.declared.counts.Counts.{Counts}
use Rattle.r6_core.specs.declared.refusal.Refusal.{Refusal}
use Rattle.r6_core.specs.declared.refusal.Refusal.TheVariants.{ArrayFailed, Exhausted}
use Rattle.r6_core.specs.declared.turn.Task.{Task}
use Rattle.r6_core.specs.declared.turn.Task.TheVariants as task
use Rattle.r6_core.specs.Refusals.{IsFirstFault, turn_faults}
use Rattle.r6_core.specs.Effects.{HasTaskFault, RefusesTurn}
use Rattle.r6_core.specs.Shards.{CoreView, counts_of, world_shard}
use Rattle.r6_shard.specs.Kept.{NoneIsOut}
use Rattle.r6_shard.specs.Counted.{HasPassedRows, IsInService, PassesNone, counted_in, rows_of}
use Rattle.r6_shard.specs.Refusing.{IsEnding, Lasts}
use Rattle.r6_shard.proofs.Counting.{counted-at-rest, was-in-service}
use Rattle.r6_engine.specs.declared.runner.scrub.ScrubUnderWay.{ScrubUnderWay}
use Rattle.r6_engine.specs.declared.runner.scrub.ScrubDone.{ScrubDone}
use Rattle.r6_engine.specs.declared.runner.runner.Runner.{Runner}
use Rattle.r6_shard.specs.Refusing.{CountsRise}
use Rattle.r6_shard.proofs.Rising.{rise-none, rise-on}
use Rattle.r6_shard.specs.declared.performs.Performs.{Ghosts}
use Rattle.r6_engine.specs.runner.Classes.{classed_in}
use Rattle.r6_engine.specs.runner.Counted.{AddUp, AreClassed, AreCounted, AreWithin, HasCounted, HasTurned, IsCounting, IsUsedUp, LeavesNoneOut, StandsAt, rows_in}

-- ---- a shard goes on

-- in service it was so before, and what was used up is so yet
record Carries (old new : CoreView) : Type 0 where
  pub service : IsInService new → IsInService old
  pub used : IsInService new → IsUsedUp old → IsUsedUp new

used-on : (old new : CoreView) → Lasts old new → counted_in old ≤ counted_in new → IsUsedUp old → IsUsedUp new
used-on old new lasts later used = elim used [
  | inl many ↦ inl (let tokens = lasts.tokens in omega (arith, many, tokens))
  | inr many ↦ inr (omega (arith, many, later))
]

-- rows that are counted now are counted then
counted-now : (counted rows : ℕ) (core : CoreView) → HasPassedRows false counted rows core → HasPassedRows false (counted_in core) rows core
counted-now counted rows core x = record { shard = x.shard; most = x.most; least = λ live. omega arith; out = x.out }

carries-by : (counted gone gone' : ℕ) (old new : CoreView)
    → ((stopped : Bool) (counted : ℕ) → HasPassedRows stopped counted gone old → HasPassedRows stopped counted gone' new)
    → Lasts old new → HasPassedRows false counted gone old → Carries old new
carries-by counted gone gone' old new passes lasts x = record {
  service = was-in-service counted counted gone gone' old new (passes true counted) x;
  used = λ live. used-on old new lasts ((passes false (counted_in old) (counted-now counted gone old x)).least live);
}

-- all that was gone over is counted, in service
pub all-counted : (gone : ℕ) (core : CoreView) → HasPassedRows false gone gone core → IsInService core → counted_in core ≡ gone
all-counted gone core x live =
    let least = x.least live in
    let most : counted_in core + checks_held (world_shard core) ≡ gone = x.shard.2 live in
    omega (arith, least, most)

stands-on : (rows gone : ℕ) (old new : CoreView) → Carries old new → IsInService new → (passed : List ScrubDone) (scrub : Option ScrubUnderWay)
    → StandsAt rows gone old passed scrub → StandsAt rows gone new passed scrub
stands-on rows gone old new c live passed None x = x
stands-on rows gone old new c live passed (Some p) x =
    (x.0, record { one = x.1.one; left = x.1.left; ended = λ e. c.used live (x.1.ended e) })

whole-on : (old new : CoreView) → Carries old new → IsInService new → (passed : List ScrubDone) → All (LeavesNoneOut old) passed → All (LeavesNoneOut new) passed
whole-on old new c live passed x k d below = elim (x k d below) [
  | inl none ↦ inl none
  | inr used ↦ inr (c.used live used)
]

-- whatever it has gone over, it is still within its rows
within-on : (rows : ℕ) (old new : CoreView) → PassesNone old new → Lasts old new → (scrub : Option ScrubUnderWay) → AreWithin rows old scrub
    → AreWithin rows new scrub
within-on rows old new passes lasts None x = x
within-on rows old new passes lasts (Some p) x = record {
  one = x.one;
  counted = x.counted;
  gone = x.gone;
  passes = passes false x.counted x.gone x.passes;
  left = x.left;
  rise = rise-on (counts_of p.before) (world_shard old).counts (world_shard new).counts x.rise lasts.counts;
}

counting-none : (rows counted gone : ℕ) (old new : CoreView) (scrub : Option ScrubUnderWay) (passed : List ScrubDone) → PassesNone old new → Lasts old new
    → IsCounting rows counted gone old scrub passed → IsCounting rows counted gone new scrub passed
counting-none rows counted gone old new scrub passed passes lasts x =
    let c = carries-by counted gone gone old new (λ stopped counted. passes stopped counted gone) lasts x.passes in
    record {
      passes = passes false counted gone x.passes;
      all = x.all;
      stands = λ live. stands-on rows gone old new c live passed scrub (x.stands (c.service live));
      whole = λ live. whole-on old new c live passed (x.whole (c.service live));
      within = within-on rows old new passes lasts scrub x.within;
      classed = x.classed;
    }

-- ---- as calls do it, which keep how many rows the shard has

abbrev Counted : (rows own : ℕ) → CoreView → Option ScrubUnderWay → List ScrubDone → Type 0
Counted rows own core scrub passed = (own ≡ rows) × (counted gone : ℕ) × IsCounting rows counted gone core scrub passed

-- a call that goes over no row
pub keeps-counted : (own : ℕ) (old new : CoreView) (scrub : Option ScrubUnderWay) (passed : List ScrubDone) → PassesNone old new → Lasts old new
    → (rows : ℕ) → Counted rows own old scrub passed → Counted rows own new scrub passed
keeps-counted own old new scrub passed passes lasts rows x =
    (x.0, x.1, x.2, counting-none rows x.1 x.2 old new scrub passed passes lasts x.3)

-- ---- a check or repair

pub rows-counted : (k : Counts) (core : CoreView) → counts_of k ≡ (world_shard core).counts → rows_in k ≡ counted_in core
rows-counted k core same =
    ap (λ (c : world.Counts). c.consistent + c.wrong_p + c.wrong_q + c.wrong_data + c.many + c.skipped) same

-- in service or not, it may be said to have passed just those that are counted
as-counted : (gone : ℕ) (core : CoreView) → HasPassedRows false gone gone core → HasPassedRows false (counted_in core) (counted_in core) core
as-counted gone core x = record {
  shard = (
    x.shard.0,
    x.shard.1,
    λ live.
        let all = all-counted gone core x live in
        let most : counted_in core + checks_held (world_shard core) ≡ gone = x.shard.2 live in omega (arith, all, most),
  );
  most = omega arith;
  least = λ live. omega arith;
  out = x.out;
}

-- it begins
pub counting-begun : (rows gone : ℕ) (core : CoreView) (passed : List ScrubDone) (p : ScrubUnderWay) → rows_of p.task ≡ 1 → p.left ≡ rows → p.given_up ≡ false
    → counts_of p.before ≡ (world_shard core).counts → IsCounting rows gone gone core None passed → IsCounting rows gone gone core (Some p) passed
counting-begun rows gone core passed p one left going before x = record {
  passes = x.passes;
  all = λ none. refl;
  stands = λ live.
      let at : rows_in p.before ≡ gone = rows-counted p.before core before ∙ all-counted gone core x.passes live in (
        subst (AddUp rows 0 passed) (sym at) (x.stands live),
        record { one = one; left = omega (arith, at, left); ended = λ e. absurd (false≢true (sym going ∙ e)) },
      );
  whole = x.whole;
  within = record {
    one = one;
    counted = counted_in core;
    gone = counted_in core;
    passes = as-counted gone core x.passes;
    left = let same = rows-counted p.before core before in omega (arith, same, left);
    rise = subst (λ (k : world.Counts). CountsRise k (world_shard core).counts) (sym before) (rise-none (world_shard core).counts);
  };
  classed = x.classed;
}

-- it goes on
pub counting-turned : (rows counted gone : ℕ) (p q : ScrubUnderWay) (old new : CoreView) (passed : List ScrubDone) (t : HasTurned p q old new)
    → IsCounting rows counted gone old (Some p) passed → IsCounting rows counted (gone + t.more) new (Some q) passed
counting-turned rows counted gone p q old new passed t x =
    let c = carries-by counted gone (gone + t.more) old new (λ stopped counted. t.passes stopped counted gone) t.lasts x.passes in
    record {
      passes = t.passes false counted gone x.passes;
      all = λ none. absurd (None-not_Some q (sym none));
      stands = λ live.
          let was = x.stands (c.service live) in
          let before : rows_in q.before ≡ rows_in p.before = ap rows_in t.before in
          let less = t.left was.1.one in
          let left = was.1.left in (
            subst (AddUp rows 0 passed) (sym before) was.0,
            record {
              one = ap rows_of t.task ∙ was.1.one;
              left = omega (arith, before, less, left);
              ended = λ e. t.ended e live;
            },
          );
      whole = λ live. whole-on old new c live passed (x.whole (c.service live));
      within = let w = x.within in
          let before : rows_in q.before ≡ rows_in p.before = ap rows_in t.before in
          let less = t.left w.one in
          let left = w.left in
          record {
            one = ap rows_of t.task ∙ w.one;
            counted = w.counted;
            gone = w.gone + t.more;
            passes = t.passes false w.counted w.gone w.passes;
            left = omega (arith, before, less, left);
            rise = subst (λ (k : Counts). CountsRise (counts_of k) (world_shard new).counts) (sym t.before)
                (rise-on (counts_of p.before) (world_shard old).counts (world_shard new).counts w.rise t.lasts.counts);
          };
      classed = x.classed;
    }

-- what it classed and skipped is all of its rows
classes-all : (rows gone left : ℕ) (before after : Counts) → CountsRise (counts_of before) (counts_of after) → rows_in after ≤ gone
    → gone + left ≡ rows_in before + rows → classed_in before after + (rows - classed_in before after) ≡ rows
classes-all rows gone left before after rise most is =
    let a = rise.consistent in let b = rise.wrong_p in let c = rise.wrong_q in let d = rise.wrong_data in let e = rise.many in
    let f = rise.skipped in omega (arith, a, b, c, d, e, f, most, is)

add-up-more : (rows from to : ℕ) (passed : List ScrubDone) (p : ScrubDone) → AddUp rows from passed to → rows_in p.before ≡ to
    → rows_in p.after + p.left_out ≡ rows_in p.before + rows → AddUp rows from (passed ++ p ∷ []) (rows_in p.after)
add-up-more rows from to [] p x before adds = (before ∙ x, adds, refl)
add-up-more rows from to (first ∷ passed) p x before adds = (x.0, x.1, add-up-more rows (rows_in first.after) to passed p x.2 before adds)

-- it is over
pub counting-over : (rows gone : ℕ) (core : CoreView) (passed : List ScrubDone) (p : ScrubUnderWay) (q : ScrubDone) → (p.left ≡ 0) ⊎ (p.given_up ≡ true)
    → q.before ≡ p.before → q.left_out ≡ p.left → q.skipped ≡ rows - classed_in p.before q.after
    → counts_of q.after ≡ (world_shard core).counts
    → IsCounting rows gone gone core (Some p) passed → IsCounting rows gone gone core None (passed ++ q ∷ [])
counting-over rows gone core passed p q over same left skipped now x = record {
  passes = x.passes;
  all = λ none. refl;
  stands = λ live.
      let was = x.stands live in
      let after : rows_in q.after ≡ gone = rows-counted q.after core now ∙ all-counted gone core x.passes live in
      let before : rows_in q.before ≡ rows_in p.before = ap rows_in same in
      let yet = was.1.left in
      subst (AddUp rows 0 (passed ++ q ∷ [])) after
      (add-up-more rows 0 (rows_in p.before) passed q was.0 before (omega (arith, after, before, left, yet)));
  whole = λ live. All-push (LeavesNoneOut core) passed q (x.whole live) (elim over [
    | inl none ↦ inl (left ∙ none)
    | inr given ↦ inr ((x.stands live).1.ended given)
  ]);
  within = tt;
  classed = All-push (λ (q : ScrubDone). classed_in q.before q.after + q.skipped ≡ rows) passed q x.classed
      (ap (λ (k : Counts). classed_in k q.after + q.skipped) same
      ∙ ap (λ (n : ℕ). classed_in p.before q.after + n) skipped
      ∙ classes-all rows x.within.gone p.left p.before q.after
      (subst (λ (k : world.Counts). CountsRise (counts_of p.before) k) (sym now) x.within.rise)
      (subst (λ (n : ℕ). n ≤ x.within.gone) (sym (rows-counted q.after core now)) x.within.passes.most) x.within.left);
}

-- ---- a run

pub counting-first : (rows : ℕ) (core : CoreView) → HasPassedRows false 0 0 core → IsCounting rows 0 0 core None []
counting-first rows core x = record {
  passes = x;
  all = λ none. refl;
  stands = λ live. refl;
  whole = λ live k d below. absurd (omega (arith, below));
  within = tt;
  classed = λ k d below. absurd (omega (arith, below));
}

-- where no check or repair is under way, all that was gone over is counted
whole-of : (rows counted gone : ℕ) (core : CoreView) (scrub : Option ScrubUnderWay) (passed : List ScrubDone) → scrub ≡ None
    → IsCounting rows counted gone core scrub passed → IsCounting rows gone gone core None passed
whole-of rows counted gone core scrub passed none x =
    subst (λ (n : ℕ). IsCounting rows n gone core None passed) (x.all none) (subst (λ o. IsCounting rows counted gone core o passed) none x)

pub counted-at-end : {P D : Type 0} {g : Ghosts P} (rows : ℕ) (runner : Runner P D g) → runner.scrub ≡ None → HasCounted rows runner
    → AreCounted rows runner.shard.core runner.scrubs_done.items
counted-at-end rows runner none x live =
    let core = runner.shard.core in
    let passed = runner.scrubs_done.items in
    let y = whole-of rows x.1 x.2 core runner.scrub passed none x.3 in
    (subst (AddUp rows 0 passed) (sym (all-counted x.2 core y.passes live)) (y.stands live), y.whole live)

-- whatever is over, in service or not
pub classed-at-end : {P D : Type 0} {g : Ghosts P} (rows : ℕ) (runner : Runner P D g) → HasCounted rows runner → AreClassed rows runner.scrubs_done.items
classed-at-end rows runner x = x.3.classed

-- ---- as calls of the runner do it

pub begun-counted : (own : ℕ) (core : CoreView) (before : Option ScrubUnderWay) (passed : List ScrubDone) (p : ScrubUnderWay) → before ≡ None → rows_of p.task ≡ 1
    → p.left ≡ own → p.given_up ≡ false → counts_of p.before ≡ (world_shard core).counts
    → (rows : ℕ) → Counted rows own core before passed → Counted rows own core (Some p) passed
begun-counted own core before passed p is one left going counts rows x = (
  x.0,
  x.2,
  x.2,
  counting-begun rows x.2 core passed p one (left ∙ x.0) going counts (whole-of rows x.1 x.2 core before passed is x.3),
)

-- with no command out all that was gone over is counted
at-rest : (rows counted gone : ℕ) (core : CoreView) (p : ScrubUnderWay) (passed : List ScrubDone) → NoneIsOut (world_shard core)
    → IsCounting rows counted gone core (Some p) passed → IsCounting rows gone gone core (Some p) passed
at-rest rows counted gone core p passed still x = record {
  passes = counted-at-rest false counted gone core x.passes still;
  all = λ none. refl;
  stands = x.stands;
  whole = x.whole;
  within = x.within;
  classed = x.classed;
}

pub over-counted : (own : ℕ) (core : CoreView) (some : Option ScrubUnderWay) (passed passed' : List ScrubDone) (p : ScrubUnderWay) (q : ScrubDone) → some ≡ Some p
    → (p.left ≡ 0) ⊎ (p.given_up ≡ true) → NoneIsOut (world_shard core) → passed' ≡ passed ++ q ∷ [] → q.before ≡ p.before → q.left_out ≡ p.left
    → q.skipped ≡ own - classed_in p.before q.after → counts_of q.after ≡ (world_shard core).counts
    → (rows : ℕ) → Counted rows own core some passed → Counted rows own core None passed'
over-counted own core some passed passed' p q is over still more before left skipped after rows x = (
  x.0,
  x.2,
  x.2,
  subst (IsCounting rows x.2 x.2 core None) (sym more)
      (counting-over rows x.2 core passed p q over before left (skipped ∙ ap (λ (n : ℕ). n - classed_in p.before q.after) x.0) after
      (at-rest rows x.1 x.2 core p passed still (subst (λ o. IsCounting rows x.1 x.2 core o passed) is x.3))),
)

pub turned-counted : (own own' : ℕ) (old new : CoreView) (some : Option ScrubUnderWay) (passed passed' : List ScrubDone) (p q : ScrubUnderWay) → some ≡ Some p
    → own' ≡ own → passed' ≡ passed → HasTurned p q old new
    → (rows : ℕ) → Counted rows own old some passed → Counted rows own' new (Some q) passed'
turned-counted own own' old new some passed passed' p q is same kept t rows x = (
  same ∙ x.0,
  x.1,
  x.2 + t.more,
  subst (IsCounting rows x.1 (x.2 + t.more) new (Some q)) (sym kept)
      (counting-turned rows x.1 x.2 p q old new passed t (subst (λ o. IsCounting rows x.1 x.2 old o passed) is x.3)),
)

-- ---- a turn that is refused

failed : (core : CoreView) (task : Task) → HasTaskFault core task ArrayFailed → (world_shard core).saw_failed ≡ true
failed core task.Rebuild fault = fault
failed core task.Check fault = fault
failed core task.Repair fault = fault

used-up : (core : CoreView) (task : Task) → HasTaskFault core task Exhausted → IsUsedUp core
used-up core task.Rebuild fault = inl fault
used-up core task.Check fault = elim fault [ inl many ↦ inl many | inr many ↦ inr (omega (arith, many)) ]
used-up core task.Repair fault = elim fault [ inl many ↦ inl many | inr many ↦ inr (omega (arith, many)) ]

-- in service it is refused for good only once the shard is used up
pub gives-up : (core : CoreView) (task : Task) (refusal : Refusal) → IsFirstFault (HasTaskFault core task) turn_faults refusal → IsEnding refusal
    → IsInService core → IsUsedUp core
gives-up core task refusal fault ending live = elim fault [
  | inl first ↦ absurd (false≢true (sym live.1 ∙ failed core task first.1))
  | inr other ↦ elim other.1 [
    | inl second ↦ used-up core task second.1
    | inr third ↦ elim third.1 [
      | inl nothing ↦ absurd (subst IsEnding nothing.0 ending)
      | inr fourth ↦ elim fourth.1 [ inl none ↦ absurd (subst IsEnding none.0 ending) | inr last ↦ absurd last.1 ]
    ]
  ]
]

pub refused-core : (old new : CoreView) (task : Task) (refusal : Refusal) → RefusesTurn old task refusal new → IsEnding refusal → IsInService new
    → IsUsedUp new
refused-core old new task refusal refused ending live =
    subst IsUsedUp (sym refused.same) (gives-up old task refusal refused.fault ending (subst IsInService refused.same live))
