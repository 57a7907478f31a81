use Rattle.std.proofs.Common.{◌<◌, length, get_or, sym, ap, subst, arith, [], ◌∙◌, refl}
use Rattle.r6_waiters.proofs.Marks.{wide-set, wide-again, mark-within}
use Rattle.r6_waiters.proofs.Named.{NamedBelow, named_below-more}
use Rattle.std.proofs.lemmas.List.{get_or_read}
use Rattle.r6_waiters.specs.Positions.{has}
use Rattle.r6_waiters.proofs.Rooms.{unmarked}
use Rattle.r6_waiters.proofs.waiters.name_causes.Goals as goal

pub loop-cause-preserved : goal.loop-cause-preserved
loop-cause-preserved g c =
    let sets = c.loop-cause.sets in
    let cause = c.loop-cause.cause in
    let within : cause < length sets = subst (λ n. cause < n) (sym c.loop-cause.auto.sets) c.loop-cause-test.true in
    let old = get_or sets cause c.index-sets-cause.result in
    let is = ap (λ l. get_or sets cause l) c.index-sets-cause.is in
    let words = c.name_cause.new.set in
    let below : NamedBelow c.args.sets.now sets c.args.places.now c.loop-cause.places cause =
    record { none = c.loop-cause.invariant.none; left = c.loop-cause.invariant.left; values = c.loop-cause.invariant.values; named = c.loop-cause.invariant.named } in
    let more = named_below-more c.args.sets.now sets c.args.places.now c.loop-cause.places c.name_cause.new.places cause words old below within is c.requires.once c.name_cause.ensures.none c.name_cause.ensures.named in
    record {
      sets = wide-again c.args.sets.now sets _ c.loop-cause.invariant.sets (wide-set sets words old cause within is c.name_cause.ensures.room);
      none = more.none;
      left = more.left;
      values = more.values;
      named = more.named;
    }

pub returns-clause-named : goal.returns-clause-named
returns-clause-named g c cause i mark =
    let within = mark-within c.args.sets.now cause i mark in
    c.loop-cause.invariant.named cause i (omega (arith, within, c.loop-cause-test.false)) mark

pub loop-cause-init : goal.loop-cause-init
loop-cause-init g c =
    record {
      sets = (refl, λ cause. refl);
      none = λ cause i below. absurd (omega (arith, below));
      left = λ cause i above. refl;
      values = λ i. refl;
      named = λ cause i below mark. absurd (omega (arith, below));
    }

pub bounds-sets-cause : goal.bounds-sets-cause
bounds-sets-cause g c = subst (λ n. c.loop-cause.cause < n) (sym c.loop-cause.auto.sets) c.loop-cause-test.true

pub name_cause-requires : goal.name_cause-requires
name_cause-requires g c i there =
    let sets = c.loop-cause.sets in
    let cause = c.loop-cause.cause in
    let within : cause < length sets = subst (λ n. cause < n) (sym c.loop-cause.auto.sets) c.loop-cause-test.true in
    let old = get_or sets cause c.index-sets-cause.result in
    let read = get_or_read sets cause old within (ap (λ l. get_or sets cause l) c.index-sets-cause.is) [] in
    let mark = sym (c.loop-cause.invariant.left cause i (omega arith)) ∙ ap (λ l. has l i) (sym read) ∙ there in
    subst (λ n. i < n) (sym c.loop-cause.auto.places) (c.requires.within cause i mark)

pub returns-clause-none : goal.returns-clause-none
returns-clause-none g c cause i =
    unmarked c.loop-cause.sets c.loop-cause.cause i (omega (arith, c.loop-cause-test.false, c.loop-cause.auto.sets)) (λ other below. c.loop-cause.invariant.none other i below) cause

pub returns-clause-sets : goal.returns-clause-sets
returns-clause-sets g c = c.loop-cause.invariant.sets

pub returns-clause-values : goal.returns-clause-values
returns-clause-values g c = c.loop-cause.invariant.values
