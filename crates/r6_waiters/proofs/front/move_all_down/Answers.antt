use Rattle.std.proofs.Common.{inl, inr, ◌+◌, ◌*◌, ◌<◌, ◌∙◌, [], length, get_or, refl, sym, ap, subst, arith}
use Rattle.std.proofs.lemmas.Bool.{cases_eq}
use Rattle.std.proofs.lemmas.List.{get_or_read}
use Rattle.r6_waiters.specs.Positions.{has}
use Rattle.r6_waiters.specs.Sets.{is_marked}
use Rattle.r6_waiters.proofs.Marks.{marked_other, marked_same, wide-set, wide-again}
use Rattle.r6_waiters.proofs.front.move_all_down.Goals as goal

pub loop-index-init : goal.loop-index-init
loop-index-init c = record { sets = (refl, λ set. refl); moved = λ set i below. absurd (omega (arith, below)); left = λ set i above. refl }

pub bounds-sets-index : goal.bounds-sets-index
bounds-sets-index c = subst (λ n. c.loop-index.index < n) (sym c.loop-index.auto.sets) c.loop-index-test.true

pub loop-index-preserved : goal.loop-index-preserved
loop-index-preserved c =
    let start = c.args.sets.now in
    let sets = c.loop-index.sets in
    let index = c.loop-index.index in
    let within : index < length sets = subst (λ n. index < n) (sym c.loop-index.auto.sets) c.loop-index-test.true in
    let old = get_or sets index c.index-sets-index.result in
    let is = ap (λ l. get_or sets index l) c.index-sets-index.is in
    let read = get_or_read sets index old within is [] in
    let words = c.move_down.new.self in
    record {
      sets = wide-again start sets _ c.loop-index.invariant.sets (wide-set sets words old index within is c.move_down.ensures.room);
      moved = λ set i below. elim (cases_eq set index) [
        | inl same ↦
            marked_same sets words index set i within same
            ∙ c.move_down.ensures.has i
            ∙ ap (λ l. has l (64 * c.args.words + i)) read
            ∙ c.loop-index.invariant.left index (64 * c.args.words + i) (omega arith)
            ∙ ap (λ n. is_marked start n (64 * c.args.words + i)) (sym same)
        | inr other ↦ marked_other sets words index set i other ∙ c.loop-index.invariant.moved set i (omega (arith, below, other))
      ];
      left = λ set i above. marked_other sets words index set i (λ e. omega (arith, above, e)) ∙ c.loop-index.invariant.left set i (omega (arith, above));
    }

pub returns-clause-sets : goal.returns-clause-sets
returns-clause-sets c = c.loop-index.invariant.sets
