use Rattle.std.proofs.Common.{List, ℕ, false, ◌≡◌, ◌<◌, ◌+◌, ◌/◌, ◌∙◌, [], length, replicate, sym, ap, subst, arith}
use Rattle.std.specs.Prelude.{slice_index_or}
use Rattle.std.proofs.lemmas.List.{get_or-replicate, length-replicate}
use Rattle.r6_waiters.specs.Positions.{HasNone}
use Rattle.r6_waiters.specs.Keys.{classes, AreClassed}
use Rattle.r6_waiters.specs.Sets.{cause_at, is_marked, waiting, IsMarked}
use Rattle.r6_waiters.proofs.ByKey.{classed-none}
use Rattle.r6_waiters.proofs.Marks.{none-at_first, none-marked_at_first}
use Rattle.r6_waiters.proofs.waiters.Waiters.with_capacity.Goals as goal

pub invariant_of-result : goal.invariant_of-result
invariant_of-result g c =
    let words = (c.args.capacity + c.args.capacity) / 64 + 1 in
    let sets = c.in_ok-empty_sets.ensures in
    let keyed = c.in_ok-empty_sets-2.ensures in
    let keyed_now = c.in_ok-empty_sets-2.field-0.items in
    let key_of = g.K.KeyOf.key_of in
    let row : List ℕ = replicate words 0 in
    let spare = c.in_ok-with_room.ensures in
    let places = c.in_ok-with_capacity.ensures.items in
    let causes = c.args.causes in
    let long : length c.in_ok-with_room.field-0 ≡ words = ap length spare ∙ length-replicate words 0 in
    record {
      countable = c.requires.countable;
      room = c.in_ok-with_capacity.ensures.exact;
      wide = omega (arith, long);
      equal = λ cause within.
          let below : cause < causes = subst (λ n. cause < n) (ap length sets ∙ length-replicate causes (replicate words 0)) within in
          ap (λ l. length (slice_index_or l cause [])) sets
          ∙ ap length (get_or-replicate causes cause (replicate words 0) [] below)
          ∙ sym (ap length spare);
      as_wide = λ class below.
          ap (λ l. length (slice_index_or l class [])) keyed
          ∙ ap length (get_or-replicate classes class (replicate words 0) [] below)
          ∙ sym (ap length spare);
      spare = subst HasNone (sym spare) (none-at_first words);
      marked =
          let of : IsMarked {X = g.row.V.Denot} (replicate causes (replicate words 0)) [] (cause_at c.in_ok-empty_sets.field-0.items) =
          record { marks = none-marked_at_first words causes; within = λ i there. absurd (cc there) } in
          subst (λ l. IsMarked l c.in_ok-with_capacity.field-0.items (cause_at c.in_ok-empty_sets.field-0.items)) (sym sets)
          (subst (λ ps. IsMarked (replicate causes (replicate words 0)) ps (cause_at c.in_ok-empty_sets.field-0.items)) (sym places) of);
      classed =
          let none : (class i : ℕ) → is_marked keyed_now class i ≡ false = λ class i. ap (λ l. is_marked l class i) keyed ∙ none-marked_at_first words classes class i in
          subst (λ ps. AreClassed key_of keyed_now ps) (sym places)
          (classed-none key_of keyed_now (ap length keyed ∙ length-replicate classes row) none);
      counted = sym (ap (λ ps. length (waiting (cause_at c.in_ok-empty_sets.field-0.items) ps)) places);
    }

pub overflow_add-capacity : goal.overflow_add-capacity
overflow_add-capacity g c = omega (arith, c.requires.countable)

pub overflow_add-capacity-2 : goal.overflow_add-capacity-2
overflow_add-capacity-2 g c = omega (arith, c.requires.countable)

pub overflow_add-capacity-3 : goal.overflow_add-capacity-3
overflow_add-capacity-3 g c = omega (arith, c.requires.countable)

pub overflow_add-capacity-4 : goal.overflow_add-capacity-4
overflow_add-capacity-4 g c = omega (arith, c.requires.countable)

pub empty_sets-requires : goal.empty_sets-requires
empty_sets-requires g c = c.requires.countable

pub empty_sets-requires-2 : goal.empty_sets-requires-2
empty_sets-requires-2 g c = c.requires.countable

pub with_room-requires : goal.with_room-requires
with_room-requires g c = c.requires.countable

pub returns : goal.returns
returns g c =
    let capacity = c.args.capacity in
    let sets = c.in_ok-empty_sets.field-0.items in
    let row : List ℕ = replicate ((capacity + capacity) / 64 + 1) 0 in
    ap (λ ps. (capacity, (length sets, waiting (cause_at sets) ps))) c.in_ok-with_capacity.ensures.items
    ∙ ap (λ n. (capacity, (n, []))) (ap length c.in_ok-empty_sets.ensures ∙ length-replicate c.args.causes row)
