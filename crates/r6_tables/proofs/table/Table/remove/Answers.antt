use Rattle.std.proofs.Common.{◌≡◌, ◌∙◌, sym, ap, subst, arith, None, length}
use Rattle.std.specs.FinMap.{get, remove}
use Rattle.r6_tables.specs.Table.{capacity_of, next_of, entries_of}
use Rattle.r6_tables.specs.Places.{live, IsRising, IsAt, IsAbsent}
use Rattle.r6_tables.proofs.Places.{count, rising-with_value, length-with_value}
use Rattle.r6_tables.proofs.Numbered.{entries_in, get-entries_in, get-absent, entries_in-taken, remove-absent}
use Rattle.r6_tables.proofs.table.Table.remove.Goals as goal

-- the number has no place
none_there : (g : _) (c : goal.In-None g) → get (entries_of c.args.self.now) c.args.number ≡ None
none_there g c =
    let absent = subst (IsAbsent c.args.number) c.deref.ensures.value c.in-None.ensures.absent in
    sym (ap (λ v. get (entries_of v) c.args.number) c.self.view_is)
    ∙ get-absent c.args.number c.self.inside.next c.self.inside.places.items c.self.invariant.rising absent

pub returns-in-None-clause-entry : goal.returns-in-None-clause-entry
returns-in-None-clause-entry g c = sym (none_there g c)

pub returns-in-None-clause-rest : goal.returns-in-None-clause-rest
returns-in-None-clause-rest g c =
    ap (λ entries. (capacity_of c.args.self.now, (next_of c.args.self.now, entries))) (sym (remove-absent (entries_of c.args.self.now) c.args.number (none_there g c)))

pub overflow_sub-self : goal.overflow_sub-self
overflow_sub-self g c =
    let at = subst (λ places. IsAt c.args.number places c.in-Some.index) c.deref.ensures.value c.in-Some.ensures.at in
    let fewer = length-with_value c.args.number None c.self.inside.places.items c.in-Some.index at in
    let one = ap count c.in-Some-take_value.ensures.value in
    omega (arith, fewer, one, c.self.invariant.counted)

pub invariant_of-self : goal.invariant_of-self
invariant_of-self g c =
    let at = subst (λ places. IsAt c.args.number places c.in-Some.index) c.deref.ensures.value c.in-Some.ensures.at in
    let places = c.take_value.ensures.places in
    record {
      countable = c.self.invariant.countable;
      room = omega (arith, c.self.invariant.room, c.take_value.ensures.capacity);
      rising = subst (IsRising 0 c.self.inside.next) (sym places) (rising-with_value c.args.number 0 c.self.inside.next None c.self.inside.places.items c.self.invariant.rising);
      counted =
          let fewer = length-with_value c.args.number None c.self.inside.places.items c.in-Some.index at in
          let one = ap count c.in-Some-take_value.ensures.value in
          let same = ap (λ items. length (live items)) places in
          omega (arith, fewer, one, same, c.self.invariant.counted);
    }

pub invariant_of-self-in-None-take_value : goal.invariant_of-self-in-None-take_value
invariant_of-self-in-None-take_value g c =
    let at = subst (λ places. IsAt c.args.number places c.in-Some.index) c.deref.ensures.value c.in-Some.ensures.at in
    let places = c.take_value.ensures.places in
    record {
      countable = c.self.invariant.countable;
      room = omega (arith, c.self.invariant.room, c.take_value.ensures.capacity);
      rising = subst (IsRising 0 c.self.inside.next) (sym places) (rising-with_value c.args.number 0 c.self.inside.next None c.self.inside.places.items c.self.invariant.rising);
      counted =
          let same_many = length-with_value c.args.number None c.self.inside.places.items c.in-Some.index at in
          let none = ap count c.in-None-take_value.ensures.value in
          let same = ap (λ items. length (live items)) places in
          omega (arith, same_many, none, same, c.self.invariant.counted);
    }

pub returns-in-Some-take_value-clause-entry : goal.returns-in-Some-take_value-clause-entry
returns-in-Some-take_value-clause-entry g c =
    c.in-Some-take_value.ensures.value
    ∙ sym (get-entries_in c.args.number c.self.inside.next c.self.inside.places.items c.self.invariant.rising)
    ∙ ap (λ v. get (entries_of v) c.args.number) c.self.view_is

pub returns-in-Some-take_value-clause-rest : goal.returns-in-Some-take_value-clause-rest
returns-in-Some-take_value-clause-rest g c =
    let at = subst (λ places. IsAt c.args.number places c.in-Some.index) c.deref.ensures.value c.in-Some.ensures.at in
    ap (λ items. (c.self.inside.capacity, (c.self.inside.next, entries_in items))) c.take_value.ensures.places
    ∙ ap (λ entries. (c.self.inside.capacity, (c.self.inside.next, entries))) (entries_in-taken c.args.number c.self.inside.next c.self.inside.places.items c.in-Some.index c.self.invariant.rising at)
    ∙ ap (λ v. (capacity_of v, (next_of v, remove (entries_of v) c.args.number))) c.self.view_is

pub returns-in-None-take_value-clause-entry : goal.returns-in-None-take_value-clause-entry
returns-in-None-take_value-clause-entry g c =
    c.in-None-take_value.ensures.value
    ∙ sym (get-entries_in c.args.number c.self.inside.next c.self.inside.places.items c.self.invariant.rising)
    ∙ ap (λ v. get (entries_of v) c.args.number) c.self.view_is

pub returns-in-None-take_value-clause-rest : goal.returns-in-None-take_value-clause-rest
returns-in-None-take_value-clause-rest g c =
    let at = subst (λ places. IsAt c.args.number places c.in-Some.index) c.deref.ensures.value c.in-Some.ensures.at in
    ap (λ items. (c.self.inside.capacity, (c.self.inside.next, entries_in items))) c.take_value.ensures.places
    ∙ ap (λ entries. (c.self.inside.capacity, (c.self.inside.next, entries))) (entries_in-taken c.args.number c.self.inside.next c.self.inside.places.items c.in-Some.index c.self.invariant.rising at)
    ∙ ap (λ v. (capacity_of v, (next_of v, remove (entries_of v) c.args.number))) c.self.view_is
