use Rattle.std.proofs.Common.{◌≡◌, ◌∙◌, true, sym, ap, subst, arith, rules, is_some, inr, length, vec_len}
use Rattle.std.specs.FinMap.{get, insert}
use borrow.Follows.Closed.{read_of}
use Rattle.std.specs.Option.{ghost_name_of}
use Rattle.r6_tables.specs.Table.{capacity_of, next_of, entries_of}
use Rattle.r6_tables.specs.Places.{live, value_at, IsRising, IsAt, IsAbsent}
use Rattle.r6_tables.proofs.Lent.{lent_value, lent_rising, lent_counted, lent_entries, lent_unchanged}
use Rattle.r6_tables.proofs.Places.{at_within}
use Rattle.r6_tables.proofs.Numbered.{entries_in, get-entries_in, get-absent, none_of}
use Rattle.r6_tables.proofs.table.Table.get_mut.Goals as goal

pub index_mut-requires : goal.index_mut-requires
index_mut-requires g c =
    let at = subst (λ places. IsAt c.args.number places c.in-Some.index) c.deref.ensures.value c.in-Some.ensures.at in
    let within = at_within c.args.number c.self.inside.places.items c.in-Some.index at in
    let items : vec_len c.self.inside.places ≡ length c.self.inside.places.items = search rules in
    omega (arith, within, items)

pub invariant_of-self-lent : goal.invariant_of-self-lent
invariant_of-self-lent g c =
    let table = c.self.inside in
    let old = table.places.items in
    let at = subst (λ places. IsAt c.args.number places c.in-Some.index) c.deref.ensures.value c.in-Some.ensures.at in
    let there : is_some (value_at c.args.number old) ≡ true =
    subst (λ places. is_some (value_at c.args.number places) ≡ true) c.deref-2.ensures.value (sym c.has_value.ensures ∙ c.if-not-has_value.false) in
    let unchanged = lent_unchanged c.args.number table.next old c.in-Some.index c.index_mut.result.now c.self.invariant.rising at c.index_mut.ensures.value in
    λ entry. (
      λ left. record {
        countable = c.self.invariant.countable;
        room = c.self.invariant.room;
        rising = lent_rising c.args.number table.next old c.in-Some.index c.index_mut.result.now c.self.invariant.rising at c.index_mut.ensures.value left;
        counted =
            let same_many = lent_counted c.args.number table.next old c.in-Some.index c.index_mut.result.now c.self.invariant.rising at c.index_mut.ensures.value left there in
            omega (arith, c.self.invariant.counted, same_many);
      },
      record {
        countable = c.self.invariant.countable;
        room = c.self.invariant.room;
        rising = subst (IsRising 0 table.next) (sym unchanged) c.self.invariant.rising;
        counted = let same_many = ap (λ places. length (live places)) unchanged in omega (arith, c.self.invariant.counted, same_many);
      },
    )

pub returns : goal.returns
returns g c =
    let table = c.self.inside in
    let old = table.places.items in
    let at = subst (λ places. IsAt c.args.number places c.in-Some.index) c.deref.ensures.value c.in-Some.ensures.at in
    let entries = lent_entries c.args.number table.next old c.in-Some.index c.index_mut.result.now c.self.invariant.rising at c.index_mut.ensures.value in
    let unchanged = lent_unchanged c.args.number table.next old c.in-Some.index c.index_mut.result.now c.self.invariant.rising at c.index_mut.ensures.value in
    let value = lent_value c.args.number table.next old c.in-Some.index c.index_mut.result.now c.self.invariant.rising at c.index_mut.ensures.value in (
      λ i. read_of (ghost_name_of c.as_mut.result)
          (λ left. (ap (λ entries. (table.capacity, (table.next, entries))) (entries left) ∙ ap (λ v. (capacity_of v, (next_of v, insert (entries_of v) c.args.number left))) c.self.view_is) i)
          ((ap (λ places. (table.capacity, (table.next, entries_in places))) unchanged ∙ c.self.view_is) i),
      record {
        writes_back = tt;
        value =
            c.as_mut.ensures.value
            ∙ value
            ∙ sym (get-entries_in c.args.number table.next old c.self.invariant.rising)
            ∙ ap (λ v. get (entries_of v) c.args.number) c.self.view_is;
      },
    )

pub returns-in-None : goal.returns-in-None
returns-in-None g c =
    let absent = subst (IsAbsent c.args.number) c.deref.ensures.value c.in-None.ensures.absent in (
      λ i. inr (c.self.view_is i),
      record {
        writes_back = tt;
        value =
            sym (get-absent c.args.number c.self.inside.next c.self.inside.places.items c.self.invariant.rising absent)
            ∙ ap (λ v. get (entries_of v) c.args.number) c.self.view_is;
      },
    )

pub returns-then-not-has_value : goal.returns-then-not-has_value
returns-then-not-has_value g c =
    let gone = none_of (value_at c.args.number c.deref-2.result.now) (sym c.has_value.ensures ∙ search (rules, c.if-not-has_value.true)) in (
      λ i. inr (c.self.view_is i),
      record {
        writes_back = tt;
        value =
            sym gone
            ∙ ap (value_at c.args.number) c.deref-2.ensures.value
            ∙ sym (get-entries_in c.args.number c.self.inside.next c.self.inside.places.items c.self.invariant.rising)
            ∙ ap (λ v. get (entries_of v) c.args.number) c.self.view_is;
      },
    )
