use Rattle.std.proofs.Common.{◌∙◌, sym, ap, arith, rules, ◌≡◌, vec_len, length, None}
use Rattle.std.specs.Prelude.{slice_set}
use Rattle.r6_tables.proofs.Places.{at_within, number-at, value-at, with_value-at}
use Rattle.r6_tables.proofs.table.take_value.Goals as goal

pub index_mut-requires : goal.index_mut-requires
index_mut-requires g c =
    let within = at_within c.args.number c.args.places.now.items c.args.index c.requires.at in
    let items : vec_len c.args.places.now ≡ length c.args.places.now.items = search rules in
    omega (arith, within, items)

pub returns-clause-value : goal.returns-clause-value
returns-clause-value g c =
    c.take.ensures.value
    ∙ ap (λ place. place.1) c.index_mut.ensures.value
    ∙ sym (value-at c.args.number 0 c.requires.rising.0 c.args.places.now.items c.args.index c.index_mut.result.now c.requires.rising.1 c.requires.at)

pub returns-clause-places : goal.returns-clause-places
returns-clause-places g c =
    let places = c.args.places.now.items in
    let number = ap (λ place. place.0) c.index_mut.ensures.value ∙ number-at c.args.number places c.args.index c.index_mut.result.now c.requires.at in
    ap (λ n. slice_set places c.args.index (n, c.take.new.self)) number
    ∙ ap (λ v. slice_set places c.args.index (c.args.number, v)) c.take.ensures.after
    ∙ with_value-at c.args.number 0 c.requires.rising.0 None places c.args.index c.requires.rising.1 c.requires.at
