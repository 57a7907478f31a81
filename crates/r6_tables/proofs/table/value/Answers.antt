use Rattle.std.proofs.Common.{◌∙◌, sym, arith}
use Rattle.r6_tables.proofs.Places.{at_within, value-at}
use Rattle.r6_tables.proofs.table.value.Goals as goal

pub offset_bounds-places-index : goal.offset_bounds-places-index
offset_bounds-places-index g c = omega (arith, at_within c.args.number c.args.places.now c.args.index c.requires.at)

pub bounds-places-index : goal.bounds-places-index
bounds-places-index g c = at_within c.args.number c.args.places.now c.args.index c.requires.at

pub returns : goal.returns
returns g c =
    c.as_ref.ensures.value
    ∙ sym (value-at c.args.number 0 c.requires.rising.0 c.args.places.now c.args.index c.index-places-index.result c.requires.rising.1 c.requires.at)
