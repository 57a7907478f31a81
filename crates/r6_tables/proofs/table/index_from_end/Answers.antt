use Rattle.std.proofs.Common.{sym, ap, ◌∙◌}
use Rattle.r6_tables.proofs.Places.{at_of_number}
use Rattle.r6_tables.proofs.table.index_from_end.Goals as goal

pub returns : goal.returns
returns g c =
    let there = c.in_ok-get.ensures.lookup in
    at_of_number c.args.number c.args.places.now c.in_ok-index.index there.3.0 (λ d. ap (λ place. place.0) (sym (there.3.1 d)) ∙ c.if-branch-number.false)
