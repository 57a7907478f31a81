use Rattle.std.proofs.Common.{None, ap, set}
use Rattle.std.proofs.lemmas.List.{get_or_default}
use Rattle.r6_waiters.proofs.waiters.name_entry.Goals as goal

pub returns : goal.returns
returns g c =
    let place = c.index-places-position.result in
    ap (λ p. set c.args.places.now c.args.position (c.args.cause, p.1))
    (get_or_default c.args.places.now c.args.position place (0, None) c.requires)
