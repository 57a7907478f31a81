use Rattle.std.proofs.Common.{None, sym, subst}
use Rattle.r6_shard.specs.Parts.{PutsIn}
use Rattle.r6_shard.proofs.Handed.{puts-after}
use Rattle.r6_shard.proofs.in_place.InPlace.add.Goals as goal

pub returns-clause-taken : goal.returns-clause-taken
returns-clause-taken g c =
    let parts = c.args.self.now.parts.items in
    let part = c.args.part in
    subst (λ y. PutsIn part None parts y) (sym c.push_reserved.ensures.items) (puts-after parts part c.requires)
