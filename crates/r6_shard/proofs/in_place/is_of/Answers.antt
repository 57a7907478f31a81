use Rattle.std.proofs.Common.{ap, sym}
use Rattle.std.specs.Prelude.{◌==◌, ◌&&◌}
use Rattle.std.proofs.lemmas.Bool.{eq-eqb}
use Rattle.r6_shard.proofs.in_place.is_of.Goals as goal

pub returns-then-part-slot : goal.returns-then-part-slot
returns-then-part-slot g c =
    let part = c.args.part.now in
    sym (ap (λ b. b && (part.generation == c.args.generation)) (eq-eqb part.slot c.args.slot c.if-part-slot.true))
