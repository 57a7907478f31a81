use Rattle.std.proofs.Common.{◌≡◌, ◌∙◌, None, refl, sym}
use Rattle.r6_array_c.proofs.Making.{none_of}
use Rattle.r6_array_c.proofs.asked_shard.open.Goals as goal

pub returns-in-Ok-clause-opens : goal.returns-in-Ok-clause-opens
returns-in-Ok-clause-opens c =
    let none : c.args.handle.now.host ≡ None =
    none_of c.args.handle.now.host (sym c.is_some.ensures ∙ c.if-is_some.false) in record {
      opened = λ _. (none, c.in-Ok.host, refl, c.in-Ok.ensures.made);
      refused = λ ne _. absurd (ne refl);
      is_open = λ ne. absurd (ne none);
    }
