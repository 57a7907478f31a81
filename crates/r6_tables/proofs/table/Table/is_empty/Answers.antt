use Rattle.std.proofs.Common.{◌≡◌, ◌∙◌, sym, ap, arith}
use Rattle.std.proofs.lemmas.Bool.Decides.{nat_tests}
use Rattle.std.specs.FinMap.{len}
use Rattle.r6_tables.specs.Table.{entries_of}
use Rattle.r6_tables.proofs.Numbered.{len-entries_in}
use Rattle.r6_tables.proofs.table.Table.is_empty.Goals as goal

pub returns : goal.returns
returns g c =
    let same : c.self.inside.len ≡ len (entries_of c.args.self.now) =
    c.self.invariant.counted
    ∙ sym (len-entries_in c.self.inside.next c.self.inside.places.items c.self.invariant.rising)
    ∙ ap (λ v. len (entries_of v)) c.self.view_is in
    grind (arith, nat_tests, same)
