use Rattle.std.proofs.Common.{◌∙◌, sym, ap}
use Rattle.std.specs.FinMap.{len}
use Rattle.r6_tables.specs.Table.{entries_of}
use Rattle.r6_tables.proofs.Numbered.{len-entries_in}
use Rattle.r6_tables.proofs.table.Table.len.Goals as goal

pub returns : goal.returns
returns g c =
    c.self.invariant.counted
    ∙ sym (len-entries_in c.self.inside.next c.self.inside.places.items c.self.invariant.rising)
    ∙ ap (λ v. len (entries_of v)) c.self.view_is
