use Rattle.std.proofs.Common.{◌∙◌, sym, ap, subst}
use Rattle.std.specs.FinMap.{get}
use Rattle.r6_tables.specs.Table.{entries_of}
use Rattle.r6_tables.specs.Places.{value_at, IsAbsent}
use Rattle.r6_tables.proofs.Numbered.{get-entries_in, get-absent}
use Rattle.r6_tables.proofs.table.Table.get.Goals as goal

pub returns-in-Some : goal.returns-in-Some
returns-in-Some g c =
    c.value.ensures
    ∙ ap (value_at c.args.number) c.deref-in-Some.ensures.value
    ∙ sym (get-entries_in c.args.number c.self.inside.next c.self.inside.places.items c.self.invariant.rising)
    ∙ ap (λ v. get (entries_of v) c.args.number) c.self.view_is

pub returns-in-None : goal.returns-in-None
returns-in-None g c =
    let absent = subst (IsAbsent c.args.number) c.deref.ensures.value c.in-None.ensures.absent in
    sym (get-absent c.args.number c.self.inside.next c.self.inside.places.items c.self.invariant.rising absent)
    ∙ ap (λ v. get (entries_of v) c.args.number) c.self.view_is
