use Rattle.std.proofs.Common.{◌≡◌, List, ℕ, Option, Some, IfErr, IfOk, subst, sym}
use Rattle.toml.specs.View.{table_view, view}
use Rattle.r6_settings.specs.declared.key.Key.TheVariants.{Lost}
use Rattle.r6_settings.specs.Settings.{IsMemoryOr, IsOf}
use Rattle.r6_settings.proofs.DocumentLemmas.{lost_there}
use Rattle.r6_settings.proofs.document.lost_slots.Goals as goal

pub returns-clause-ok : goal.returns-clause-ok
returns-clause-ok c =
    let there = lost_there (table_view c.args.table.now) (view c.in-Some.value.now) c.in-Some-as_array.items.now.items c.as_slice.result.now c.args.slots
    c.in-Some.ensures c.in-Some-as_array.ensures c.as_slice.ensures.value c.requires in
    subst (λ (said : Option (List ℕ)). IfOk c.slots_among.result (λ lost. said ≡ Some lost.items)) (sym there) c.slots_among.ensures.ok

pub returns-clause-err : goal.returns-clause-err
returns-clause-err c =
    let there = lost_there (table_view c.args.table.now) (view c.in-Some.value.now) c.in-Some-as_array.items.now.items c.as_slice.result.now c.args.slots
    c.in-Some.ensures c.in-Some-as_array.ensures c.as_slice.ensures.value c.requires in
    subst (λ (said : Option (List ℕ)). IfErr c.slots_among.result (IsMemoryOr (IsOf Lost said))) (sym there) c.slots_among.ensures.err
