use Rattle.std.proofs.Common.{◌∙◌, List, ℕ, None, Some, ap, refl, sym}
use Rattle.r6_settings.specs.declared.key.Key.TheVariants.{Lost}
use Rattle.r6_settings.specs.Settings.{IsMemoryOr, IsOf, slot_below}
use Rattle.r6_settings.proofs.Deciding.{told_on}
use Rattle.r6_settings.proofs.DocumentLemmas.{lost_among, one_lost, too_many_lost, two_lost}
use Rattle.r6_settings.proofs.document.slots_among.Goals as goal

pub returns-in_err-slot_below-in-len1-clause-err : goal.returns-in_err-slot_below-in-len1-clause-err
returns-in_err-slot_below-in-len1-clause-err c =
    let is = c.in_err-slot_below-in-len1.ensures.err in
    told_on (IsMemoryOr (IsOf Lost (lost_among c.args.slots c.args.items.now))) c.from_residual.result c.in_err-slot_below-in-len1.field-0.0
    (λ _. (is.0, one_lost c.args.slots c.args.items.now c.only-item.result None c.in-len1.len_at_least c.in-len1.len_below c.only-item.is is.1))
    c.from_residual.ensures.1

pub returns-in_ok-from_array-in-len1-clause-ok : goal.returns-in_ok-from_array-in-len1-clause-ok
returns-in_ok-from_array-in-len1-clause-ok c =
    one_lost c.args.slots c.args.items.now c.only-item.result (Some c.in_ok-slot_below-in-len1.field-0) c.in-len1.len_at_least c.in-len1.len_below
    c.only-item.is c.in_ok-slot_below-in-len1.ensures.ok
    ∙ ap (λ (lost : List ℕ). Some lost) (sym c.in_ok-from_array-in-len1.ensures.items)

pub returns-in_err-two_slots-in-len2-clause-err : goal.returns-in_err-two_slots-in-len2-clause-err
returns-in_err-two_slots-in-len2-clause-err c =
    let is = c.in_err-two_slots-in-len2.ensures.err in
    told_on (IsMemoryOr (IsOf Lost (lost_among c.args.slots c.args.items.now))) c.from_residual-in_err-two_slots-in-len2.result
    c.in_err-two_slots-in-len2.field-0.0
    (λ _. (
      is.0,
      two_lost c.args.slots c.args.items.now c.first-item.result c.second-item.result c.in-len2.len_at_least c.in-len2.len_below c.first-item.is
          c.second-item.is ∙ is.1,
    ))
    c.from_residual-in_err-two_slots-in-len2.ensures.1

pub returns-in_ok-from_array-in-len2-clause-ok : goal.returns-in_ok-from_array-in-len2-clause-ok
returns-in_ok-from_array-in-len2-clause-ok c =
    two_lost c.args.slots c.args.items.now c.first-item.result c.second-item.result c.in-len2.len_at_least c.in-len2.len_below c.first-item.is c.second-item.is
    ∙ c.in_ok-two_slots-in-len2.ensures.ok ∙ ap (λ (lost : List ℕ). Some lost) (sym c.in_ok-from_array-in-len2.ensures.items)

pub returns-in_default-clause-err : goal.returns-in_default-clause-err
returns-in_default-clause-err c _ = (refl, too_many_lost (slot_below c.args.slots) c.args.items.now c.in_default.len_at_least)
