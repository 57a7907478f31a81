use Rattle.std.proofs.Common.{rules, subst, sym, ap, ◌∙◌, length}
use Rattle.std.proofs.lemmas.Fn.{filter_same}
use Rattle.r6_tables.specs.Places.{live, IsRising}
use Rattle.r6_tables.proofs.Places.{has_value, live-swept, length-swept, rising-swept}
use Rattle.r6_tables.proofs.table.sweep.Goals as goal

pub returns-clause-same : goal.returns-clause-same
returns-clause-same g c =
    let kept = filter_same _ has_value _ (λ x b f' k. search rules) _ _ c.retain.ensures.filtered in
    ap live kept ∙ live-swept c.args.places.now.items

pub returns-clause-few : goal.returns-clause-few
returns-clause-few g c =
    let kept = filter_same _ has_value _ (λ x b f' k. search rules) _ _ c.retain.ensures.filtered in
    ap length kept ∙ length-swept c.args.places.now.items

pub returns-clause-rising : goal.returns-clause-rising
returns-clause-rising g c =
    let kept = filter_same _ has_value _ (λ x b f' k. search rules) _ _ c.retain.ensures.filtered in
    λ low high rising. subst (IsRising low high) (sym kept) (rising-swept low high c.args.places.now.items rising)
