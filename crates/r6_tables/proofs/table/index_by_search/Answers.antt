use Rattle.std.proofs.Common.{sym, subst, rules, Ok, Err, IfOk, IfErr}
use Rattle.std.specs.Prelude.{IfSome, IfNone}
use Rattle.std.proofs.lemmas.List.Sorted.{answers_always}
use Rattle.std.specs.Result.{result_ok}
use Rattle.r6_tables.specs.Places.{IsAt, IsAbsent}
use Rattle.r6_tables.proofs.Places.{searched}
use Rattle.r6_tables.proofs.table.index_by_search.Goals as goal

pub returns-clause-at : goal.returns-clause-at
returns-clause-at g c =
    let found = searched c.args.number 0 c.requires.0 c.args.places.now c.binary_search_by_key.result c.requires.1 c.binary_search_by_key.ensures.bound
    (c.binary_search_by_key.ensures.position (λ place. place.0) (answers_always _ _ _ (λ f a r g called. search rules))) in
    subst (λ o. IfSome o (IsAt c.args.number c.args.places.now)) (sym c.ok.ensures.value)
    (elim c.binary_search_by_key.result as (λ r. IfOk r (IsAt c.args.number c.args.places.now) → IfSome (result_ok r) (IsAt c.args.number c.args.places.now)) [
      | Ok i ↦ λ at. at
      | Err i ↦ λ none. tt
    ] found.at)

pub returns-clause-absent : goal.returns-clause-absent
returns-clause-absent g c =
    let found = searched c.args.number 0 c.requires.0 c.args.places.now c.binary_search_by_key.result c.requires.1 c.binary_search_by_key.ensures.bound
    (c.binary_search_by_key.ensures.position (λ place. place.0) (answers_always _ _ _ (λ f a r g called. search rules))) in
    subst (λ o. IfNone o (IsAbsent c.args.number c.args.places.now)) (sym c.ok.ensures.value)
    (elim c.binary_search_by_key.result as (λ r. IfErr r (λ i. IsAbsent c.args.number c.args.places.now) → IfNone (result_ok r) (IsAbsent c.args.number c.args.places.now)) [
      | Ok i ↦ λ at. tt
      | Err i ↦ λ none. none
    ] found.absent)
