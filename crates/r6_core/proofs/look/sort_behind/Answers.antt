use Rattle.std.proofs.Common.{◌≡◌, ◌++◌, ◌-◌, [], length, drop, take, sym, ap, subst, ◌∙◌, arith, rules, append-nil}
use Rattle.std.specs.List.Sorted.{IsNonDecreasingBy}
use Rattle.std.proofs.lemmas.List.{drop_all, drop_at, length-drop, length-take-le}
use Rattle.std.proofs.lemmas.List.Sorted.{IsNonDecreasingBy-from_sort_by_key}
use borrow.Rule.Slice.PartMut.{post_of}
use Rattle.r6_world.specs.declared.values.Request.{Request}
use Rattle.r6_core.proofs.look.sort_behind.Goals as goal

-- what stands from the index on is what was sorted
pub returns-clause-sorted : goal.returns-clause-sorted
returns-clause-sorted c =
    let from = c.args.from in
    let all = c.make_contiguous.result.now in
    let last = c.sort_unstable_by_key.new.self in
    let rest = post_of from (length all - from) all in
    let sorted = IsNonDecreasingBy-from_sort_by_key (λ (request : Request). request.id) last c.sort_unstable_by_key.ensures.sorted (λ a r q k. search rules) in
    let nothing : rest ≡ [] = drop_all (length all - from) (drop from all) (omega (arith, length-drop from all)) in
    let behind : drop from (take from all ++ (last ++ rest)) ≡ last =
    drop_at (take from all) (last ++ rest) from (length-take-le from all (search rules)) ∙ ap (λ xs. last ++ xs) nothing ∙ append-nil last in
    let kept = c.make_contiguous.ensures.same_len (take from all ++ (last ++ rest)) (search rules) in
    subst (IsNonDecreasingBy (λ (request : Request). request.id)) (sym (ap (drop from) kept ∙ behind)) sorted
