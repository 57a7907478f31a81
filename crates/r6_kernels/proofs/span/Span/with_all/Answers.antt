use Rattle.std.proofs.Common.{◌≡◌, ◌-◌, ◌++◌, ◌∙◌, ℕ, List, [], length, slice_index, get_or, drop, sym, subst, arith}
use Rattle.std.proofs.lemmas.List.{drop_all, get_or_read}
use Rattle.r6_kernels.specs.Blocks.{p_of}
use Rattle.r6_kernels.specs.Lanes.{SpanHolds}
use Rattle.r6_kernels.proofs.SumLaws.{IsNext, SpanHolds-cons, next-block}
use Rattle.r6_kernels.proofs.span.Span.with_all.Goals as goal

pub loop-i-init : goal.loop-i-init
loop-i-init c blocks sum long =
    let before : List (List ℕ) = c.args.before.now in
    let none : drop (length before) before ≡ [] = drop_all (length before) before (omega arith) in
    subst (λ (front : List (List ℕ)). SpanHolds c.args.self c.args.at (slice_index (p_of c.args.len (front ++ blocks)))) (sym none) sum

pub loop-i-preserved : goal.loop-i-preserved
loop-i-preserved c blocks sum long =
    let len : ℕ = c.args.len in
    let before : List (List ℕ) = c.args.before.now in
    let i : ℕ = c.loop-i.i - 1 in
    let block : List ℕ = c.as_slice.result.now in
    let block_is : block ≡ get_or before i [] = c.as_slice.ensures ∙ get_or_read before i c.index-before-i.result (omega arith) c.index-before-i.is [] in
    let next : IsNext len before blocks i c.loop-i.i block = next-block len before blocks i c.loop-i.i block (omega arith) (omega arith) c.requires.long long block_is c.load.ensures.bytes in
    subst (λ (front : List (List ℕ)). SpanHolds c.plus-sum.result c.args.at (slice_index (p_of len (front ++ blocks)))) next.whole
    (SpanHolds-cons c.plus-sum.result c.args.at len block (drop c.loop-i.i before ++ blocks) next.is next.long
    (c.plus-sum.ensures c.args.at _ _ (c.loop-i.invariant blocks sum long) c.load.ensures.lanes))

pub returns : goal.returns
returns c blocks sum long =
    let none : c.loop-i.i ≡ 0 = omega arith in
    subst (λ (n : ℕ). SpanHolds c.loop-i.sum c.args.at (slice_index (p_of c.args.len (drop n c.args.before.now ++ blocks)))) none (c.loop-i.invariant blocks sum long)
