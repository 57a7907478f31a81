use Rattle.std.proofs.Common.{◌≡◌, ◌+◌, ◌-◌, ◌∷◌, ℕ, List, [], length, slice_index, take, drop, subst, arith}
use Rattle.std.specs.List.{All}
use Rattle.std.proofs.lemmas.List.{append-nil, length-replicate}
use Rattle.std.proofs.lemmas.List.Elements.{All-nil, All-cons}
use Rattle.r6_kernels.specs.Blocks.{p_of, zeros}
use Rattle.r6_kernels.specs.Lanes.{SpanHolds}
use Rattle.r6_kernels.proofs.SumLaws.{SpanHolds-none, SpanHolds-zeros}
use Rattle.r6_kernels.proofs.WithoutLaws.{without-parts_of_one, All-above, All-below}
use Rattle.r6_kernels.proofs.span.p_without.Goals as goal

pub with_all-requires-clause-long : goal.with_all-requires-clause-long
with_all-requires-clause-long c = All-above c.args.len c.args.x c.args.x c.args.blocks.now c.requires.long (omega arith) c.requires.within

pub with_all-requires-2-clause-long : goal.with_all-requires-2-clause-long
with_all-requires-2-clause-long c = All-below c.args.len c.args.x c.args.x c.args.blocks.now c.requires.long (omega arith) c.requires.within

pub returns : goal.returns
returns c =
    let len : ℕ = c.args.len in
    let x : ℕ = c.args.x in
    let at : ℕ = c.args.at in
    let P = λ (b : List ℕ). length b ≡ len in
    let data' : List (List ℕ) = c.args.blocks.now in
    let upper : List (List ℕ) = take (length data' - (x + 1)) (drop (x + 1) data') in
    let upper_long : All P upper = All-above len x x data' c.requires.long (omega arith) c.requires.within in
    let none : SpanHolds c.zeros.result at (slice_index (p_of len [])) = SpanHolds-none c.zeros.result at len (c.zeros.ensures at) in
    let above : SpanHolds c.with_all.result at (slice_index (p_of len upper)) =
    subst (λ (blocks : List (List ℕ)). SpanHolds c.with_all.result at (slice_index (p_of len blocks))) (append-nil upper) (c.with_all.ensures [] none (All-nil P)) in
    let zeroed : SpanHolds c.with_all.result at (slice_index (p_of len (zeros len ∷ upper))) = SpanHolds-zeros c.with_all.result at len upper upper_long above in
    let zeroed_long = All-cons P (zeros len) upper (length-replicate len 0) upper_long in
    subst (λ (blocks : List (List ℕ)). SpanHolds c.with_all-2.result at (slice_index (p_of len blocks))) (without-parts_of_one len x data' c.requires.within)
    (c.with_all-2.ensures (zeros len ∷ upper) zeroed zeroed_long)
