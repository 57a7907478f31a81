use Rattle.std.proofs.Common.{◌≡◌, ◌+◌, ◌-◌, ◌<◌, ℕ, List, [], length, get_or, take, ap, ◌∙◌, arith}
use Rattle.std.proofs.lemmas.List.{get_or_read}
use Rattle.r6_kernels.specs.Blocks.{p_of, without}
use Rattle.r6_kernels.proofs.LackLaws.{SpanHolds-lack, length-stored_p, same-p}
use Rattle.r6_kernels.proofs.WithoutLaws.{AreLongBut-one}
use Rattle.r6_kernels.proofs.span.p_lack_over.Goals as goal

pub p_without-sum-requires-clause-long : goal.p_without-sum-requires-clause-long
p_without-sum-requires-clause-long c =
    let row : List (List ℕ) = c.args.row.now in
    let within : c.args.x + 2 < length row = c.requires.within in
    AreLongBut-one c.args.len c.args.x (length row - 2 + 1) (length row - 2) row (omega arith) (omega arith) c.requires.long

pub load-requires : goal.load-requires
load-requires c =
    let row : List (List ℕ) = c.args.row.now in
    let within : c.args.x + 2 < length row = c.requires.within in
    let stored : c.index-row-m.result ≡ get_or row (length row - 2) [] = get_or_read row (length row - 2) c.index-row-m.result (omega arith) c.index-row-m.is [] in
    let long : length c.as_slice.result.now ≡ c.args.len = ap length (c.as_slice.ensures ∙ stored) ∙ length-stored_p c.args.len c.args.x row within c.requires.long in
    omega arith

pub returns : goal.returns
returns c =
    let row : List (List ℕ) = c.args.row.now in
    let len : ℕ = c.args.len in
    let within : c.args.x + 2 < length row = c.requires.within in
    let stored : c.index-row-m.result ≡ get_or row (length row - 2) [] = get_or_read row (length row - 2) c.index-row-m.result (omega arith) c.index-row-m.is [] in
    SpanHolds-lack c.plus.result c.args.at (p_of len (without len c.args.x (take (length row - 2) row))) (get_or row (length row - 2) []) c.as_slice.result.now
    (c.as_slice.ensures ∙ stored) (same-p len c.args.x row within c.requires.long) (c.plus.ensures c.args.at _ _ c.p_without-sum.ensures c.load.ensures.lanes)
