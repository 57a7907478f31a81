use Rattle.std.proofs.Common.{◌≡◌, ◌≤◌, ◌-◌, ◌<◌, ℕ, List, [], length, get_or, take, bit_xor, ◌∙◌, ap, sym, arith}
use Rattle.std.specs.List.{All}
use Rattle.std.proofs.lemmas.List.{get_or_read, length-take-le, take_all}
use Rattle.std.proofs.lemmas.List.Elements.{All-take}
use Rattle.r6_kernels.specs.Blocks.{p_of}
use Rattle.r6_recover.specs.Rows.{block_length}
use Rattle.r6_recover.proofs.ClassLaws.{p_byte-none, p_byte-more, p_difference-at}
use Rattle.r6_recover.proofs.difference.p_difference_at.Goals as goal

pub loop-block-init : goal.loop-block-init
loop-block-init c = p_byte-none (block_length c.args.blocks.now) c.args.at c.requires.within

pub loop-block-preserved : goal.loop-block-preserved
loop-block-preserved c =
    let blocks : List (List ℕ) = c.args.blocks.now in
    let len : ℕ = block_length blocks in
    let m : ℕ = length blocks - 2 in
    let i : ℕ = c.loop-block.block-index in
    let place : ℕ = c.args.at in
    let rest : List (List ℕ) = take m blocks in
    let count : length rest ≡ m = length-take-le m blocks (omega arith) in
    let long : All (λ block. length block ≡ len) rest = All-take (λ block. length block ≡ len) m blocks c.requires.long in
    let test : i < length rest = omega arith in
    let byte : get_or c.as_slice.result.now place 0 ≡ get_or (get_or rest i []) place 0 =
    ap (λ (block : List ℕ). get_or block place 0) (c.as_slice.ensures ∙ get_or_read rest i c.block-item.result test c.block-item.is []) in
    (λ j. bit_xor (c.loop-block.invariant j) (byte j)) ∙ p_byte-more len place c.requires.within i rest long test

pub returns : goal.returns
returns c =
    let blocks : List (List ℕ) = c.args.blocks.now in
    let len : ℕ = block_length blocks in
    let m : ℕ = length blocks - 2 in
    let least : 2 ≤ length blocks = c.requires.count in
    let place : ℕ = c.args.at in
    let count : length (take m blocks) ≡ m = length-take-le m blocks (omega arith) in
    let whole : take c.loop-block.block-index (take m blocks) ≡ take m blocks = take_all c.loop-block.block-index (take m blocks) (omega arith) in
    (λ j. bit_xor
    ((c.loop-block.invariant ∙ ap (λ (r : List (List ℕ)). get_or (p_of len r) place 0) whole) j)
    (ap (λ (block : List ℕ). get_or block place 0) (c.as_slice-2.ensures ∙ get_or_read blocks m c.index-blocks-m.result (omega arith) c.index-blocks-m.is []) j))
    ∙ sym (p_difference-at blocks least c.requires.long place c.requires.within)
