use Rattle.std.proofs.Common.{◌≡◌, ◌-◌, ◌≤◌, ◌++◌, [], ◌∷◌, ℕ, List, length, get_or, take, drop, ◌∙◌, ap, arith}
use Rattle.std.specs.List.{All}
use Rattle.std.proofs.lemmas.List.Elements.{All-take, All-drop, All-same}
use Rattle.r6_kernels.specs.Blocks.{p_of, q_of}
use Rattle.r6_recover.specs.Rows.{block_length, row_of, data_of}
use Rattle.r6_recover.proofs.ParityWrites.{set-parts, All_long-row_of}
use Rattle.r6_recover.proofs.parity.rewrite_parity.Goals as goal

pub returns-clause-row : goal.returns-clause-row
returns-clause-row c =
    let blocks : List (List ℕ) = c.args.blocks.now in
    let m : ℕ = length blocks - 2 in
    let least : 2 ≤ length blocks = c.requires.count in
    let one : length c.split_at_mut-p.result.0.now ≡ 1 = c.split_at_mut-p.ensures.front_len in
    let other : length c.split_at_mut-p.result.1.now ≡ 1 = omega (arith, c.split_at_mut-p.ensures.back_len, c.split_at_mut-data_blocks.ensures.back_len) in
    let long : All (λ block. length block ≡ block_length blocks) c.split_at_mut-p.result.0.now =
    All-same (λ block. length block ≡ block_length blocks) c.split_at_mut-p.result.0.now (take 1 (drop m blocks))
    (c.split_at_mut-p.ensures.front ∙ ap (take 1) c.split_at_mut-data_blocks.ensures.back)
    (All-take (λ block. length block ≡ block_length blocks) 1 (drop m blocks) (All-drop (λ block. length block ≡ block_length blocks) m blocks c.requires.long)) in
    let len : length (get_or c.split_at_mut-p.result.0.now 0 c.index-p-0.result) ≡ block_length blocks = long 0 c.index-p-0.result (omega arith) in
    let front : c.split_at_mut-data_blocks.result.0.now ≡ take m blocks = c.split_at_mut-data_blocks.ensures.front in
    set-parts c.split_at_mut-data_blocks.result.0.now c.split_at_mut-p.result.0.now c.split_at_mut-p.result.1.now c.parity.new.p c.parity.new.q one other
    ∙ (λ i. front i ++ (c.parity.ensures.p ∙ (λ j. p_of (len j) (front j))) i ∷ (c.parity.ensures.q ∙ (λ j. q_of (len j) (front j))) i ∷ [])

pub returns-clause-long : goal.returns-clause-long
returns-clause-long c =
    let blocks : List (List ℕ) = c.args.blocks.now in
    All-same (λ block. length block ≡ block_length blocks) _ (row_of (block_length blocks) (data_of blocks)) (returns-clause-row c)
    (All_long-row_of (block_length blocks) (data_of blocks) (All-take (λ block. length block ≡ block_length blocks) (length blocks - 2) blocks c.requires.long))
