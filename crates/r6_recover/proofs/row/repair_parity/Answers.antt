use Rattle.std.proofs.Common.{◌≡◌, ◌<◌, ◌≤◌, ℕ, List, [], length, drop, sym, ap, subst, ◌∙◌, arith}
use Rattle.std.specs.List.{All}
use Rattle.r6_recover.specs.Rows.{block_length, data_of, row_of}
use Rattle.r6_recover.proofs.ParityWrites.{whole}
use Rattle.r6_recover.proofs.row.repair_parity.Goals as goal

pub invariant_of-row : goal.invariant_of-row
invariant_of-row c =
    let old : List (List ℕ) = c.row.inside.blocks.items in
    let new : List (List ℕ) = c.rewrite_parity.new.blocks in
    let all = whole c.row.inside.blocks.len new (drop (length new) old) (c.rewrite_parity.auto.blocks ∙ c.as_mut_slice.ensures.len) in
    let count : length new ≡ length old = c.rewrite_parity.auto.blocks ∙ ap length c.as_mut_slice.ensures.value in
    let some : 0 < length old = omega (arith, c.row.invariant.at_least) in
    let len : block_length c.as_mut_slice.result.now ≡ length c.row.inside.sum = ap block_length c.as_mut_slice.ensures.value ∙ c.row.invariant.long 0 [] some in
    record {
      at_least = subst (λ (blocks : List (List ℕ)). 4 ≤ length blocks) (sym all) (subst (λ (n : ℕ). 4 ≤ n) (sym count) c.row.invariant.at_least);
      at_most = subst (λ (blocks : List (List ℕ)). length blocks ≤ 32) (sym all) (subst (λ (n : ℕ). n ≤ 32) (sym count) c.row.invariant.at_most);
      long = subst (λ (blocks : List (List ℕ)). All (λ block. length block ≡ length c.row.inside.sum) blocks) (sym all)
          (subst (λ (n : ℕ). All (λ block. length block ≡ n) new) len c.rewrite_parity.ensures.long);
      weighted = c.row.invariant.weighted;
    }

pub returns : goal.returns
returns c =
    let new : List (List ℕ) = c.rewrite_parity.new.blocks in
    whole c.row.inside.blocks.len new (drop (length new) c.row.inside.blocks.items) (c.rewrite_parity.auto.blocks ∙ c.as_mut_slice.ensures.len)
    ∙ c.rewrite_parity.ensures.row
    ∙ ap (λ (row : List (List ℕ)). row_of (block_length row) (data_of row)) (c.as_mut_slice.ensures.value ∙ c.row.view_is)
