-- A full row after one data block has changed, and P and Q with it.
use Rattle.std.proofs.Common.{◌≡◌, ℕ, ◌+◌, ◌<◌, List, [], ◌∷◌, ◌++◌, length, get_or, set, take, sym, ap, ◌∙◌, arith}
use Rattle.std.specs.List.{All}
use Rattle.std.proofs.lemmas.List.{get_or-take, length-set, set-append_left, take_at}
use Rattle.r6_field.specs.Field.{power, generator}
use Rattle.r6_kernels.specs.Blocks.{IsBlock, block_sum, scale, p_of, q_of}
use Rattle.r6_kernels.proofs.ParityLaws.{p_of-set, q_of-set}
use Rattle.r6_recover.specs.Rows.{block_at, IsFullRow, row_of, changed_row}
use Rattle.r6_recover.proofs.ParityWrites.{set-last_two}
use Rattle.r6_recover.proofs.RowLaws.{full_row-eq, length-row_data, All-row_data, block_at-p, block_at-q}

pub changed_row-eq : (m len index : ℕ) (row : List (List ℕ)) (block : List ℕ) → IsFullRow m len row → IsBlock len block → index < m
    → changed_row m index block row ≡ row_of len (set (take m row) index block)
changed_row-eq m len index row block is block_is h =
    let rest : List (List ℕ) = p_of len (take m row) ∷ q_of len (take m row) ∷ [] in
    let count : length row ≡ m + 2 = is.count in
    let data_count : length (take m row) ≡ m = length-row_data m len row is in
    let all : All (IsBlock len) (take m row) = All-row_data m len row is in
    let within : index < length (take m row) = omega (arith, data_count) in
    let old : block_at row index ≡ get_or (take m row) index [] = sym (get_or-take m row index [] h) in
    let change : List ℕ = block_sum (block_at row index) block in
    let written : set row index block ≡ set (take m row) index block ++ rest =
    ap (λ (r : List (List ℕ)). set r index block) (full_row-eq m len row is) ∙ set-append_left (take m row) rest index block within in
    let front : take m (set row index block) ≡ set (take m row) index block =
    ap (take m) written ∙ take_at (set (take m row) index block) rest m (length-set (take m row) index block ∙ data_count) in
    let p : block_sum (block_at row m) change ≡ p_of len (set (take m row) index block) =
    (λ i. block_sum (block_at-p m len row is i) (block_sum (old i) block)) ∙ sym (p_of-set len index (take m row) block all block_is within) in
    let q : block_sum (block_at row (m + 1)) (scale (power generator index) change) ≡ q_of len (set (take m row) index block) =
    (λ i. block_sum (block_at-q m len row is i) (scale (power generator index) (block_sum (old i) block))) ∙ sym (q_of-set len index (take m row) block all block_is within) in
    set-last_two m (set row index block) (block_sum (block_at row m) change) (block_sum (block_at row (m + 1)) (scale (power generator index) change))
    (length-set row index block ∙ count)
    ∙ (λ i. front i ++ p i ∷ q i ∷ [])
