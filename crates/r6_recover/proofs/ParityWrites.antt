-- The last two blocks of a row, written.
use Rattle.std.proofs.Common.{◌≡◌, ℕ, suc, ◌+◌, ◌-◌, ◌≤◌, List, [], ◌∷◌, ◌++◌, length, get_or, set, take, drop, refl, ap, ◌∙◌, arith}
use Rattle.std.specs.List.{All}
use Rattle.std.proofs.lemmas.List.Elements.{All-nil, All-cons, All-append}
use Rattle.r6_kernels.specs.Blocks.{p_of, q_of, weighted}
use Rattle.r6_recover.specs.Rows.{row_of}
use Rattle.r6_recover.proofs.ClassLaws.{length-total, All_long-weighted}
use Rattle.std.proofs.lemmas.List.{set_split, set-append_right, length-take-le, take-append-le, take_all, drop_more, drop_all}

pub set-last_two : (m : ℕ) (old : List (List ℕ)) (p q : List ℕ) → length old ≡ m + 2 → set (set old m p) (m + 1) q ≡ take m old ++ p ∷ q ∷ []
set-last_two m old p q count =
    let data_count : length (take m old) ≡ m = length-take-le m old (omega arith) in
    let step : ◌≡◌ {A = ℕ} (m + 1 - m) 1 = omega arith in
    let rest : drop (suc m) old ≡ get_or old (suc m) [] ∷ [] =
    drop_more old (suc m) [] (omega arith) ∙ ap (λ (r : List (List ℕ)). get_or old (suc m) [] ∷ r) (drop_all (suc m + 1) old (omega arith)) in
    ap (λ (r : List (List ℕ)). set r (m + 1) q) (set_split old m p (omega arith) ∙ ap (λ (r : List (List ℕ)). take m old ++ p ∷ r) rest)
    ∙ set-append_right (take m old) (p ∷ get_or old (suc m) [] ∷ []) m (m + 1) q data_count (omega arith)
    ∙ ap (λ (i : ℕ). take m old ++ set (p ∷ get_or old (suc m) [] ∷ []) i q) step

-- ---- the same where each of the two stands alone in its part

set-one : (part : List (List ℕ)) (block : List ℕ) → length part ≡ 1 → set part 0 block ≡ block ∷ []
set-one [] block one = absurd (omega arith)
set-one (first ∷ []) block one = refl
set-one (first ∷ second ∷ rest) block one = absurd (omega arith)

pub set-parts : (front first second : List (List ℕ)) (p q : List ℕ) → length first ≡ 1 → length second ≡ 1 → front ++ (set first 0 p ++ set second 0 q) ≡ front ++ p ∷ q ∷ []
set-parts front first second p q one one' = λ i. front ++ (set-one first p one i ++ set-one second q one' i)

pub All_long-row_of : (len : ℕ) (data' : List (List ℕ)) → All (λ block. length block ≡ len) data' → All (λ block. length block ≡ len) (row_of len data')
All_long-row_of len data' all =
    All-append (λ block. length block ≡ len) data' (p_of len data' ∷ q_of len data' ∷ []) all
    (All-cons (λ block. length block ≡ len) (p_of len data') (q_of len data' ∷ []) (length-total len data' all)
    (All-cons (λ block. length block ≡ len) (q_of len data') [] (length-total len (weighted 0 data') (All_long-weighted len 0 data' all))
    (All-nil (λ block. length block ≡ len))))

-- ---- the blocks that a slice of them becomes

pub whole : (n : ℕ) (new rest : List (List ℕ)) → length new ≡ n → take n (new ++ rest) ≡ new
whole n new rest all =
    let within : n ≤ length new = omega (arith, all) in
    take-append-le n new rest within ∙ take_all n new (omega (arith, all))
