-- What the recovery of a block leaves is the block of the full row.
use Rattle.std.proofs.Common.{◌≡◌, ◌≢◌, ℕ, ◌+◌, ◌-◌, ◌<◌, ◌≤◌, List, [], length, get_or, set, take, sym, ap, subst, ◌∙◌, arith, ⊎_elim}
use Rattle.std.specs.List.{All}
use Rattle.std.proofs.lemmas.Bool.{cases_eq}
use Rattle.std.proofs.lemmas.List.{get_or-set_other, get_or-set_same, length-set, length-take-le, get_or-take, ext_get_or}
use Rattle.std.proofs.lemmas.List.Elements.{All-set}
use Rattle.r6_field.specs.Field.{power, generator}
use Rattle.r6_kernels.specs.Blocks.{zeros, block_sum, scale, p_of, q_of, without}
use Rattle.r6_recover.specs.Rows.{block_at, IsFullRow, AgreeBut}
use Rattle.r6_recover.specs.Factors.{AreFactors}
use Rattle.r6_recover.specs.Restores.{IsRestored, RestoresBlock, Restores}
use Rattle.r6_recover.proofs.RecoveryLaws.{block_from_p, block_from_q, block_from_both, second_from_p, p_from_block}
use Rattle.r6_recover.proofs.RowLaws.{length-row_data, All-row_data, block_at-p, block_at-q, same_without}

-- ---- a row with one block written

pub RestoresBlock-set : (m len x y : ℕ) (old : List (List ℕ)) (value : List ℕ) → All (λ block. length block ≡ len) old → length value ≡ len → x < length old
    → IsRestored m len x y old value → RestoresBlock m len x y old (set old x value)
RestoresBlock-set m len x y old value long value_long within restored = record {
  count = length-set old x value;
  long = All-set (λ block. length block ≡ len) old x value value_long long;
  kept = λ k ne. get_or-set_other old x k value [] ne;
  restored = λ full is agree. get_or-set_same old x value [] within ∙ restored full is agree;
}

-- ---- the data of a row that agrees with a full row

module _ (m len : ℕ) (old full : List (List ℕ)) (count : length old ≡ m + 2) (is : IsFullRow m len full) where
  data_long : length (take m old) ≡ length (take m full)
  data_long = length-take-le m old (omega arith) ∙ sym (length-row_data m len full is)

  data_count : length (take m old) ≡ m
  data_count = length-take-le m old (omega arith)

  same_data_at : (k : ℕ) → k < m → block_at old k ≡ block_at full k → get_or (take m old) k [] ≡ get_or (take m full) k []
  same_data_at k h e = get_or-take m old k [] h ∙ e ∙ sym (get_or-take m full k [] h)

  full_data_count : length (take m full) ≡ m
  full_data_count = length-row_data m len full is

  same_data_without : (x y : ℕ) → m ≤ y → AgreeBut x y old full → without len x (take m old) ≡ without len x (take m full)
  same_data_without x y past agree =
      same_without len x (take m old) (take m full) data_long
      (λ k h ne. same_data_at k (omega (arith, data_count)) (agree k ne (omega (arith, data_count))))

  same_data : (x y : ℕ) → m ≤ x → m ≤ y → AgreeBut x y old full → take m old ≡ take m full
  same_data x y hx hy agree =
      ext_get_or [] (take m old) (take m full) data_long
      (λ k h. same_data_at k (omega (arith, data_count)) (agree k (omega (arith, data_count)) (omega (arith, data_count))))

  -- Dx of P and the other data
  pub value_from_p : (x : ℕ) → x < m → AgreeBut x (m + 1) old full → block_sum (p_of len (without len x (take m old))) (block_at old m) ≡ block_at full x
  value_from_p x h agree =
      let gone : without len x (take m old) ≡ without len x (take m full) = same_data_without x (m + 1) (omega arith) agree in
      let p : block_at old m ≡ p_of len (take m full) = agree m (omega arith) (omega arith) ∙ block_at-p m len full is in
      (λ i. block_sum (p_of len (gone i)) (p i))
      ∙ block_from_p len x (take m full) (All-row_data m len full is) (omega (arith, full_data_count))
      ∙ get_or-take m full x [] h

  -- Dx of Q and the other data
  pub value_from_q : (x : ℕ) → x < m → m ≤ 255 → AgreeBut x m old full
      → scale (power generator (255 - x)) (block_sum (q_of len (without len x (take m old))) (block_at old (m + 1))) ≡ block_at full x
  value_from_q x h few agree =
      let gone : without len x (take m old) ≡ without len x (take m full) = same_data_without x m (omega arith) agree in
      let q : block_at old (m + 1) ≡ q_of len (take m full) = agree (m + 1) (omega arith) (omega arith) ∙ block_at-q m len full is in
      (λ i. scale (power generator (255 - x)) (block_sum (q_of len (gone i)) (q i)))
      ∙ block_from_q len x (take m full) (omega arith) (All-row_data m len full is) (omega (arith, full_data_count))
      ∙ get_or-take m full x [] h

  -- P of the other data and Dx
  pub value_with_lost : (x : ℕ) → x < m → AgreeBut x m old full → (lost : List ℕ) → lost ≡ block_at full x → block_sum (p_of len (without len x (take m old))) lost ≡ block_at full m
  value_with_lost x h agree lost lost_is =
      let gone : without len x (take m old) ≡ without len x (take m full) = same_data_without x m (omega arith) agree in
      (λ i. block_sum (p_of len (gone i)) ((lost_is ∙ sym (get_or-take m full x [] h)) i))
      ∙ p_from_block len x (take m full) (All-row_data m len full is) (omega (arith, full_data_count))
      ∙ sym (block_at-p m len full is)

  pub value_of_p : AgreeBut m (m + 1) old full → p_of len (take m old) ≡ block_at full m
  value_of_p agree = ap (p_of len) (same_data m (m + 1) (omega arith) (omega arith) agree) ∙ sym (block_at-p m len full is)

  pub value_of_q : AgreeBut (m + 1) m old full → q_of len (take m old) ≡ block_at full (m + 1)
  value_of_q agree = ap (q_of len) (same_data (m + 1) m (omega arith) (omega arith) agree) ∙ sym (block_at-q m len full is)

  -- the data without two blocks
  same_data_without_two : (x y : ℕ) → x ≢ y → AgreeBut x y old full → without len y (without len x (take m old)) ≡ without len y (without len x (take m full))
  same_data_without_two x y apart agree =
      let long' : length (without len x (take m old)) ≡ length (without len x (take m full)) =
      length-set (take m old) x (zeros len) ∙ data_long ∙ sym (length-set (take m full) x (zeros len)) in
      let whole : length (without len x (take m old)) ≡ m = length-set (take m old) x (zeros len) ∙ data_count in
      same_without len y (without len x (take m old)) (without len x (take m full)) long'
      (λ k h ny. ⊎_elim
      (λ (e : k ≡ x).
      subst (λ (j : ℕ). get_or (without len x (take m old)) j [] ≡ get_or (without len x (take m full)) j []) (sym e)
      (get_or-set_same (take m old) x (zeros len) [] (omega (arith, data_count)) ∙ sym (get_or-set_same (take m full) x (zeros len) [] (omega (arith, full_data_count)))))
      (λ (nx : k ≡ x → ⊥).
      get_or-set_other (take m old) x k (zeros len) [] nx ∙ same_data_at k (omega arith) (agree k nx ny) ∙ sym (get_or-set_other (take m full) x k (zeros len) [] nx))
      (cases_eq k x))

  module _ (x y : ℕ) (order : x < y) (h : y < m) (agree : AgreeBut x y old full) where
    rest_is : without len y (without len x (take m old)) ≡ without len y (without len x (take m full))
    rest_is = same_data_without_two x y (omega arith) agree

    p_is : block_at old m ≡ p_of len (take m full)
    p_is = agree m (omega arith) (omega arith) ∙ block_at-p m len full is

    q_is : block_at old (m + 1) ≡ q_of len (take m full)
    q_is = agree (m + 1) (omega arith) (omega arith) ∙ block_at-q m len full is

    -- Dx of two lost data blocks
    pub value_of_first : (a b : ℕ) → m ≤ 255 → AreFactors x y a b
        → block_sum
        (scale a (block_sum (p_of len (without len y (without len x (take m old)))) (block_at old m)))
        (scale b (block_sum (q_of len (without len y (without len x (take m old)))) (block_at old (m + 1))))
        ≡ block_at full x
    value_of_first a b few factors =
        (λ i. block_sum (scale a (block_sum (p_of len (rest_is i)) (p_is i))) (scale b (block_sum (q_of len (rest_is i)) (q_is i))))
        ∙ block_from_both len x y a b (take m full) order (omega arith) factors (All-row_data m len full is) (omega (arith, full_data_count))
        ∙ get_or-take m full x [] (omega arith)

    -- and then Dy
    pub value_of_second : (first : List ℕ) → first ≡ block_at full x
        → block_sum (block_sum (p_of len (without len y (without len x (take m old)))) (block_at old m)) first ≡ block_at full y
    value_of_second first first_is =
        let lower : first ≡ get_or (take m full) x [] = first_is ∙ sym (get_or-take m full x [] (omega arith)) in
        (λ i. block_sum (block_sum (p_of len (rest_is i)) (p_is i)) (lower i))
        ∙ second_from_p len x y (take m full) (omega arith) (All-row_data m len full is) (omega (arith, full_data_count)) (omega (arith, full_data_count))
        ∙ get_or-take m full y [] h

-- ---- one block after another

pub Restores-then : (m len x y z : ℕ) (old mid new : List (List ℕ)) → RestoresBlock m len x y old mid → RestoresBlock m len y z mid new → Restores m len x y old new
Restores-then m len x y z old mid new one two = record {
  count = two.count ∙ one.count;
  long = two.long;
  kept = λ k nx ny. two.kept k ny ∙ one.kept k nx;
  restored = λ full is agree.
      let mid_agrees : (k : ℕ) → k ≢ y → block_at mid k ≡ block_at full k =
      λ k ny. ⊎_elim
      (λ (e : k ≡ x). subst (λ (j : ℕ). block_at mid j ≡ block_at full j) (sym e) (one.restored full is agree))
      (λ (nx : k ≡ x → ⊥). one.kept k nx ∙ agree k nx ny)
      (cases_eq k x) in
      λ k. ⊎_elim
      (λ (e : k ≡ y). subst (λ (j : ℕ). block_at new j ≡ block_at full j) (sym e) (two.restored full is (λ j nj _. mid_agrees j nj)))
      (λ (ny : k ≡ y → ⊥). two.kept k ny ∙ mid_agrees k ny)
      (cases_eq k y);
}

-- ---- a row with two blocks written

pub Restores-set_two : (m len x y : ℕ) (old : List (List ℕ)) (first second : List ℕ) → All (λ block. length block ≡ len) old → length first ≡ len → length second ≡ len → x < y → y < length old
    → IsRestored m len x y old first → IsRestored m len y x old second → Restores m len x y old (set (set old x first) y second)
Restores-set_two m len x y old first second long first_long second_long before within first_restored second_restored =
    let whole : length (set old x first) ≡ length old = length-set old x first in
    let apart : x ≢ y = omega arith in
    let first_at : get_or (set (set old x first) y second) x [] ≡ first =
    get_or-set_other (set old x first) y x second [] apart ∙ get_or-set_same old x first [] (omega arith) in
    let second_at : get_or (set (set old x first) y second) y [] ≡ second = get_or-set_same (set old x first) y second [] (omega arith) in
    record {
      count = length-set (set old x first) y second ∙ whole;
      long = All-set (λ block. length block ≡ len) (set old x first) y second second_long (All-set (λ block. length block ≡ len) old x first first_long long);
      kept = λ k nx ny. get_or-set_other (set old x first) y k second [] ny ∙ get_or-set_other old x k first [] nx;
      restored = λ full is agree k. ⊎_elim
          (λ (e : k ≡ x). subst (λ (j : ℕ). block_at (set (set old x first) y second) j ≡ block_at full j) (sym e) (first_at ∙ first_restored full is agree))
          (λ (nx : k ≡ x → ⊥). ⊎_elim
          (λ (e : k ≡ y). subst (λ (j : ℕ). block_at (set (set old x first) y second) j ≡ block_at full j) (sym e) (second_at ∙ second_restored full is (λ j ny' nx'. agree j nx' ny')))
          (λ (ny : k ≡ y → ⊥). get_or-set_other (set old x first) y k second [] ny ∙ get_or-set_other old x k first [] nx ∙ agree k nx ny)
          (cases_eq k y))
          (cases_eq k x);
    }
