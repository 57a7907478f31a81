-- Full rows: one for each list of data, and determined by all blocks but two.
use Rattle.std.proofs.Common.{◌≡◌, ◌≢◌, ℕ, ◌+◌, ◌-◌, ◌<◌, ◌≤◌, List, [], ◌∷◌, ◌++◌, length, get_or, take, bit_xor, sym, ap, subst, ◌∙◌, arith, ⊎_elim}
use Rattle.std.specs.List.{All}
use Rattle.std.proofs.lemmas.Bool.{cases_eq, cases_lt}
use Rattle.std.proofs.lemmas.List.{get_or-set_other, get_or-set_same, length-set, length-take-le, length-append, get_or-take, get_or_at, get_or-append_right, take_at, take-append-drop, drop_more, drop_all, ext_get_or}
use Rattle.std.proofs.lemmas.List.Elements.{All-take, All-append, All-cons, All-nil}
use Rattle.r6_field.specs.Field.{product, power, generator, inverse}
use Rattle.r6_field.proofs.FieldLaws.{product-lt, product_comm, product_assoc, one-product, product-inverse, inverse-lt, power_of_generator-lt}
use Rattle.std.specs.Int.Bits.{xor_lt}
use Rattle.r6_kernels.specs.Blocks.{IsBlock, zeros, block_sum, scale, p_of, q_of, without}
use Rattle.r6_kernels.proofs.ParityLaws.{IsBlock-p_of, IsBlock-q_of}
use Rattle.r6_recover.specs.Rows.{block_at, data_of, IsFullRow, MeetsEquations, row_of, AgreeBut}
use Rattle.r6_recover.specs.Factors.{IsQuotient, AreFactors}
use Rattle.r6_recover.proofs.FactorLaws.{denominator-nonzero}
use Rattle.r6_recover.proofs.RecoveryLaws.{block_from_p, block_from_q, block_from_both, second_from_p}

-- ---- a full row is its data, followed by their P and Q

pub length-row_data : (m len : ℕ) (row : List (List ℕ)) → IsFullRow m len row → length (take m row) ≡ m
length-row_data m len row is = let count : length row ≡ m + 2 = is.count in length-take-le m row (omega arith)

pub All-row_data : (m len : ℕ) (row : List (List ℕ)) → IsFullRow m len row → All (IsBlock len) (take m row)
All-row_data m len row is = All-take (IsBlock len) m row is.full.sized

pub full_row-eq : (m len : ℕ) (row : List (List ℕ)) → IsFullRow m len row → row ≡ row_of len (take m row)
full_row-eq m len row is =
    let count : length row ≡ m + 2 = is.count in
    let data_count : length row - 2 ≡ m = omega arith in
    sym is.full.parities ∙ ap (λ (n : ℕ). row_of len (take n row)) data_count

-- ---- the row of some data

module _ (m len : ℕ) (data' : List (List ℕ)) (count : length data' ≡ m) where
  pub length-row_of : length (row_of len data') ≡ m + 2
  length-row_of = length-append data' (p_of len data' ∷ q_of len data' ∷ []) ∙ ap (λ (n : ℕ). n + 2) count

  pub take-row_of : take m (row_of len data') ≡ data'
  take-row_of = take_at data' (p_of len data' ∷ q_of len data' ∷ []) m count

  pub data_of-row_of : data_of (row_of len data') ≡ data'
  data_of-row_of =
      let whole : length (row_of len data') ≡ m + 2 = length-row_of in
      let data_count : length (row_of len data') - 2 ≡ m = omega arith in
      ap (λ (n : ℕ). take n (row_of len data')) data_count ∙ take-row_of

  pub block_at-row_of-p : block_at (row_of len data') m ≡ p_of len data'
  block_at-row_of-p = get_or_at data' (p_of len data') (q_of len data' ∷ []) [] m count

  pub block_at-row_of-q : block_at (row_of len data') (m + 1) ≡ q_of len data'
  block_at-row_of-q =
      let after : ◌≡◌ {A = ℕ} (m + 1 - m) 1 = omega arith in
      get_or-append_right data' (p_of len data' ∷ q_of len data' ∷ []) m (m + 1) [] count (omega arith)
      ∙ ap (λ (n : ℕ). get_or (p_of len data' ∷ q_of len data' ∷ []) n []) after

  -- each list of data blocks has a full row
  pub IsFullRow-row_of : All (IsBlock len) data' → IsFullRow m len (row_of len data')
  IsFullRow-row_of all = record {
    count = length-row_of;
    full = record {
      sized = All-append (IsBlock len) data' (p_of len data' ∷ q_of len data' ∷ []) all
          (All-cons (IsBlock len) (p_of len data') (q_of len data' ∷ []) (IsBlock-p_of len data' all)
          (All-cons (IsBlock len) (q_of len data') [] (IsBlock-q_of len data' all) (All-nil (IsBlock len))));
      parities = ap (row_of len) data_of-row_of;
    };
  }

-- ---- a full row meets both equations, and a row that does is full

module _ (m len : ℕ) (row : List (List ℕ)) where
  pub block_at-p : IsFullRow m len row → block_at row m ≡ p_of len (take m row)
  block_at-p is = ap (λ (r : List (List ℕ)). block_at r m) (full_row-eq m len row is) ∙ block_at-row_of-p m len (take m row) (length-row_data m len row is)

  pub block_at-q : IsFullRow m len row → block_at row (m + 1) ≡ q_of len (take m row)
  block_at-q is = ap (λ (r : List (List ℕ)). block_at r (m + 1)) (full_row-eq m len row is) ∙ block_at-row_of-q m len (take m row) (length-row_data m len row is)

  pub MeetsEquations-full_row : IsFullRow m len row → MeetsEquations m len row
  MeetsEquations-full_row is = record { count = is.count; sized = is.full.sized; p = block_at-p is; q = block_at-q is }

  pub IsFullRow-equations : MeetsEquations m len row → IsFullRow m len row
  IsFullRow-equations meets =
      let count : length row ≡ m + 2 = meets.count in
      let data_count : m ≡ length row - 2 = omega arith in
      let next : m + 1 + 1 ≡ m + 2 = omega arith in
      record {
        count = meets.count;
        full = record {
          sized = meets.sized;
          parities = sym (sym (take-append-drop m row)
              ∙ ap (λ (rest : List (List ℕ)). take m row ++ rest)
              (drop_more row m [] (omega arith)
              ∙ (λ i. meets.p i ∷ drop_more row (m + 1) [] (omega arith) i)
              ∙ (λ i. p_of len (take m row) ∷ meets.q i ∷ drop_all (m + 1 + 1) row (omega arith) i))
              ∙ ap (λ (n : ℕ). row_of len (take n row)) data_count);
        };
      }

-- ---- data that are the same but for blocks that P or Q tell

pub same_without : (len x : ℕ) (data' other : List (List ℕ)) → length data' ≡ length other → ((k : ℕ) → k < length data' → k ≢ x → get_or data' k [] ≡ get_or other k [])
    → without len x data' ≡ without len x other
same_without len x data' other long same =
    let long' : length (without len x data') ≡ length (without len x other) = length-set data' x (zeros len) ∙ long ∙ sym (length-set other x (zeros len)) in
    let whole : length (without len x data') ≡ length data' = length-set data' x (zeros len) in
    ext_get_or [] (without len x data') (without len x other) long'
    (λ k h. ⊎_elim
    (λ (e : k ≡ x).
    subst (λ (j : ℕ). get_or (without len x data') j [] ≡ get_or (without len x other) j []) (sym e)
    (get_or-set_same data' x (zeros len) [] (omega arith) ∙ sym (get_or-set_same other x (zeros len) [] (omega arith))))
    (λ (ne : k ≡ x → ⊥).
    get_or-set_other data' x k (zeros len) [] ne ∙ same k (omega arith) ne ∙ sym (get_or-set_other other x k (zeros len) [] ne))
    (cases_eq k x))

-- the same at x too
same_with : (x : ℕ) (data' other : List (List ℕ)) → length data' ≡ length other → get_or data' x [] ≡ get_or other x []
    → ((k : ℕ) → k < length data' → k ≢ x → get_or data' k [] ≡ get_or other k []) → data' ≡ other
same_with x data' other long at same =
    ext_get_or [] data' other long
    (λ k h. ⊎_elim
    (λ (e : k ≡ x). subst (λ (j : ℕ). get_or data' j [] ≡ get_or other j []) (sym e) at)
    (λ (ne : k ≡ x → ⊥). same k h ne)
    (cases_eq k x))

same_by_p : (len x : ℕ) (data' other : List (List ℕ)) → length data' ≡ length other → All (IsBlock len) data' → All (IsBlock len) other → x < length data'
    → p_of len data' ≡ p_of len other → ((k : ℕ) → k < length data' → k ≢ x → get_or data' k [] ≡ get_or other k []) → data' ≡ other
same_by_p len x data' other long all all' h p same =
    let gone : without len x data' ≡ without len x other = same_without len x data' other long same in
    same_with x data' other long
    (sym (block_from_p len x data' all h) ∙ (λ i. block_sum (p_of len (gone i)) (p i)) ∙ block_from_p len x other all' (omega arith))
    same

same_by_q : (len x : ℕ) (data' other : List (List ℕ)) → length data' ≡ length other → All (IsBlock len) data' → All (IsBlock len) other → x < 255 → x < length data'
    → q_of len data' ≡ q_of len other → ((k : ℕ) → k < length data' → k ≢ x → get_or data' k [] ≡ get_or other k []) → data' ≡ other
same_by_q len x data' other long all all' below h q same =
    let gone : without len x data' ≡ without len x other = same_without len x data' other long same in
    same_with x data' other long
    (sym (block_from_q len x data' below all h) ∙ (λ i. scale (power generator (255 - x)) (block_sum (q_of len (gone i)) (q i))) ∙ block_from_q len x other below all' (omega arith))
    same

-- ---- the factors are there

pub IsQuotient-inverse : (a b : ℕ) → a < 256 → b < 256 → b ≢ 0 → IsQuotient a b (product a (inverse b))
IsQuotient-inverse a b ha hb ne = record {
  byte = product-lt a (inverse b) ha (inverse-lt b hb);
  times = ap (product b) (product_comm a (inverse b) ha (inverse-lt b hb))
      ∙ sym (product_assoc b (inverse b) a hb (inverse-lt b hb) ha)
      ∙ ap (λ (n : ℕ). product n a) (product-inverse b hb ne)
      ∙ one-product a ha;
}

-- A and B of x and y
pub factor_of_p : ℕ → ℕ → ℕ
factor_of_p x y = product (power generator (y - x)) (inverse (bit_xor (power generator (y - x)) 1))

pub factor_of_q : ℕ → ℕ → ℕ
factor_of_q x y = product (power generator (255 - x)) (inverse (bit_xor (power generator (y - x)) 1))

pub AreFactors-factors : (x y : ℕ) → x < y → y < 255 → AreFactors x y (factor_of_p x y) (factor_of_q x y)
unfolding factor_of_p factor_of_q
AreFactors-factors x y order below =
    let ratio : ℕ = power generator (y - x) in
    let ratio_byte : ratio < 256 = power_of_generator-lt (y - x) in
    let byte : bit_xor ratio 1 < 256 = xor_lt 8 ratio 1 ratio_byte (omega arith) in
    let nonzero : bit_xor ratio 1 ≢ 0 = denominator-nonzero (y - x) (omega arith) (omega arith) in
    record {
      of_p = IsQuotient-inverse ratio (bit_xor ratio 1) ratio_byte byte nonzero;
      of_q = IsQuotient-inverse (power generator (255 - x)) (bit_xor ratio 1) (power_of_generator-lt (255 - x)) byte nonzero;
    }

same_by_both : (len x y : ℕ) (data' other : List (List ℕ)) → length data' ≡ length other → All (IsBlock len) data' → All (IsBlock len) other → x < y → y < 255 → y < length data'
    → p_of len data' ≡ p_of len other → q_of len data' ≡ q_of len other
    → ((k : ℕ) → k < length data' → k ≢ x → k ≢ y → get_or data' k [] ≡ get_or other k []) → data' ≡ other
same_by_both len x y data' other long all all' order below h p q same =
    let a : ℕ = factor_of_p x y in
    let b : ℕ = factor_of_q x y in
    let factors : AreFactors x y a b = AreFactors-factors x y order below in
    let apart : y ≢ x = omega arith in
    let long' : length (without len x data') ≡ length (without len x other) = length-set data' x (zeros len) ∙ long ∙ sym (length-set other x (zeros len)) in
    let whole : length (without len x data') ≡ length data' = length-set data' x (zeros len) in
    let gone : without len y (without len x data') ≡ without len y (without len x other) =
    same_without len y (without len x data') (without len x other) long'
    (λ k hk ne. ⊎_elim
    (λ (e : k ≡ x).
    subst (λ (j : ℕ). get_or (without len x data') j [] ≡ get_or (without len x other) j []) (sym e)
    (get_or-set_same data' x (zeros len) [] (omega arith) ∙ sym (get_or-set_same other x (zeros len) [] (omega arith))))
    (λ (other_place : k ≡ x → ⊥).
    get_or-set_other data' x k (zeros len) [] other_place ∙ same k (omega arith) other_place ne ∙ sym (get_or-set_other other x k (zeros len) [] other_place))
    (cases_eq k x)) in
    let first : get_or data' x [] ≡ get_or other x [] =
    sym (block_from_both len x y a b data' order below factors all h)
    ∙ (λ i. block_sum (scale a (block_sum (p_of len (gone i)) (p i))) (scale b (block_sum (q_of len (gone i)) (q i))))
    ∙ block_from_both len x y a b other order below factors all' (omega arith) in
    let second : get_or data' y [] ≡ get_or other y [] =
    sym (second_from_p len x y data' (λ e. apart (sym e)) all (omega arith) h)
    ∙ (λ i. block_sum (block_sum (p_of len (gone i)) (p i)) (first i))
    ∙ second_from_p len x y other (λ e. apart (sym e)) all' (omega arith) (omega arith) in
    same_with x data' other long first
    (λ k hk ne. ⊎_elim
    (λ (e : k ≡ y). subst (λ (j : ℕ). get_or data' j [] ≡ get_or other j []) (sym e) second)
    (λ (other_place : k ≡ y → ⊥). same k hk ne other_place)
    (cases_eq k y))

-- ---- two full rows that agree at all positions but two are equal

module _ (m len : ℕ) (row other : List (List ℕ)) (few : m ≤ 255) (full : IsFullRow m len row) (full' : IsFullRow m len other) where
  same_length : length (take m row) ≡ length (take m other)
  same_length = length-row_data m len row full ∙ sym (length-row_data m len other full')

  data_count : length (take m row) ≡ m
  data_count = length-row_data m len row full

  same_data_at : (k : ℕ) → k < m → block_at row k ≡ block_at other k → get_or (take m row) k [] ≡ get_or (take m other) k []
  same_data_at k h e = get_or-take m row k [] h ∙ e ∙ sym (get_or-take m other k [] h)

  same_p : block_at row m ≡ block_at other m → p_of len (take m row) ≡ p_of len (take m other)
  same_p e = sym (block_at-p m len row full) ∙ e ∙ block_at-p m len other full'

  same_q : block_at row (m + 1) ≡ block_at other (m + 1) → q_of len (take m row) ≡ q_of len (take m other)
  same_q e = sym (block_at-q m len row full) ∙ e ∙ block_at-q m len other full'

  same_from_data : take m row ≡ take m other → row ≡ other
  same_from_data e = full_row-eq m len row full ∙ ap (row_of len) e ∙ sym (full_row-eq m len other full')

  -- both are data blocks
  two_data : (x y : ℕ) → x < y → y < m → AgreeBut x y row other → row ≡ other
  two_data x y order h agree =
      same_from_data (same_by_both len x y (take m row) (take m other) same_length (All-row_data m len row full) (All-row_data m len other full')
      order (omega arith) (omega (arith, data_count))
      (same_p (agree m (omega arith) (omega arith))) (same_q (agree (m + 1) (omega arith) (omega arith)))
      (λ k hk nx ny. same_data_at k (omega (arith, data_count)) (agree k nx ny)))

  -- the other is not a data block
  one_data : (x y : ℕ) → x < m → m ≤ y → AgreeBut x y row other → row ≡ other
  one_data x y hx hy agree =
      ⊎_elim
      (λ (p_lost : y ≡ m).
      same_from_data (same_by_q len x (take m row) (take m other) same_length (All-row_data m len row full) (All-row_data m len other full')
      (omega arith) (omega (arith, data_count))
      (same_q (agree (m + 1) (omega arith) (omega arith)))
      (λ k hk nx. same_data_at k (omega (arith, data_count)) (agree k nx (omega (arith, data_count))))))
      (λ (ne : y ≡ m → ⊥).
      same_from_data (same_by_p len x (take m row) (take m other) same_length (All-row_data m len row full) (All-row_data m len other full')
      (omega (arith, data_count))
      (same_p (agree m (omega arith) (λ e. ne (sym e))))
      (λ k hk nx. same_data_at k (omega (arith, data_count)) (agree k nx (omega (arith, data_count))))))
      (cases_eq y m)

  no_data : (x y : ℕ) → m ≤ x → m ≤ y → AgreeBut x y row other → row ≡ other
  no_data x y hx hy agree =
      same_from_data (ext_get_or [] (take m row) (take m other) same_length
      (λ k hk. same_data_at k (omega (arith, data_count)) (agree k (omega (arith, data_count)) (omega (arith, data_count)))))

  turned : (x y : ℕ) → AgreeBut x y row other → AgreeBut y x row other
  turned x y agree = λ k ny nx. agree k nx ny

  -- one data block alone
  one_alone : (x : ℕ) → x < m → AgreeBut x x row other → row ≡ other
  one_alone x h agree = one_data x (m + 1) h (omega arith) (λ k nx ny. agree k nx nx)

  pub same_full_row : (x y : ℕ) → AgreeBut x y row other → row ≡ other
  same_full_row x y agree =
      ⊎_elim
      (λ (hx : x < m).
      ⊎_elim
      (λ (hy : y < m).
      ⊎_elim
      (λ (lt : x < y). two_data x y lt hy agree)
      (λ (ge : y ≤ x).
      ⊎_elim
      (λ (e : x ≡ y). one_alone x hx (subst (λ (z : ℕ). AgreeBut x z row other) (sym e) agree))
      (λ (ne : x ≡ y → ⊥). two_data y x (omega arith) hx (turned x y agree))
      (cases_eq x y))
      (cases_lt x y))
      (λ (hy : m ≤ y). one_data x y hx hy agree)
      (cases_lt y m))
      (λ (hx : m ≤ x).
      ⊎_elim
      (λ (hy : y < m). one_data y x hy hx (turned x y agree))
      (λ (hy : m ≤ y). no_data x y hx hy agree)
      (cases_lt y m))
      (cases_lt x m)
