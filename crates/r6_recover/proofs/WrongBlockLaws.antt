-- One block of a full row, replaced: the class of the row names its position.
use Rattle.std.proofs.Common.{◌≡◌, ◌≢◌, ℕ, ◌+◌, ◌-◌, ◌<◌, ◌≤◌, List, [], ◌∷◌, ◌++◌, length, get_or, set, take, refl, sym, ap, subst, ◌∙◌, arith}
use Rattle.std.specs.List.{All}
use Rattle.std.proofs.lemmas.List.{get_or-replicate, length-replicate, length-append, take_at, get_or_at, get_or-append_right, set-append_left, set_at, set-append_right, length-set, ext_get_or, get_or-take}
use Rattle.std.proofs.lemmas.List.Elements.{All-nil, All-cons, All-append, All-get_or, All-set, All-replicate, All-same}
use Rattle.r6_field.specs.Field.{power, generator}
use Rattle.r6_field.proofs.FieldLaws.{product_comm, product-opposite_powers, power_of_generator-lt}
use Rattle.r6_kernels.specs.Blocks.{IsBlock, zeros, block_sum, scale, p_of, q_of}
use Rattle.r6_kernels.proofs.BlockLaws.{block_sum_comm, block_sum-self, block_sum_twice, zeros-block_sum, scale-scale, scale-zeros, one-scale, IsBlock-block_sum, IsBlock-scale}
use Rattle.r6_kernels.proofs.ParityLaws.{IsBlock-p_of, IsBlock-q_of, p_of-set, q_of-set}
use Rattle.r6_recover.specs.Rows.{block_at, block_length, IsFullRow}
use Rattle.r6_recover.specs.Classes.{p_difference, q_difference, IsZero, HasClass}
use Rattle.r6_recover.specs.declared.class.RowClass.TheVariants.{WrongP, WrongQ, WrongData}
use Rattle.r6_recover.proofs.RowLaws.{full_row-eq, length-row_data, All-row_data, block_at-p, block_at-q}

-- ---- zeros

IsZero-eq : (len : ℕ) (block : List ℕ) → length block ≡ len → IsZero block → block ≡ zeros len
IsZero-eq len block long zero' =
    let zeros_long : length (zeros len) ≡ len = length-replicate len 0 in
    ext_get_or 0 block (zeros len) (long ∙ sym zeros_long) (λ k h. zero' k 0 h ∙ sym (get_or-replicate len k 0 0 (omega arith)))

pub IsZero-zeros : (len : ℕ) (block : List ℕ) → block ≡ zeros len → IsZero block
IsZero-zeros len block e = All-same (λ byte. byte ≡ 0) block (zeros len) e (All-replicate (λ byte. byte ≡ 0) len 0 refl)

-- two blocks whose sum is zero are equal
pub same_from_block_sum : (len : ℕ) (a b : List ℕ) → IsBlock len a → IsBlock len b → IsZero (block_sum a b) → a ≡ b
same_from_block_sum len a b ha hb none =
    let sum_is : IsBlock len (block_sum a b) = IsBlock-block_sum len a b ha hb in
    sym (block_sum_twice len a b ha.length_is hb.length_is)
    ∙ ap (λ (sum : List ℕ). block_sum sum b) (IsZero-eq len (block_sum a b) sum_is.length_is none)
    ∙ zeros-block_sum len b hb.length_is

-- a power of g times a block is zero only where the block is
zero_from_scale : (len k : ℕ) (block : List ℕ) → k < 255 → IsBlock len block → IsZero (scale (power generator k) block) → IsZero block
zero_from_scale len k block below is none =
    let gk : ℕ = power generator k in
    let back : ℕ = power generator (255 - k) in
    let gk_byte : gk < 256 = power_of_generator-lt k in
    let back_byte : back < 256 = power_of_generator-lt (255 - k) in
    let scaled_is : IsBlock len (scale gk block) = IsBlock-scale len gk block gk_byte is in
    IsZero-zeros len block
    (sym (one-scale block is.bytes)
    ∙ ap (λ (c : ℕ). scale c block) (sym (product_comm back gk back_byte gk_byte ∙ product-opposite_powers k below))
    ∙ sym (scale-scale back gk block back_byte gk_byte is.bytes)
    ∙ ap (scale back) (IsZero-eq len (scale gk block) scaled_is.length_is none)
    ∙ scale-zeros back len)

-- ---- the differences of a row that is given by its parts

module _ (m len : ℕ) (data' : List (List ℕ)) (p q : List ℕ) (count : length data' ≡ m) (all : All (IsBlock len) data') (p_is : IsBlock len p) (q_is : IsBlock len q) where
  row_count : length (data' ++ p ∷ q ∷ []) ≡ m + 2
  row_count = length-append data' (p ∷ q ∷ []) ∙ ap (λ (n : ℕ). n + 2) count

  size : length (data' ++ p ∷ q ∷ []) - 2 ≡ m
  size = omega (arith, row_count)

  all_row : All (IsBlock len) (data' ++ p ∷ q ∷ [])
  all_row = All-append (IsBlock len) data' (p ∷ q ∷ []) all (All-cons (IsBlock len) p (q ∷ []) p_is (All-cons (IsBlock len) q [] q_is (All-nil (IsBlock len))))

  bytes : block_length (data' ++ p ∷ q ∷ []) ≡ len
  bytes = (All-get_or (IsBlock len) (data' ++ p ∷ q ∷ []) 0 [] (omega (arith, row_count)) all_row).length_is

  data_of_row : take (length (data' ++ p ∷ q ∷ []) - 2) (data' ++ p ∷ q ∷ []) ≡ data'
  data_of_row = ap (λ (n : ℕ). take n (data' ++ p ∷ q ∷ [])) size ∙ take_at data' (p ∷ q ∷ []) m count

  after : ◌≡◌ {A = ℕ} (m + 1 - m) 1
  after = omega arith

  pub p_difference-parts : p_difference (data' ++ p ∷ q ∷ []) ≡ block_sum (p_of len data') p
  p_difference-parts =
      (λ i. block_sum (p_of (bytes i) (data_of_row i)) (block_at (data' ++ p ∷ q ∷ []) (size i)))
      ∙ ap (block_sum (p_of len data')) (get_or_at data' p (q ∷ []) [] m count)

  pub q_difference-parts : q_difference (data' ++ p ∷ q ∷ []) ≡ block_sum (q_of len data') q
  q_difference-parts =
      (λ i. block_sum (q_of (bytes i) (data_of_row i)) (block_at (data' ++ p ∷ q ∷ []) (size i + 1)))
      ∙ ap (block_sum (q_of len data'))
      (get_or-append_right data' (p ∷ q ∷ []) m (m + 1) [] count (omega arith) ∙ ap (λ (n : ℕ). get_or (p ∷ q ∷ []) n []) after)

-- ---- one block replaced

module _ (m len : ℕ) (full : List (List ℕ)) (block : List ℕ) (few : m ≤ 255) (is : IsFullRow m len full) (block_is : IsBlock len block) where
  d_count : length (take m full) ≡ m
  d_count = length-row_data m len full is

  d_all : All (IsBlock len) (take m full)
  d_all = All-row_data m len full is

  P-is : IsBlock len (p_of len (take m full))
  P-is = IsBlock-p_of len (take m full) d_all

  Q-is : IsBlock len (q_of len (take m full))
  Q-is = IsBlock-q_of len (take m full) d_all

  pub HasClass-wrong_p : block ≢ block_at full m → HasClass (set full m block) WrongP
  HasClass-wrong_p ne =
      let P : List ℕ = p_of len (take m full) in
      let Q : List ℕ = q_of len (take m full) in
      let written : set full m block ≡ take m full ++ block ∷ Q ∷ [] =
      ap (λ (r : List (List ℕ)). set r m block) (full_row-eq m len full is) ∙ set_at (take m full) P (Q ∷ []) block m d_count in
      let p : p_difference (take m full ++ block ∷ Q ∷ []) ≡ block_sum P block = p_difference-parts m len (take m full) block Q d_count d_all block_is Q-is in
      let q : q_difference (take m full ++ block ∷ Q ∷ []) ≡ block_sum Q Q = q_difference-parts m len (take m full) block Q d_count d_all block_is Q-is in
      subst (λ (r : List (List ℕ)). HasClass r WrongP) (sym written) (
        λ none. ne (sym (same_from_block_sum len P block P-is block_is (subst IsZero p none)) ∙ sym (block_at-p m len full is)),
        IsZero-zeros len (q_difference (take m full ++ block ∷ Q ∷ [])) (q ∙ block_sum-self len Q Q-is.length_is),
      )

  pub HasClass-wrong_q : block ≢ block_at full (m + 1) → HasClass (set full (m + 1) block) WrongQ
  HasClass-wrong_q ne =
      let P : List ℕ = p_of len (take m full) in
      let Q : List ℕ = q_of len (take m full) in
      let step : ◌≡◌ {A = ℕ} (m + 1 - m) 1 = omega arith in
      let written : set full (m + 1) block ≡ take m full ++ P ∷ block ∷ [] =
      ap (λ (r : List (List ℕ)). set r (m + 1) block) (full_row-eq m len full is)
      ∙ set-append_right (take m full) (P ∷ Q ∷ []) m (m + 1) block d_count (omega arith)
      ∙ ap (λ (i : ℕ). take m full ++ set (P ∷ Q ∷ []) i block) step in
      let p : p_difference (take m full ++ P ∷ block ∷ []) ≡ block_sum P P = p_difference-parts m len (take m full) P block d_count d_all P-is block_is in
      let q : q_difference (take m full ++ P ∷ block ∷ []) ≡ block_sum Q block = q_difference-parts m len (take m full) P block d_count d_all P-is block_is in
      subst (λ (r : List (List ℕ)). HasClass r WrongQ) (sym written) (
        IsZero-zeros len (p_difference (take m full ++ P ∷ block ∷ [])) (p ∙ block_sum-self len P P-is.length_is),
        λ none. ne (sym (same_from_block_sum len Q block Q-is block_is (subst IsZero q none)) ∙ sym (block_at-q m len full is)),
      )

  pub HasClass-wrong_data : (k : ℕ) → k < m → block ≢ block_at full k → HasClass (set full k block) (WrongData k)
  HasClass-wrong_data k h ne =
      let P : List ℕ = p_of len (take m full) in
      let Q : List ℕ = q_of len (take m full) in
      let gk : ℕ = power generator k in
      let gk_byte : gk < 256 = power_of_generator-lt k in
      let old : List ℕ = get_or (take m full) k [] in
      let within : k < length (take m full) = omega (arith, d_count) in
      let old_is : IsBlock len old = All-get_or (IsBlock len) (take m full) k [] within d_all in
      let changed : List ℕ = block_sum old block in
      let changed_is : IsBlock len changed = IsBlock-block_sum len old block old_is block_is in
      let weighed_is : IsBlock len (scale gk changed) = IsBlock-scale len gk changed gk_byte changed_is in
      let data'' : List (List ℕ) = set (take m full) k block in
      let count'' : length data'' ≡ m = length-set (take m full) k block ∙ d_count in
      let all'' : All (IsBlock len) data'' = All-set (IsBlock len) (take m full) k block block_is d_all in
      let written : set full k block ≡ data'' ++ P ∷ Q ∷ [] =
      ap (λ (r : List (List ℕ)). set r k block) (full_row-eq m len full is) ∙ set-append_left (take m full) (P ∷ Q ∷ []) k block within in
      let p : p_difference (data'' ++ P ∷ Q ∷ []) ≡ changed =
      p_difference-parts m len data'' P Q count'' all'' P-is Q-is
      ∙ ap (λ (sum : List ℕ). block_sum sum P) (p_of-set len k (take m full) block d_all block_is within ∙ block_sum_comm P changed)
      ∙ block_sum_twice len changed P changed_is.length_is P-is.length_is in
      let q : q_difference (data'' ++ P ∷ Q ∷ []) ≡ scale gk changed =
      q_difference-parts m len data'' P Q count'' all'' P-is Q-is
      ∙ ap (λ (sum : List ℕ). block_sum sum Q) (q_of-set len k (take m full) block d_all block_is within ∙ block_sum_comm Q (scale gk changed))
      ∙ block_sum_twice len (scale gk changed) Q weighed_is.length_is Q-is.length_is in
      let size'' : length (data'' ++ P ∷ Q ∷ []) ≡ length data'' + 2 = length-append data'' (P ∷ Q ∷ []) in
      let differs : IsZero changed → ⊥ = λ none. ne (sym (same_from_block_sum len old block old_is block_is none) ∙ get_or-take m full k [] h) in
      subst (λ (r : List (List ℕ)). HasClass r (WrongData k)) (sym written) (
        λ none. differs (subst IsZero p none),
        λ none. differs (zero_from_scale len k changed (omega arith) changed_is (subst IsZero q none)),
        omega (arith, count''),
        q ∙ ap (scale gk) (sym p),
      )
