-- A row has one class at most, and the class of a full row with one wrong block names its position.
use Rattle.std.proofs.Common.{◌≡◌, ◌≢◌, ℕ, ◌+◌, ◌-◌, ◌<◌, ◌≤◌, List, [], length, get_or, set, take, refl, sym, ap, subst, ◌∙◌, arith, ⊎_elim}
use Rattle.std.specs.List.{All}
use Rattle.std.proofs.lemmas.Bool.{cases_eq, cases_lt}
use Rattle.std.proofs.lemmas.List.{length-set}
use Rattle.std.proofs.lemmas.List.Elements.{All-get_or, All-take, All-set, All-from_get_or}
use Rattle.r6_field.specs.Field.{product, power, generator}
use Rattle.r6_field.proofs.FieldLaws.{product_comm, product_cancel_left, power_of_generator-lt, same_exponent}
use Rattle.r6_kernels.specs.Blocks.{IsBlock, block_sum, scale, p_of, q_of}
use Rattle.r6_kernels.proofs.BlockLaws.{block_sum-self, IsBlock-block_sum}
use Rattle.r6_kernels.proofs.Loops.{get_or-scale}
use Rattle.r6_kernels.proofs.ParityLaws.{IsBlock-p_of, IsBlock-q_of}
use Rattle.r6_recover.specs.Rows.{block_at, block_length, IsFull, IsFullRow}
use Rattle.r6_recover.specs.Classes.{p_difference, q_difference, IsZero, IsWrongAt, HasClass, NamesPosition, NamesWrongBlock}
use Rattle.r6_recover.specs.declared.class.RowClass.{RowClass}
use Rattle.r6_recover.specs.declared.class.RowClass.TheVariants.{Consistent, WrongP, WrongQ, WrongData, Many}
use Rattle.r6_recover.proofs.RowLaws.{IsFullRow-equations, block_at-p, block_at-q}
use Rattle.r6_recover.proofs.WrongBlockLaws.{IsZero-zeros, same_from_block_sum, HasClass-wrong_data, HasClass-wrong_p, HasClass-wrong_q}

-- a block that is not zero tells by which power of the generator it was multiplied
pub same_place : (len z other : ℕ) (p q : List ℕ) → z < 255 → other < 255 → IsBlock len p → (IsZero p → ⊥)
    → q ≡ scale (power generator z) p → q ≡ scale (power generator other) p → z ≡ other
same_place len z other p q z_below other_below is not_zero one two =
    ⊎_elim
    (λ (same : z ≡ other). same)
    (λ (apart : z ≡ other → ⊥). absurd (not_zero (All-from_get_or (λ byte. byte ≡ 0) p 0 (λ k h.
    let byte : ℕ = get_or p k 0 in
    let byte_lt : byte < 256 = is.bytes k 0 h in
    let gz : ℕ = power generator z in
    let go : ℕ = power generator other in
    let gz_byte : gz < 256 = power_of_generator-lt z in
    let go_byte : go < 256 = power_of_generator-lt other in
    let products : product gz byte ≡ product go byte =
    sym (get_or-scale gz p k h) ∙ ap (λ (block : List ℕ). get_or block k 0) (sym one ∙ two) ∙ get_or-scale go p k h in
    ⊎_elim
    (λ (zero_byte : byte ≡ 0). zero_byte)
    (λ (nonzero : byte ≡ 0 → ⊥).
    absurd (apart (same_exponent z other z_below other_below
    (product_cancel_left byte gz go byte_lt gz_byte go_byte nonzero
    (product_comm byte gz byte_lt gz_byte ∙ products ∙ product_comm go byte go_byte byte_lt)))))
    (cases_eq byte 0)))))
    (cases_eq z other)

module _ (m len : ℕ) (row : List (List ℕ)) (count : length row ≡ m + 2) (all : All (IsBlock len) row) where
  bytes : block_length row ≡ len
  bytes = (All-get_or (IsBlock len) row 0 [] (omega arith) all).length_is

  data_count : length row - 2 ≡ m
  data_count = omega arith

  data_all : All (IsBlock len) (take m row)
  data_all = All-take (IsBlock len) m row all

  p_is : IsBlock len (block_at row m)
  p_is = All-get_or (IsBlock len) row m [] (omega arith) all

  q_is : IsBlock len (block_at row (m + 1))
  q_is = All-get_or (IsBlock len) row (m + 1) [] (omega arith) all

  p_difference-eq : p_difference row ≡ block_sum (p_of len (take m row)) (block_at row m)
  p_difference-eq = λ i. block_sum (p_of (bytes i) (take (data_count i) row)) (block_at row (data_count i))

  q_difference-eq : q_difference row ≡ block_sum (q_of len (take m row)) (block_at row (m + 1))
  q_difference-eq = λ i. block_sum (q_of (bytes i) (take (data_count i) row)) (block_at row (data_count i + 1))

  p_difference-is : IsBlock len (p_difference row)
  p_difference-is = subst (IsBlock len) (sym p_difference-eq) (IsBlock-block_sum len (p_of len (take m row)) (block_at row m) (IsBlock-p_of len (take m row) data_all) p_is)

  same_wrong_data : (z other : ℕ) → m ≤ 255 → z < length row - 2 → other < length row - 2 → (IsZero (p_difference row) → ⊥) → IsWrongAt row z → IsWrongAt row other → z ≡ other
  same_wrong_data z other few h h' not_zero one two =
      same_place len z other (p_difference row) (q_difference row) (omega arith) (omega arith) p_difference-is not_zero one two

  pub same_class : m ≤ 255 → (class other : RowClass) → HasClass row class → HasClass row other → class ≡ other
  same_class few Consistent Consistent one two = refl
  same_class few Consistent WrongP one two = absurd (two.0 one.0)
  same_class few Consistent WrongQ one two = absurd (two.1 one.1)
  same_class few Consistent (WrongData z) one two = absurd (two.0 one.0)
  same_class few Consistent Many one two = absurd (two.0 one.0)
  same_class few WrongP Consistent one two = absurd (one.0 two.0)
  same_class few WrongP WrongP one two = refl
  same_class few WrongP WrongQ one two = absurd (one.0 two.0)
  same_class few WrongP (WrongData z) one two = absurd (two.1 one.1)
  same_class few WrongP Many one two = absurd (two.1 one.1)
  same_class few WrongQ Consistent one two = absurd (one.1 two.1)
  same_class few WrongQ WrongP one two = absurd (two.0 one.0)
  same_class few WrongQ WrongQ one two = refl
  same_class few WrongQ (WrongData z) one two = absurd (two.0 one.0)
  same_class few WrongQ Many one two = absurd (two.0 one.0)
  same_class few (WrongData z) Consistent one two = absurd (one.0 two.0)
  same_class few (WrongData z) WrongP one two = absurd (one.1 two.1)
  same_class few (WrongData z) WrongQ one two = absurd (one.0 two.0)
  same_class few (WrongData z) (WrongData other) one two = ap WrongData (same_wrong_data z other few one.2 two.2 one.0 one.3 two.3)
  same_class few (WrongData z) Many one two = absurd (two.2 z one.2 one.3)
  same_class few Many Consistent one two = absurd (one.0 two.0)
  same_class few Many WrongP one two = absurd (one.1 two.1)
  same_class few Many WrongQ one two = absurd (one.0 two.0)
  same_class few Many (WrongData z) one two = absurd (one.2 z two.2 two.3)
  same_class few Many Many one two = refl

  -- a row whose P and Q are those of its data is full
  pub IsFull-consistent : HasClass row Consistent → IsFull len row
  IsFull-consistent none =
      let p_of_is : IsBlock len (p_of len (take m row)) = IsBlock-p_of len (take m row) data_all in
      let q_of_is : IsBlock len (q_of len (take m row)) = IsBlock-q_of len (take m row) data_all in
      (IsFullRow-equations m len row (record {
        count = count;
        sized = all;
        p = sym (same_from_block_sum len (p_of len (take m row)) (block_at row m) p_of_is p_is (subst IsZero p_difference-eq none.0));
        q = sym (same_from_block_sum len (q_of len (take m row)) (block_at row (m + 1)) q_of_is q_is (subst IsZero q_difference-eq none.1));
      })).full

  pub Consistent-full : IsFull len row → HasClass row Consistent
  Consistent-full full =
      let is : IsFullRow m len row = record { count = count; full = full } in (
        IsZero-zeros len (p_difference row) (p_difference-eq ∙ ap (λ (p : List ℕ). block_sum p (block_at row m)) (sym (block_at-p m len row is)) ∙ block_sum-self len (block_at row m) p_is.length_is),
        IsZero-zeros len (q_difference row) (q_difference-eq ∙ ap (λ (q : List ℕ). block_sum q (block_at row (m + 1))) (sym (block_at-q m len row is)) ∙ block_sum-self len (block_at row (m + 1)) q_is.length_is),
      )

-- the class of a full row with one wrong block names its position
pub NamesWrongBlock-class : (row : List (List ℕ)) (class : RowClass) → HasClass row class → NamesWrongBlock row class
NamesWrongBlock-class row class has m len position full block few is block_is within differs written =
    let full_count : length full ≡ m + 2 = is.count in
    let count : length row ≡ m + 2 = ap length written ∙ length-set full position block ∙ full_count in
    let all : All (IsBlock len) row = subst (All (IsBlock len)) (sym written) (All-set (IsBlock len) full position block block_is is.full.sized) in
    let unique : (other : RowClass) → HasClass (set full position block) other → other ≡ class =
    λ other has_other. same_class m len row count all few other class (subst (λ (r : List (List ℕ)). HasClass r other) (sym written) has_other) has in
    ⊎_elim
    (λ (h : position < m).
    subst (NamesPosition m position) (unique (WrongData position) (HasClass-wrong_data m len full block few is block_is position h differs)) (refl, h))
    (λ (past : m ≤ position).
    ⊎_elim
    (λ (e : position ≡ m).
    subst (NamesPosition m position)
    (unique WrongP (subst (λ (k : ℕ). HasClass (set full k block) WrongP) (sym e)
    (HasClass-wrong_p m len full block few is block_is (subst (λ (k : ℕ). block ≢ block_at full k) e differs)))) e)
    (λ (ne : position ≡ m → ⊥).
    let e : position ≡ m + 1 = omega arith in
    subst (NamesPosition m position)
    (unique WrongQ (subst (λ (k : ℕ). HasClass (set full k block) WrongQ) (sym e)
    (HasClass-wrong_q m len full block few is block_is (subst (λ (k : ℕ). block ≢ block_at full k) e differs)))) e)
    (cases_eq position m))
    (cases_lt position m)
