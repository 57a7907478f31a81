-- Differences of whole blocks.
use Rattle.std.proofs.Common.{◌≡◌, ◌≢◌, ◌<◌, ◌≤◌, ℕ, Bool, true, false, not, is_some, List, [], length, get_or, MatchOption, IsTrue, Option, Some, None, refl, sym, ap, subst, ◌∙◌, arith}
use Rattle.std.proofs.lemmas.Bool.{false≢true}
use Rattle.std.specs.List.{All}
use Rattle.std.proofs.lemmas.List.{ext_get_or, length-replicate}
use Rattle.std.proofs.lemmas.List.Elements.{All-from_get_or}
use Rattle.r6_field.specs.Field.{product}
use Rattle.r6_kernels.specs.Blocks.{block_sum, scale, zeros}
use Rattle.r6_kernels.proofs.BlockLaws.{block_sum-self, block_sum_twice, length-block_sum, length-scale, zeros-block_sum}
use Rattle.r6_kernels.proofs.LackLaws.{zero_at}
use Rattle.r6_kernels.proofs.SumLaws.{byte-scale, byte-zeros}
use Rattle.r6_recover.specs.Classes.{IsZero}

are_zeros : (len : ℕ) (block : List ℕ) → length block ≡ len → IsZero block → block ≡ zeros len
are_zeros len block long none_set =
    ext_get_or 0 block (zeros len) (long ∙ sym (length-replicate len 0)) (λ k h. zero_at block k none_set ∙ sym (byte-zeros len k))

IsZero-zeros : (len : ℕ) → IsZero (zeros len)
IsZero-zeros len = All-from_get_or (λ byte. byte ≡ 0) (zeros len) 0 (λ i h. byte-zeros len i)

-- two blocks are one just where their sum is zero
pub same-sum : (len : ℕ) (a b : List ℕ) → length a ≡ len → length b ≡ len → IsZero (block_sum a b) → a ≡ b
same-sum len a b long long' none_set =
    sym (block_sum_twice len a b long long')
    ∙ ap (λ (x : List ℕ). block_sum x b) (are_zeros len (block_sum a b) (length-block_sum len a b long long') none_set)
    ∙ zeros-block_sum len b long'

pub sum-same : (len : ℕ) (a b : List ℕ) → length b ≡ len → a ≡ b → IsZero (block_sum a b)
sum-same len a b long same =
    subst IsZero (sym (ap (λ (x : List ℕ). block_sum x b) same ∙ block_sum-self len b long)) (IsZero-zeros len)

-- a block that differs at one byte from a multiple isn't that multiple
pub not_multiple : (q p : List ℕ) (factor at : ℕ) → get_or q at 0 ≢ product factor (get_or p at 0) → q ≢ scale factor p
not_multiple q p factor at differs same = differs (ap (λ (block : List ℕ). get_or block at 0) same ∙ byte-scale factor p at)

-- ---- whether a block is a multiple, by a sum of which no byte is set

pub none_set : (block : List ℕ) (found : Option ℕ) (is_zero : Bool)
    → MatchOption found (IsZero block) (λ at. (at < length block) × (get_or block at 0 ≢ 0)) → is_some found ≡ not is_zero
    → (IsTrue is_zero → IsZero block) × (IsZero block → IsTrue is_zero)
none_set block None true found same = ((λ _. found), (λ _. refl))
none_set block None false found same = absurd (false≢true same)
none_set block (Some at) true found same = absurd (false≢true (sym same))
none_set block (Some at) false found same = ((λ no. absurd (false≢true no)), (λ all. absurd (found.1 (zero_at block at all))))

pub multiple : (q p sum : List ℕ) (factor : ℕ) (is_zero : Bool) → length q ≡ length p → sum ≡ block_sum q (scale factor p)
    → (IsTrue is_zero → IsZero sum) × (IsZero sum → IsTrue is_zero)
    → (IsTrue is_zero → q ≡ scale factor p) × (q ≡ scale factor p → IsTrue is_zero)
multiple q p sum factor is_zero long is none_set' = (
  (λ yes. same-sum (length p) q (scale factor p) long (length-scale factor p) (subst IsZero is (none_set'.0 yes))),
  (λ same. none_set'.1 (subst IsZero (sym is) (sum-same (length p) q (scale factor p) (length-scale factor p) same))),
)

pub taken_back : (q p : List ℕ) (factor : ℕ) → length q ≡ length p → block_sum (block_sum q (scale factor p)) (scale factor p) ≡ q
taken_back q p factor long = block_sum_twice (length p) q (scale factor p) long (length-scale factor p)

-- blocks of one length have that of the first
pub as_first : (len : ℕ) (row : List (List ℕ)) → 2 ≤ length row → All (λ block. length block ≡ len) row
    → All (λ block. length block ≡ length (get_or row 0 [])) row
as_first len row count long =
    let some : 0 < length row = omega (arith, count) in
    subst (λ (n : ℕ). All (λ block. length block ≡ n) row) (sym (long 0 [] some)) long
