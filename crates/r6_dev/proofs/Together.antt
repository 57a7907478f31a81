-- Blocks that are put together, one after another.
use Rattle.std.proofs.Common.{◌≡◌, ◌≢◌, ℕ, ◌+◌, ◌-◌, ◌*◌, ◌<◌, ◌≤◌, List, [], length, get_or, take, drop, sym, ap, subst, ◌∙◌, ⊎_elim, arith, mul_comm}
use Rattle.std.specs.List.{between}
use Rattle.std.proofs.lemmas.Bool.{cases_eq}
use Rattle.std.proofs.lemmas.Nat.{row_fits}
use Rattle.std.proofs.lemmas.Slice.{between_is, between-put_mid, take-put_mid_below}
use native.Mathlib.Nat.{eq_of_mul-eq-mul_right}
use borrow.Rule.Slice.PartMut.{put_mid}
use Rattle.r6_kernels.specs.Blocks.{piece}
use Rattle.r6_dev.specs.History.{AreTogether, Block}
use Rattle.r6_dev.specs.Memory.{blocks_from}
use Rattle.r6_dev.proofs.Rows.{blocks_from-row}

piece_between : (at len : ℕ) (bytes : List ℕ) → piece at len bytes ≡ between at (at + len) bytes
piece_between at len bytes = ap (λ (n : ℕ). take n (drop at bytes)) (omega arith)

-- a piece in front of what is written stays
piece_before : (at len place : ℕ) (bytes block : List ℕ) (size : ℕ) → at + len ≤ place → place ≤ length bytes
    → piece at len (put_mid place size bytes block) ≡ piece at len bytes
piece_before at len place bytes block size before within =
    let after = put_mid place size bytes block in
    piece_between at len after
    ∙ between_is after at (at + len)
    ∙ ap (drop at) (take-put_mid_below place size bytes block (at + len) before within)
    ∙ sym (between_is bytes at (at + len))
    ∙ sym (piece_between at len bytes)

-- what is written is a piece
piece_written : (at len : ℕ) (bytes block : List ℕ) → at ≤ length bytes → length block ≡ len
    → piece at len (put_mid at len bytes block) ≡ block
piece_written at len bytes block within long =
    piece_between at len (put_mid at len bytes block)
    ∙ between-put_mid at len bytes block (at + len) within (omega (arith, long))

-- the first blocks from one on are the first pieces of some bytes
abbrev pub FirstTogether : (first size count : ℕ) → List Block → List ℕ → Type 0
FirstTogether first size count blocks bytes = (k : ℕ) → k < count → piece (k * size) size bytes ≡ get_or blocks (first + k) []

pub one_more : (first size count width : ℕ) (blocks : List Block) (bytes block : List ℕ) → width ≡ size → count * size ≤ length bytes → length block ≡ size
    → block ≡ get_or blocks (first + count) [] → FirstTogether first size count blocks bytes
    → FirstTogether first size (count + 1) blocks (put_mid (count * size) width bytes block)
one_more first size count width blocks bytes block wide within long is so_far k below =
    ⊎_elim
    (λ (here : k ≡ count).
    subst (λ (n : ℕ). piece (n * size) size (put_mid (count * size) width bytes block) ≡ get_or blocks (first + n) []) (sym here)
    (subst (λ (n : ℕ). piece (count * size) size (put_mid (count * size) n bytes block) ≡ get_or blocks (first + count) []) (sym wide)
    (piece_written (count * size) size bytes block within long ∙ is)))
    (λ (apart : k ≢ count).
    let fits = row_fits k size count size (omega (arith, below, apart)) (omega arith) in
    piece_before (k * size) size (count * size) bytes block width fits within ∙ so_far k (omega (arith, below, apart)))
    (cases_eq k count)

same_size : (count len size : ℕ) → 0 < count → count * len ≡ count * size → len ≡ size
same_size count len size some same = eq_of_mul-eq-mul_right count some len size (mul_comm len count ∙ same ∙ mul_comm count size)

pub all_together : (row start first size count : ℕ) (blocks : List Block) (bytes : List ℕ) → row ≡ start + first → first + count ≤ length blocks
    → length bytes ≡ count * size → FirstTogether first size count blocks bytes → AreTogether (blocks_from start blocks) row count bytes
all_together row start first size count blocks bytes at within long together len index is below =
    let size_is : len ≡ size = same_size count len size (omega (arith, below)) (sym is ∙ long) in
    let place : row + index ≡ start + (first + index) = omega (arith, at) in
    ap (λ (n : ℕ). piece (index * n) n bytes) size_is
    ∙ together index below
    ∙ sym (blocks_from-row start blocks (first + index) [] (omega (arith, below, within)))
    ∙ sym (ap (blocks_from start blocks) place)
