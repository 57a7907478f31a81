-- The digits that hex writes of a byte are those of the byte's word, and ASCII.
use Rattle.std.proofs.Common.{◌≡◌, ◌<◌, ◌/◌, ◌%◌, ◌==◌, ◌&&◌, ℕ, zero, suc, Bool, true, nat_lt, List, [], ◌∷◌, slice_index, refl, arith, inl, inr}
use Rattle.std.proofs.lemmas.Bool.{and_parts, cases_lt, eqb-true, ltb-true}
use Rattle.std.proofs.lemmas.List.Elements.{All-head, All-tail}
use Rattle.std.proofs.lemmas.Str.Ascii.{IsAscii-nil, IsAscii-cons}
use Rattle.std.specs.Char.{digit_char}
use Rattle.std.specs.List.{All, flat_map}
use Rattle.std.specs.Str.{IsAscii}
use Rattle.hex.specs.Hex.{encode_with, lower_digits}
use Rattle.r6_kernels.specs.Texts.{byte_word}

-- a place of the table, and all below one
abbrev is_digit : ℕ → Bool
is_digit place = (slice_index lower_digits place == digit_char place) && nat_lt (digit_char place) 128

abbrev are_digits : ℕ → Bool
are_digits zero = true
are_digits (suc n) = is_digit n && are_digits n

abbrev IsDigit : ℕ → Type 0
IsDigit place = (slice_index lower_digits place ≡ digit_char place) × (digit_char place < 128)

digit_at : (n d : ℕ) → are_digits n ≡ true → d < n → IsDigit d
digit_at zero d all below = absurd (omega arith)
digit_at (suc n) d all below =
    let parts = and_parts (is_digit n) (are_digits n) all in
    let last = and_parts (slice_index lower_digits n == digit_char n) (nat_lt (digit_char n) 128) parts.0 in
    elim (cases_lt d n) [
      | inl less ↦ digit_at n d parts.1 less
      | inr same ↦
          let e : d ≡ n = omega arith in
          rw e (eqb-true (slice_index lower_digits n) (digit_char n) last.0, ltb-true (digit_char n) 128 last.1)
    ]

digit : (d : ℕ) → d < 16 → IsDigit d
digit d below = digit_at 16 d refl below

pub encoded : (bytes : List ℕ) → All (λ b. b < 256) bytes → encode_with lower_digits bytes ≡ flat_map byte_word bytes
unfolding encode_with
encoded [] all = refl
encoded (b ∷ rest) all =
    let byte = All-head (λ (n : ℕ). n < 256) b rest all in
    let high : b / 16 < 16 = omega (arith, byte) in
    let low : b % 16 < 16 = omega arith in
    rw ((digit (b / 16) high).0, (digit (b % 16) low).0, encoded rest (All-tail (λ (n : ℕ). n < 256) b rest all)) refl

pub ascii : (bytes : List ℕ) → All (λ b. b < 256) bytes → IsAscii (flat_map byte_word bytes)
ascii [] all = IsAscii-nil
ascii (b ∷ rest) all =
    let byte = All-head (λ (n : ℕ). n < 256) b rest all in
    let high : b / 16 < 16 = omega (arith, byte) in
    let low : b % 16 < 16 = omega arith in
    IsAscii-cons (digit_char (b / 16)) (digit_char (b % 16) ∷ flat_map byte_word rest) (digit (b / 16) high).1
    (IsAscii-cons (digit_char (b % 16)) (flat_map byte_word rest) (digit (b % 16) low).1 (ascii rest (All-tail (λ (n : ℕ). n < 256) b rest all)))
