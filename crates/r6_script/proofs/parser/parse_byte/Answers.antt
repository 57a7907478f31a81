use Rattle.std.proofs.Common.{◌≡◌, ◌≢◌, ◌+◌, ◌*◌, ◌/◌, ◌%◌, ◌<◌, ◌≤◌, ℕ, [], ◌∷◌, length, get_or, refl, sym, ap, ◌∙◌, arith}
use Rattle.std.specs.Char.{digit_char}
use Rattle.r6_script.specs.Script.{IsByte, Text, byte_word}
use Rattle.r6_script.proofs.parser.parse_byte.Goals as goal

-- ---- a word is no byte's

no_high : (word bytes : Text) → bytes ≡ word → ((d : ℕ) → d < 16 → get_or bytes 0 0 ≢ digit_char d) → (value : ℕ) → IsByte value → word ≢ byte_word value
no_high word bytes same none value fits e = none (value / 16) (omega (arith, fits)) (ap (λ (w : Text). get_or w 0 0) (same ∙ e))

no_low : (word bytes : Text) → bytes ≡ word → ((d : ℕ) → d < 16 → get_or bytes 1 0 ≢ digit_char d) → (value : ℕ) → IsByte value → word ≢ byte_word value
no_low word bytes same none value fits e = none (value % 16) (omega arith) (ap (λ (w : Text). get_or w 1 0) (same ∙ e))

too_short : (word bytes : Text) → bytes ≡ word → length bytes < 2 → (value : ℕ) → IsByte value → word ≢ byte_word value
too_short word bytes same few value fits e = let two : length bytes ≡ 2 = ap length (same ∙ e) in absurd (omega (arith, two, few))

pub returns-in_err-parse_digit-in-len2 : goal.returns-in_err-parse_digit-in-len2
returns-in_err-parse_digit-in-len2 c =
    rw c.from_residual.ensures (no_high c.args.word.now c.as_bytes.result.now c.as_bytes.ensures.value c.in_err-parse_digit-in-len2.ensures)

pub returns-in_err-parse_digit-in-len2-2 : goal.returns-in_err-parse_digit-in-len2-2
returns-in_err-parse_digit-in-len2-2 c =
    rw c.from_residual-in_err-parse_digit-in-len2-2.ensures (no_low c.args.word.now c.as_bytes.result.now c.as_bytes.ensures.value c.in_err-parse_digit-in-len2-2.ensures)

pub returns-in_default : goal.returns-in_default
returns-in_default c = too_short c.args.word.now c.as_bytes.result.now c.as_bytes.ensures.value c.in_default.len_below

-- ---- two digits are one

pair_of : (bytes : Text) → 2 ≤ length bytes → length bytes < 3 → bytes ≡ get_or bytes 0 0 ∷ get_or bytes 1 0 ∷ []
pair_of [] least most = absurd (omega (arith, least))
pair_of (a ∷ []) least most = absurd (omega (arith, least))
pair_of (a ∷ b ∷ []) least most = refl
pair_of (a ∷ b ∷ d ∷ bytes) least most = absurd (omega (arith, most))

two_digits : (word bytes : Text) (high low : ℕ) → bytes ≡ word → 2 ≤ length bytes → length bytes < 3 → (high < 16) × (get_or bytes 0 0 ≡ digit_char high) → (low < 16) × (get_or bytes 1 0 ≡ digit_char low)
    → IsByte (16 * high + low) × (word ≡ byte_word (16 * high + low))
two_digits word bytes high low same least most h l =
    let fits : 16 * high + low < 256 = omega (arith, h.0, l.0) in
    let front : (16 * high + low) / 16 ≡ high = omega (arith, l.0) in
    let back : (16 * high + low) % 16 ≡ low = omega (arith, l.0) in (
      fits,
      sym same ∙ pair_of bytes least most
          ∙ ap (λ (x : ℕ). x ∷ get_or bytes 1 0 ∷ []) (h.1 ∙ ap digit_char (sym front))
          ∙ ap (λ (x : ℕ). digit_char ((16 * high + low) / 16) ∷ x ∷ []) (l.1 ∙ ap digit_char (sym back)),
    )

pub returns-in_ok-parse_digit-in-len2-2 : goal.returns-in_ok-parse_digit-in-len2-2
returns-in_ok-parse_digit-in-len2-2 c =
    two_digits c.args.word.now c.as_bytes.result.now c.in_ok-parse_digit-in-len2.field-0 c.in_ok-parse_digit-in-len2-2.field-0 c.as_bytes.ensures.value c.in-len2.len_at_least c.in-len2.len_below
    c.in_ok-parse_digit-in-len2.ensures c.in_ok-parse_digit-in-len2-2.ensures
