-- Texts of numbers, written one after the other.
use Rattle.std.proofs.Common.{◌≡◌, ◌∙◌, ◌≤◌, ◌+◌, ◌++◌, ℕ, ap, add-one, append-nil, append_assoc, arith, sym}
use Rattle.r6_script.specs.Script.{Text}
use Rattle.r6_script.specs.Texts.{texts_below}

-- of no number
pub none_written : (text_of : ℕ → Text) (begun : Text) → begun ≡ begun ++ texts_below text_of 0
none_written text_of begun = sym (append-nil begun)

-- of one number more
pub one_written : (text_of : ℕ → Text) (begun text more : Text) (n : ℕ) → text ≡ begun ++ texts_below text_of n → more ≡ text ++ text_of n
    → more ≡ begun ++ texts_below text_of (n + 1)
one_written text_of begun text more n so_far is =
    is ∙ ap (λ (bytes : Text). bytes ++ text_of n) so_far ∙ append_assoc begun (texts_below text_of n) (text_of n)
    ∙ ap (λ m. begun ++ texts_below text_of m) (sym (add-one n))

-- of all below the end
pub all_written : (text_of : ℕ → Text) (begun text : Text) (n end : ℕ) → text ≡ begun ++ texts_below text_of n → end ≤ n → n ≤ end
    → text ≡ begun ++ texts_below text_of end
all_written text_of begun text n end so_far past within =
    let same : n ≡ end = omega (arith, past, within) in
    so_far ∙ ap (λ m. begun ++ texts_below text_of m) same
