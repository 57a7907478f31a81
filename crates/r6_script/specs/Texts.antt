-- How printed texts are put together.
use Rattle.std.specs.Prelude.{ℕ, zero, suc, List, [], ◌∷◌, ◌++◌}
use Rattle.std.specs.List.{join_with_byte}
use Rattle.r6_script.specs.Script.{Text}

-- the texts of the numbers below n, one after the other
abbrev pub texts_below : (text_of : ℕ → Text) → (n : ℕ) → Text
texts_below text_of zero = []
texts_below text_of (suc n) = texts_below text_of n ++ text_of n

-- words, with one space between them, and a newline
abbrev pub line : List Text → Text
line words = join_with_byte 32 words ++ 10 ∷ []
