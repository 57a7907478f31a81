-- Positions of a row that are known, and those that are missing.
use Rattle.std.specs.Prelude as prelude
use Rattle.std.specs.Prelude.{◌≡◌, ◌≢◌, ℕ, ◌<◌, Bool, true, false, List, slice_index_or, Option, Some}
use Rattle.r6_recover.specs.declared.known.Missing.{Missing}
use Rattle.r6_recover.specs.declared.known.Missing.TheVariants.{None, One, Two, Many}

abbrev pub IsKnown : List Bool → ℕ → Type 0
IsKnown known k = slice_index_or known k false ≡ true

-- all of the first n positions are known but x and y
abbrev pub KnownBut : List Bool → ℕ → ℕ → ℕ → Type 0
KnownBut known n x y = (k : ℕ) → k < n → k ≢ x → k ≢ y → IsKnown known k

-- three of the first n positions are not known
pub record AreTooMany (known : List Bool) (n : ℕ) : Type 0 where
  pub first : ℕ
  pub second : ℕ
  pub third : ℕ
  pub first_before : first < second
  pub second_before : second < third
  pub within : third < n
  pub first_missing : slice_index_or known first false ≡ false
  pub second_missing : slice_index_or known second false ≡ false
  pub third_missing : slice_index_or known third false ≡ false

-- x alone of the first n positions is not known
pub record IsOneMissing (known : List Bool) (n x : ℕ) : Type 0 where
  pub within : x < n
  pub missing : slice_index_or known x false ≡ false
  pub others : KnownBut known n x x

-- x and y alone are not known
pub record AreTwoMissing (known : List Bool) (n x y : ℕ) : Type 0 where
  pub before : x < y
  pub within : y < n
  pub first_missing : slice_index_or known x false ≡ false
  pub second_missing : slice_index_or known y false ≡ false
  pub others : KnownBut known n x y

-- how many of the first n positions are not known, and which
abbrev pub IsMissing : List Bool → ℕ → Missing → Type 0
IsMissing known n None = (k : ℕ) → k < n → IsKnown known k
IsMissing known n (One x) = IsOneMissing known n x
IsMissing known n (Two x y) = AreTwoMissing known n x y
IsMissing known n Many = AreTooMany known n

-- with one more, which comes after
abbrev pub with_missing : Missing → ℕ → Missing
with_missing None n = One n
with_missing (One x) n = Two x n
with_missing (Two x y) n = Many
with_missing Many n = Many

-- the only one, or the lower of two; and the upper of two
abbrev pub lower_of : Missing → Option ℕ
lower_of None = prelude.None
lower_of (One x) = Some x
lower_of (Two x y) = Some x
lower_of Many = prelude.None

abbrev pub upper_of : Missing → Option ℕ
upper_of None = prelude.None
upper_of (One x) = prelude.None
upper_of (Two x y) = Some y
upper_of Many = prelude.None
