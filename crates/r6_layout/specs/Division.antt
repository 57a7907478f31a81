-- Division of numbers by a small one.
use Rattle.std.specs.Prelude.{◌≡◌, ℕ, ◌-◌, ◌/◌, ◌%◌, ◌^◌}
use Rattle.r6_layout.specs.declared.division.Divided.{Divided}

-- by which a number is multiplied, and then divided by 2^36
abbrev pub inverse_of : ℕ → ℕ
inverse_of divisor = (2 ^ 36 - 1) / divisor

pub record IsDividedBy (number divisor : ℕ) (divided : Divided) : Type 0 where
  pub quotient : divided.quotient ≡ number / divisor
  pub remainder : divided.remainder ≡ number % divisor
