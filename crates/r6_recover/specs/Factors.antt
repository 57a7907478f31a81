-- What the recovery of two lost data blocks multiplies with (H. Peter Anvin, "The mathematics of RAID-6", its section
-- on recovery).
use Rattle.std.specs.Prelude.{◌≡◌, ℕ, ◌-◌, ◌<◌, bit_xor}
use Rattle.r6_field.specs.Field.{product, power, generator}

-- a / b is c
pub record IsQuotient (a b c : ℕ) : Type 0 where
  pub byte : c < 256
  pub times : product b c ≡ a

-- what two lost data blocks x < y are multiplied with: A = g^(y - x) / (g^(y - x) + 1) and
-- B = g^(-x) / (g^(y - x) + 1)
pub record AreFactors (x y a b : ℕ) : Type 0 where
  pub of_p : IsQuotient (power generator (y - x)) (bit_xor (power generator (y - x)) 1) a
  pub of_q : IsQuotient (power generator (255 - x)) (bit_xor (power generator (y - x)) 1) b
