-- Sets of numbers below 64, a bit each.
use Rattle.std.specs.Prelude.{◌≡◌, ℕ, ◌<◌, ◌==◌, Bool, true, false, if◌then◌else◌}
use Rattle.std.specs.Int.{bit_at}

abbrev pub is_set : ℕ → ℕ → Bool
is_set bits i = bit_at bits i == 1

abbrev pub HasNone : ℕ → Type 0
HasNone bits = (i : ℕ) → i < 64 → is_set bits i ≡ false

abbrev pub IsLowest : ℕ → ℕ → Type 0
IsLowest bits number = (number < 64) × (is_set bits number ≡ true) × ((i : ℕ) → i < number → is_set bits i ≡ false)

-- the same but for this number, which is in the set or not
abbrev pub IsWithBit : (old number : ℕ) → Bool → (new : ℕ) → Type 0
IsWithBit old number is_in new = (i : ℕ) → i < 64 → is_set new i ≡ (if i == number then is_in else is_set old i)
