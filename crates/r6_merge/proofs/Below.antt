-- What there is for each number below a bound, for all numbers.
use Rattle.std.proofs.Common.{ℕ, ◌<◌, ◌≤◌, ◌⊎◌, inl, inr, arith}
use Rattle.std.proofs.lemmas.Bool.{cases_lt}

module _ {A : Type 0} (P : ℕ → A → Type 0) (count : ℕ) (default : A)
    (each : (n : ℕ) → n < count → (a : A) × P n a) where
  abbrev pub chosen : (n : ℕ) → (n < count) ⊎ (count ≤ n) → A
  chosen n (inl below) = (each n below).0
  chosen n (inr above) = default

  is-chosen : (n : ℕ) (c : (n < count) ⊎ (count ≤ n)) → n < count → P n (chosen n c)
  is-chosen n (inl below') below = (each n below').1
  is-chosen n (inr above) below = absurd (omega arith)

  pub for-all : (f : ℕ → A) × ((n : ℕ) → n < count → P n (f n))
  for-all = (λ n. chosen n (cases_lt n count), λ n below. is-chosen n (cases_lt n count) below)
