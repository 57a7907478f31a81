-- Lists of numbers that rise.
use Rattle.std.proofs.Common.{ℕ, ◌+◌, ◌<◌, ◌≤◌, suc, List, [], ◌∷◌, length, slice_index, arith}
use native.Mathlib.Numerals.{unary_clauses}
use Rattle.std.specs.List.{range_with_len}
use Rattle.std.specs.List.Sorted.{IsStrictlyIncreasing}
use Rattle.std.proofs.lemmas.List.FromFn.{length-range_with_len, get_or-range_with_len}

-- the numbers rise, from low on
abbrev pub RisesFrom : ℕ → List ℕ → Type 0
RisesFrom low [] = Unit {0}
RisesFrom low (x ∷ xs) = (low ≤ x) × RisesFrom (x + 1) xs

pub increasing-tail : (x : ℕ) (xs : List ℕ) → IsStrictlyIncreasing (x ∷ xs) → IsStrictlyIncreasing xs
increasing-tail x xs rising k within =
    let next : slice_index xs k < slice_index (x ∷ xs) (suc k + 1) = rising (suc k) (omega arith) in
    let next' = simp unary_clauses at next in
    simp unary_clauses next'

pub rises_from : (low : ℕ) (xs : List ℕ) → IsStrictlyIncreasing xs → (0 < length xs → low ≤ slice_index xs 0)
    → RisesFrom low xs
rises_from low [] rising first = tt
rises_from low (x ∷ []) rising first = (first (omega arith), tt)
rises_from low (x ∷ y ∷ xs) rising first = (
  first (omega arith),
  rises_from (x + 1) (y ∷ xs) (increasing-tail x (y ∷ xs) rising)
      (λ _. let next : x < y = rising 0 (omega arith) in omega arith),
)

pub range_rises : (a n : ℕ) → IsStrictlyIncreasing (range_with_len a n)
range_rises a n k within =
    let long = length-range_with_len a n in
    let one = get_or-range_with_len a n k 0 (omega arith) in
    let next = get_or-range_with_len a n (k + 1) 0 (omega arith) in
    omega arith
