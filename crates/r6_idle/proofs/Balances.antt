-- Each step of a parker keeps the wakes balanced.
use Rattle.std.proofs.Common.{◌≡◌, ℕ, zero, suc, true, false, List, [], ◌∷◌, set, sym, refl, ap, arith, sum_by}
use Rattle.std.specs.Prelude.{◌+◌}
use mathlib.Core.Option.{some, some-injective, some-ne-none}
use lib.ListN.{get_elem?}
use Rattle.std.proofs.lemmas.List.Sums.{sum_by-cons}
use Rattle.crossbeam_utils.specs.Register.{TurnsAt, Turns}
use Rattle.r6_idle.specs.declared.tally.Tally.{Tally}
use Rattle.r6_idle.specs.Tallies.{having_given, having_taken, given_by, taken_by, IsBalanced}

-- a sum in which one term is exchanged
sum_by-exchange : {X : Type 0} (f : X → ℕ) (xs : List X) (i : ℕ) (v w : X) → get_elem? xs i ≡ some v
    → sum_by f (set xs i w) + f v ≡ sum_by f xs + f w
sum_by-exchange f [] i v w e = absurd (some-ne-none v (sym e))
sum_by-exchange f (x ∷ xs) zero v w e =
    let same : f x ≡ f v = ap f (some-injective x v e) in
    let before = sum_by-cons f x xs in
    let after : sum_by f (set (x ∷ xs) zero w) ≡ f w + sum_by f xs = sum_by-cons f w xs in
    omega (arith, same, before, after)
sum_by-exchange f (x ∷ xs) (suc i) v w e =
    let rest = sum_by-exchange f xs i v w e in
    let before = sum_by-cons f x xs in
    let after : sum_by f (set (x ∷ xs) (suc i) w) ≡ f x + sum_by f (set xs i w) = sum_by-cons f x (set xs i w) in
    omega (arith, rest, before, after)

pub gives : (pass : ℕ) (v : Tally) → Turns IsBalanced pass v (λ _. true) (λ v _ _ w. w ≡ having_given v)
gives pass v token all h at =
    let given = sum_by-exchange given_by all pass v (having_given v) at in
    let taken = sum_by-exchange taken_by all pass v (having_given v) at in
    (having_given v, omega (arith, h, given, taken), refl)

pub takes : (pass : ℕ) (v : Tally) → TurnsAt IsBalanced pass v true false (λ v _ _ w. w ≡ having_taken v)
takes pass v all h at =
    let given = sum_by-exchange given_by all pass v (having_taken v) at in
    let taken = sum_by-exchange taken_by all pass v (having_taken v) at in
    (having_taken v, omega (arith, h, given, taken), refl)
