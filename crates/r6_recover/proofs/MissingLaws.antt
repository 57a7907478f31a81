-- One more position: known, or not.
use Rattle.std.proofs.Common.{◌≡◌, ◌≢◌, ℕ, ◌+◌, ◌<◌, Bool, false, List, get_or, sym, subst, arith, ⊎_elim}
use Rattle.std.proofs.lemmas.Bool.{cases_eq}
use Rattle.r6_recover.specs.declared.known.Missing.{Missing}
use Rattle.r6_recover.specs.declared.known.Missing.TheVariants.{None, One, Two, Many}
use Rattle.r6_recover.specs.Known.{IsKnown, KnownBut, AreTooMany, IsMissing, with_missing}

KnownBut-more : (known : List Bool) (n x y : ℕ) → KnownBut known n x y → (n ≢ x → n ≢ y → IsKnown known n) → KnownBut known (n + 1) x y
KnownBut-more known n x y others here =
    λ k h nx ny. ⊎_elim
    (λ (e : k ≡ n). subst (IsKnown known) (sym e) (here (λ nx'. nx (e' k n x e nx')) (λ ny'. ny (e' k n y e ny'))))
    (λ (ne : k ≡ n → ⊥). others k (omega arith) nx ny)
    (cases_eq k n)
  where
    e' : (k n x : ℕ) → k ≡ n → n ≡ x → k ≡ x
    e' k n x e f = omega arith

AreTooMany-more : (known : List Bool) (n : ℕ) → AreTooMany known n → AreTooMany known (n + 1)
AreTooMany-more known n many =
    let within : many.third < n = many.within in
    record {
      first = many.first;
      second = many.second;
      third = many.third;
      first_before = many.first_before;
      second_before = many.second_before;
      within = omega arith;
      first_missing = many.first_missing;
      second_missing = many.second_missing;
      third_missing = many.third_missing;
    }

-- the next position is known
pub IsMissing-known : (known : List Bool) (n : ℕ) (m : Missing) → IsMissing known n m → IsKnown known n → IsMissing known (n + 1) m
IsMissing-known known n None all here =
    λ k h. ⊎_elim (λ (e : k ≡ n). subst (IsKnown known) (sym e) here) (λ (ne : k ≡ n → ⊥). all k (omega arith)) (cases_eq k n)
IsMissing-known known n (One x) one here =
    record { within = let w : x < n = one.within in omega arith; missing = one.missing; others = KnownBut-more known n x x one.others (λ _ _. here) }
IsMissing-known known n (Two x y) two here =
    record {
      before = two.before;
      within = let w : y < n = two.within in omega arith;
      first_missing = two.first_missing;
      second_missing = two.second_missing;
      others = KnownBut-more known n x y two.others (λ _ _. here);
    }
IsMissing-known known n Many many here = AreTooMany-more known n many

-- the next position is not known
pub IsMissing-with : (known : List Bool) (n : ℕ) (m : Missing) → IsMissing known n m → get_or known n false ≡ false → IsMissing known (n + 1) (with_missing m n)
IsMissing-with known n None all here =
    record { within = omega arith; missing = here; others = λ k h nx _. all k (omega arith) }
IsMissing-with known n (One x) one here =
    record {
      before = one.within;
      within = omega arith;
      first_missing = one.missing;
      second_missing = here;
      others = λ k h nx ny. one.others k (omega arith) nx nx;
    }
IsMissing-with known n (Two x y) two here =
    record {
      first = x;
      second = y;
      third = n;
      first_before = two.before;
      second_before = two.within;
      within = omega arith;
      first_missing = two.first_missing;
      second_missing = two.second_missing;
      third_missing = here;
    }
IsMissing-with known n Many many here = AreTooMany-more known n many
