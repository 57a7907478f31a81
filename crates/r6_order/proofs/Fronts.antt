-- The front of a list, as far as all in it pass a test, and the rest of the list.
use Rattle.std.proofs.Common.{◌≡◌, List, [], ◌∷◌, ◌++◌, Bool, true, false, cond, inl, inr, refl, sym, ap, subst, ◌∙◌}
use Rattle.r6_course.specs.Ledgers.{IsIn, IsBefore}

module _ {A : Type 0} where
  abbrev pub front_of : (A → Bool) → List A → List A
  front_of p [] = []
  front_of p (x ∷ xs) = cond (p x) (x ∷ front_of p xs) []

  abbrev pub rest_of : (A → Bool) → List A → List A
  rest_of p [] = []
  rest_of p (x ∷ xs) = cond (p x) (rest_of p xs) (x ∷ xs)

  abbrev pub Implies : (A → Bool) → (A → Bool) → Type 0
  Implies p q = (x : A) → p x ≡ true → q x ≡ true

  pub none-taken : (p : A → Bool) (xs : List A) → front_of p (rest_of p xs) ≡ []
  none-taken p [] = refl
  none-taken p (x ∷ xs) = at (p x) refl (none-taken p xs)
    where
      at : (b : Bool) → p x ≡ b → front_of p (rest_of p xs) ≡ [] → front_of p (cond b (rest_of p xs) (x ∷ xs)) ≡ []
      at true e rest = rest
      at false e rest = ap (λ b. cond b (x ∷ front_of p xs) []) e

  -- a wider test takes what the first one takes, and more behind it
  pub taken-more : (q r : A → Bool) → Implies q r → (xs : List A) → front_of r xs ≡ front_of q xs ++ front_of r (rest_of q xs)
  taken-more q r wider [] = refl
  taken-more q r wider (x ∷ xs) = at (q x) refl (taken-more q r wider xs)
    where
      at : (b : Bool) → q x ≡ b → front_of r xs ≡ front_of q xs ++ front_of r (rest_of q xs)
          → cond (r x) (x ∷ front_of r xs) [] ≡ cond b (x ∷ front_of q xs) [] ++ front_of r (cond b (rest_of q xs) (x ∷ xs))
      at true e rest = ap (λ c. cond c (x ∷ front_of r xs) []) (wider x e) ∙ ap (λ ys. x ∷ ys) rest
      at false e rest = refl

  pub taken-behind : (p q r : A → Bool) → Implies p q → Implies q r → (xs : List A)
      → front_of r (rest_of p xs) ≡ front_of q (rest_of p xs) ++ front_of r (rest_of q xs)
  taken-behind p q r wide wider [] = refl
  taken-behind p q r wide wider (x ∷ xs) = at (p x) refl (taken-behind p q r wide wider xs)
    where
      at : (b : Bool) → p x ≡ b → front_of r (rest_of p xs) ≡ front_of q (rest_of p xs) ++ front_of r (rest_of q xs)
          → front_of r (cond b (rest_of p xs) (x ∷ xs)) ≡ front_of q (cond b (rest_of p xs) (x ∷ xs)) ++ front_of r (cond (q x) (rest_of q xs) (x ∷ xs))
      at true e rest = rest ∙ ap (λ c. front_of q (rest_of p xs) ++ front_of r (cond c (rest_of q xs) (x ∷ xs))) (sym (wide x e))
      at false e rest = taken-more q r wider (x ∷ xs)

  pub dropped-parts : (p q : A → Bool) → Implies p q → (xs : List A) → rest_of p xs ≡ front_of q (rest_of p xs) ++ rest_of q xs
  dropped-parts p q wide [] = refl
  dropped-parts p q wide (x ∷ xs) = at (p x) refl (dropped-parts p q wide xs)
    where
      both : (r : A → Bool) (ys : List A) → ys ≡ front_of r ys ++ rest_of r ys
      both r [] = refl
      both r (y ∷ ys) = case (r y) (both r ys)
        where
          case : (b : Bool) → ys ≡ front_of r ys ++ rest_of r ys → (y ∷ ys) ≡ cond b (y ∷ front_of r ys) [] ++ cond b (rest_of r ys) (y ∷ ys)
          case true rest = ap (λ zs. y ∷ zs) rest
          case false rest = refl

      at : (b : Bool) → p x ≡ b → rest_of p xs ≡ front_of q (rest_of p xs) ++ rest_of q xs
          → cond b (rest_of p xs) (x ∷ xs) ≡ front_of q (cond b (rest_of p xs) (x ∷ xs)) ++ cond (q x) (rest_of q xs) (x ∷ xs)
      at true e rest = rest ∙ ap (λ c. front_of q (rest_of p xs) ++ cond c (rest_of q xs) (x ∷ xs)) (sym (wide x e))
      at false e rest = both q (x ∷ xs)

  pub all-taken : (p : A → Bool) (xs : List A) → ((x : A) → IsIn x xs → p x ≡ true) → (front_of p xs ≡ xs) × (rest_of p xs ≡ [])
  all-taken p [] all = (refl, refl)
  all-taken p (x ∷ xs) all =
      let rest = all-taken p xs (λ y i. all y (inr i)) in
      let here = all x (inl refl) in
      (ap (λ b. cond b (x ∷ front_of p xs) []) here ∙ ap (λ ys. x ∷ ys) rest.0, ap (λ b. cond b (rest_of p xs) (x ∷ xs)) here ∙ rest.1)

  pub none-dropped : (p : A → Bool) (xs : List A) → ((x : A) → p x ≡ false) → rest_of p xs ≡ xs
  none-dropped p [] none = refl
  none-dropped p (x ∷ xs) none = ap (λ b. cond b (rest_of p xs) (x ∷ xs)) (none x)

  pub taken-passes : (p : A → Bool) (xs : List A) (x : A) → IsIn x (front_of p xs) → p x ≡ true
  taken-passes p [] x i = absurd i
  taken-passes p (y ∷ xs) x i = at (p y) refl i (taken-passes p xs x)
    where
      at : (b : Bool) → p y ≡ b → IsIn x (cond b (y ∷ front_of p xs) []) → (IsIn x (front_of p xs) → p x ≡ true) → p x ≡ true
      at true e i rec = elim i [ inl same ↦ ap p same ∙ e | inr later ↦ rec later ]
      at false e i rec = absurd i

  pub taken-in : (p : A → Bool) (xs : List A) (x : A) → IsIn x (front_of p xs) → IsIn x xs
  taken-in p [] x i = absurd i
  taken-in p (y ∷ xs) x i = at (p y) i (taken-in p xs x)
    where
      at : (b : Bool) → IsIn x (cond b (y ∷ front_of p xs) []) → (IsIn x (front_of p xs) → IsIn x xs) → IsIn x (y ∷ xs)
      at true i rec = elim i [ inl same ↦ inl same | inr later ↦ inr (rec later) ]
      at false i rec = absurd i

  pub dropped-in : (p : A → Bool) (xs : List A) (x : A) → IsIn x (rest_of p xs) → IsIn x xs
  dropped-in p [] x i = absurd i
  dropped-in p (y ∷ xs) x i = at (p y) i (dropped-in p xs x)
    where
      at : (b : Bool) → IsIn x (cond b (rest_of p xs) (y ∷ xs)) → (IsIn x (rest_of p xs) → IsIn x xs) → IsIn x (y ∷ xs)
      at true i rec = inr (rec i)
      at false i rec = i

  -- what all up to it pass is taken
  pub is-taken : (p : A → Bool) (xs : List A) (x : A) → IsIn x xs → p x ≡ true → ((y : A) → IsBefore y x xs → p y ≡ true) → IsIn x (front_of p xs)
  is-taken p [] x i passes all = absurd i
  is-taken p (y ∷ xs) x i passes all = elim i [
    | inl same ↦ subst (λ b. IsIn x (cond b (y ∷ front_of p xs) [])) (sym (ap p (sym same) ∙ passes)) (inl same)
    | inr later ↦
        subst (λ b. IsIn x (cond b (y ∷ front_of p xs) [])) (sym (all y (inl (refl, later))))
        (inr (is-taken p xs x later passes (λ z before. all z (inr before))))
  ]
