-- What holds of each element of a list, and what stands in one.
use Rattle.std.proofs.Common.{◌≡◌, ℕ, ◌+◌, ◌<◌, ◌≤◌, ◌⊎◌, List, [], ◌∷◌, ◌++◌, filter, All, Contains, Option, Some, None, Bool, true, false, cond, zero, suc, inl, inr, refl, ap, sym, ◌∙◌, subst, arith}
use Rattle.std.specs.List.{range_with_len, filter_map, cons_option}
use Rattle.std.proofs.lemmas.Bool.{cases_lt}
use Rattle.std.proofs.lemmas.List.Elements.{All-append}

all_one : {X : Type 0} (P : X → Type 0) (x : X) → P x → All P (x ∷ [])
all_one P x holds zero d within = holds
all_one P x holds (suc k) d within = absurd (omega arith)

pub all_pushed : {X : Type 0} (P : X → Type 0) (xs ys : List X) (x : X) → ys ≡ xs ++ x ∷ [] → All P xs → P x → All P ys
all_pushed P xs ys x is all holds = subst (All P) (sym is) (All-append P xs (x ∷ []) all (all_one P x holds))

-- ---- members of lists

abbrev pub IsIn : {X : Type 0} → X → List X → Type 0
IsIn x [] = ⊥
IsIn x (y ∷ ys) = (x ≡ y) ⊎ IsIn x ys

pub contains : {X : Type 0} (xs : List X) (x : X) → IsIn x xs → Contains xs x
contains [] x at = absurd at
contains (y ∷ ys) x (inl same) = (0, omega arith, sym same)
contains (y ∷ ys) x (inr at) = let behind = contains ys x at in (suc behind.0, omega (arith, behind.1), behind.2)

pub is_in : {X : Type 0} (xs : List X) (x : X) → Contains xs x → IsIn x xs
is_in [] x (k, within, at) = absurd (omega arith)
is_in (y ∷ ys) x (zero, within, at) = inl (sym at)
is_in (y ∷ ys) x (suc k, within, at) = inr (is_in ys x (k, omega arith, at))

pub in_range : (from n k : ℕ) → from ≤ k → k < from + n → IsIn k (range_with_len from n)
in_range from zero k low high = absurd (omega arith)
in_range from (suc n) k low high =
    elim (cases_lt from k) [
      | inl above ↦ inr (in_range (from + 1) n k (omega arith) (omega arith))
      | inr there ↦ inl (omega arith)
    ]

in_more : {Y : Type 0} (o : Option Y) (ys : List Y) (y : Y) → IsIn y ys → IsIn y (cons_option o ys)
in_more None ys y at = at
in_more (Some z) ys y at = inr at

pub in_mapped : {X Y : Type 0} (h : X → Option Y) (xs : List X) (x : X) (y : Y) → IsIn x xs → h x ≡ Some y
    → IsIn y (filter_map h xs)
in_mapped h [] x y at is = absurd at
in_mapped h (z ∷ zs) x y (inl same) is =
    let P : Option _ → Type 0 = λ o. IsIn y (cons_option o (filter_map h zs)) in
    subst P (sym (ap h (sym same) ∙ is)) (inl refl)
in_mapped h (z ∷ zs) x y (inr at) is = in_more (h z) (filter_map h zs) y (in_mapped h zs x y at is)

mapped_here : {X Y : Type 0} (h : X → Option Y) (z : X) (o : Option Y) (ys : List Y) (y : Y) → h z ≡ o
    → (IsIn y ys → (x : X) × (h x ≡ Some y)) → IsIn y (cons_option o ys) → (x : X) × (h x ≡ Some y)
mapped_here h z None ys y is behind at = behind at
mapped_here h z (Some w) ys y is behind (inl same) = (z, is ∙ ap Some (sym same))
mapped_here h z (Some w) ys y is behind (inr at) = behind at

pub mapped_from : {X Y : Type 0} (h : X → Option Y) (xs : List X) (y : Y) → IsIn y (filter_map h xs)
    → (x : X) × (h x ≡ Some y)
mapped_from h [] y at = absurd at
mapped_from h (z ∷ zs) y at = mapped_here h z (h z) (filter_map h zs) y refl (mapped_from h zs y) at

in_kept : {X : Type 0} (b : Bool) (x y : X) (ys : List X) → IsIn x ys → IsIn x (cond b (y ∷ ys) ys)
in_kept true x y ys at = inr at
in_kept false x y ys at = at

pub in_passing : {X : Type 0} (p : X → Bool) (xs : List X) (x : X) → IsIn x xs → p x ≡ true → IsIn x (filter p xs)
in_passing p [] x at pass = absurd at
in_passing p (y ∷ ys) x (inl same) pass =
    let P : Bool → Type 0 = λ b. IsIn x (cond b (y ∷ filter p ys) (filter p ys)) in
    subst P (sym (ap p (sym same) ∙ pass)) (inl same)
in_passing p (y ∷ ys) x (inr at) pass = in_kept (p y) x y (filter p ys) (in_passing p ys x at pass)

passing_here : {X : Type 0} (p : X → Bool) (y : X) (b : Bool) (ys rest : List X) (x : X) → p y ≡ b
    → (IsIn x ys → IsIn x rest × (p x ≡ true)) → IsIn x (cond b (y ∷ ys) ys) → IsIn x (y ∷ rest) × (p x ≡ true)
passing_here p y true ys rest x is behind (inl same) = (inl same, ap p same ∙ is)
passing_here p y true ys rest x is behind (inr at) = let here = behind at in (inr here.0, here.1)
passing_here p y false ys rest x is behind at = let here = behind at in (inr here.0, here.1)

pub passing_from : {X : Type 0} (p : X → Bool) (xs : List X) (x : X) → IsIn x (filter p xs)
    → IsIn x xs × (p x ≡ true)
passing_from p [] x at = absurd at
passing_from p (y ∷ ys) x at = passing_here p y (p y) (filter p ys) ys x refl (passing_from p ys x) at
