-- Two lists side by side, and the first of a list.
use Rattle.std.proofs.Common.{◌≡◌, ℕ, suc, zero, ◌<◌, List, [], ◌∷◌, ◌++◌, refl, sym, ap, ◌∙◌, arith, length}
use Rattle.std.specs.Prelude.{slice_index_or, take, drop}
use Rattle.std.specs.List.{zip}
use Rattle.std.proofs.lemmas.List.{length-map}
use Rattle.std.proofs.lemmas.Slice.Zip.{firsts-zip}

pub as_many : {A B : Type 0} (xs : List A) (ys : List B) → length ys ≡ length xs → length (zip xs ys) ≡ length xs
as_many {A} {B} xs ys long = sym (length-map (zip xs ys) (λ (p : A × B). p.0)) ∙ ap length (firsts-zip xs ys long)

pub zip_split : {A B : Type 0} (xs ys : List A) (zs : List B) → length zs ≡ length (xs ++ ys) → zip (xs ++ ys) zs ≡ zip xs (take (length xs) zs) ++ zip ys (drop (length xs) zs)
zip_split [] ys zs long = refl
zip_split (x ∷ xs) ys [] long = absurd (omega (arith, long))
zip_split (x ∷ xs) ys (z ∷ zs) long = ap (λ rest. (x, z) ∷ rest) (zip_split xs ys zs (omega (arith, long)))

pub zip_last : {A B : Type 0} (xs : List A) (ys : List B) (x : A) (y : B) → length ys ≡ length xs → zip (xs ++ x ∷ []) (ys ++ y ∷ []) ≡ zip xs ys ++ (x, y) ∷ []
zip_last [] [] x y long = refl
zip_last [] (z ∷ ys) x y long = absurd (omega (arith, long))
zip_last (z ∷ xs) [] x y long = absurd (omega (arith, long))
zip_last (z ∷ xs) (w ∷ ys) x y long = ap (λ rest. (z, w) ∷ rest) (zip_last xs ys x y (omega (arith, long)))

-- the next one of a list, of which so many were taken
pub taken_next : (xs : List ℕ) (n x : ℕ) (rest : List ℕ) → drop n xs ≡ x ∷ rest → (take (suc n) xs ≡ take n xs ++ x ∷ []) × (drop (suc n) xs ≡ rest)
taken_next xs zero x rest e = (ap (take 1) e, ap (drop 1) e)
taken_next [] (suc n) x rest e = absurd (let long = ap length e in omega (arith, long))
taken_next (y ∷ xs) (suc n) x rest e = let more = taken_next xs n x rest e in (ap (λ list. y ∷ list) more.0, more.1)

-- the first of a list
pub first_is_front : {A : Type 0} (xs : List A) (x : A) → 0 < length xs → x ≡ slice_index_or xs 0 x → (rest : List A) × (xs ≡ x ∷ rest)
first_is_front [] x some e = absurd (omega (arith, some))
first_is_front (y ∷ xs) x some e = (xs, ap (λ z. z ∷ xs) (sym e))
