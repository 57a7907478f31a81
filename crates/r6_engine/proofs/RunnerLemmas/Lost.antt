-- Lists of which none is lost, in whatever order.
use Rattle.std.proofs.Common.{List, [], ◌∷◌, ◌++◌, append_assoc, sym, subst}
use Rattle.std.specs.Prelude.{IsPermutation}
use Rattle.std.proofs.lemmas.List.Sorted.{IsPermutation-append_comm, IsPermutation-append_left, IsPermutation-append_right, IsPermutation-trans}

-- one more, which stands behind all
pub one-behind : {X : Type 0} (all here there : List X) (x : X) → IsPermutation all (here ++ there)
    → IsPermutation (all ++ x ∷ []) (here ++ (there ++ x ∷ []))
one-behind all here there x p =
    subst (IsPermutation (all ++ x ∷ [])) (append_assoc here there (x ∷ [])) (IsPermutation-append_left (x ∷ []) all (here ++ there) p)

-- one more, which stands between them
pub one-between : {X : Type 0} (all here there : List X) (x : X) → IsPermutation all (here ++ there)
    → IsPermutation (all ++ x ∷ []) ((here ++ x ∷ []) ++ there)
one-between all here there x p =
    IsPermutation-trans (all ++ x ∷ []) (here ++ (there ++ x ∷ [])) ((here ++ x ∷ []) ++ there) (one-behind all here there x p)
    (subst (IsPermutation (here ++ (there ++ x ∷ []))) (sym (append_assoc here (x ∷ []) there))
    (IsPermutation-append_right here (there ++ x ∷ []) (x ∷ [] ++ there) (IsPermutation-append_comm there (x ∷ []))))
