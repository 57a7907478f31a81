-- The last of a list is taken.
use Rattle.std.proofs.Common.{arith, ◌≡◌, ◌+◌, ◌∙◌, ◌++◌, [], ◌∷◌, List, All, length, get_or, ap, subst}
use Rattle.std.proofs.lemmas.List.{length-append, get_or_append_left}
use Rattle.std.proofs.Math.Seq.{get_or-append_seam}

-- what is true of all is true of the last, and of those that stay
pub last_of : {X : Type 0} (P : X → Type 0) (all rest : List X) (x : X) → all ≡ rest ++ x ∷ [] → All P all → P x × All P rest
last_of P all rest x is each =
    let long : length all ≡ length rest + 1 = ap length is ∙ length-append rest (x ∷ []) in (
      subst P (ap (λ xs. get_or xs (length rest) x) is ∙ get_or-append_seam rest x [] x) (each (length rest) x (omega (arith, long))),
      λ i d below. subst P (ap (λ xs. get_or xs i d) is ∙ get_or_append_left rest (x ∷ []) d i below) (each i d (omega (arith, long, below))),
    )
