-- A case of an option that is known.
use Rattle.std.proofs.Common.{◌≡◌, Option, Some, None, MatchOption, subst, sym}
use Rattle.std.specs.Prelude.{IfSome}

pub at_none : {X : Type 0} (o : Option X) (P : Type 0) (Q : X → Type 0) → o ≡ None → P → MatchOption o P Q
at_none o P Q is p = subst (λ v. MatchOption v P Q) (sym is) p

pub if_none : {X : Type 0} (o : Option X) (P : X → Type 0) → o ≡ None → IfSome o P
if_none None P is = tt
if_none (Some x) P is = absurd (cc)
