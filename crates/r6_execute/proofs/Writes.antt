-- What a writer holds after several calls.
use Rattle.std.proofs.Common.{◌≡◌, ℕ, List, ◌∙◌, ◌++◌, ap, Option, None, Some, Result, Ok, Err, OnOk}
use Rattle.std.specs.Io.KnownBytes.{Appends, Keeps}

pub on_ok : {T E : Type 0} {P : Type 0} (result : Result T E) → P → OnOk result P
on_ok (Ok value) fact = fact
on_ok (Err error) fact = tt

-- what was appended stays while the writer keeps what it holds
pub appends_kept : (old mid new : Option (List ℕ)) (bytes text : List ℕ) → bytes ≡ text → Appends old mid bytes → Keeps mid new → Appends old new text
appends_kept None mid new bytes text same appends keeps = tt
appends_kept (Some xs) None new bytes text same appends keeps = absurd appends
appends_kept (Some xs) (Some ys) None bytes text same appends keeps = absurd keeps
appends_kept (Some xs) (Some ys) (Some zs) bytes text same appends keeps =
    keeps ∙ appends ∙ ap (λ (more : List ℕ). xs ++ more) same
