-- All entries moved to one cause, cause by cause.
use Rattle.std.proofs.Common.{◌≡◌, ℕ, suc, ◌+◌, ◌<◌, Bool, true, [], ◌∷◌, refl, ap, ◌∙◌, Some, None, arith}
use Rattle.std.specs.Prelude.{◌==◌, nat_lt, if◌then◌else◌}
use Rattle.std.proofs.lemmas.Bool.{lt-ltb, le-ltb}
use Rattle.std.proofs.lemmas.Bool.Decides.{nat_tests}
use Rattle.r6_waiters.specs.Line.{Entries, all_moved, gathered, AreBelow}
use Rattle.r6_waiters.specs.Sets.{Places, is_there, waiting}

-- the entries that waited for one of the first causes wait for the cause
abbrev pub gathered_below : {X : Type 0} → ℕ → ℕ → Entries X → Entries X
gathered_below n cause [] = []
gathered_below n cause (entry ∷ entries) = ((if nat_lt entry.0 n then cause else entry.0), entry.1) ∷ gathered_below n cause entries

pub gathered-none : {X : Type 0} (cause : ℕ) (entries : Entries X) → gathered_below 0 cause entries ≡ entries
gathered-none cause [] = refl
gathered-none cause (entry ∷ entries) =
    ap (λ (b : Bool). ((if b then cause else entry.0), entry.1) ∷ gathered_below 0 cause entries) (le-ltb entry.0 0 (omega arith))
    ∙ ap (λ (es : Entries _). entry ∷ es) (gathered-none cause entries)

one_more : (k n cause : ℕ) → (if (if nat_lt k n then cause else k) == n then cause else (if nat_lt k n then cause else k)) ≡ (if nat_lt k (n + 1) then cause else k)
one_more k n cause = grind (arith, nat_tests)

pub gathered-more : {X : Type 0} (n cause : ℕ) (entries : Entries X) → all_moved n cause (gathered_below n cause entries) ≡ gathered_below (n + 1) cause entries
gathered-more n cause [] = refl
gathered-more n cause (entry ∷ entries) =
    ap (λ (k : ℕ). (k, entry.1) ∷ all_moved n cause (gathered_below n cause entries)) (one_more entry.0 n cause)
    ∙ ap (λ (es : Entries _). ((if nat_lt entry.0 (n + 1) then cause else entry.0), entry.1) ∷ es) (gathered-more n cause entries)

pub gathered-all : {X : Type 0} (n cause : ℕ) (entries : Entries X) → AreBelow n entries → gathered_below n cause entries ≡ gathered cause entries
gathered-all n cause [] below = refl
gathered-all n cause (entry ∷ entries) below =
    ap (λ (b : Bool). ((if b then cause else entry.0), entry.1) ∷ gathered_below n cause entries) (lt-ltb entry.0 n below.0)
    ∙ ap (λ (es : Entries _). (cause, entry.1) ∷ es) (gathered-all n cause entries below.1)

-- each entry waits for a cause that there is
pub waiting-below : {X : Type 0} (n : ℕ) (f : ℕ → ℕ) (places : Places X) → ((i : ℕ) → is_there places i ≡ true → f i < n) → AreBelow n (waiting f places)
waiting-below n f [] within = tt
waiting-below n f ((m, None) ∷ places) within = waiting-below n (λ i. f (suc i)) places (λ i there. within (suc i) there)
waiting-below n f ((m, Some v) ∷ places) within = (within 0 refl, waiting-below n (λ i. f (suc i)) places (λ i there. within (suc i) there))
