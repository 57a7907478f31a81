-- The first of the values with a key, by the positions of a set.
use Rattle.std.proofs.Common.{◌≡◌, inl, inr, ℕ, ◌+◌, ◌<◌, true, false, List, Option, arith}
use Rattle.std.proofs.lemmas.Bool.{cases_Bool, cases_eq, cases_lt}
use Rattle.r6_waiters.specs.Keys.{is_keyed, HasNoneKeyed}
use Rattle.r6_waiters.specs.Positions.{has, HasNoneFrom, IsLowestFrom}
use Rattle.r6_waiters.specs.Sets.{Places}

-- a position that is not in the set has no value with the key
unkeyed : {X : Type 0} (key_of : X → Option ℕ) (key : ℕ) (places : Places X) (set : List ℕ) (i : ℕ) → (is_keyed key_of key places i ≡ true → has set i ≡ true) → has set i ≡ false → is_keyed key_of key places i ≡ false
unkeyed key_of key places set i all out =
    elim (cases_Bool (is_keyed key_of key places i)) [ inl there ↦ let held = all there in absurd (cc (held, out)) | inr none ↦ none ]

pub none-before : {X : Type 0} (key_of : X → Option ℕ) (key : ℕ) (places : Places X) (set : List ℕ) (from p : ℕ) → ((i : ℕ) → is_keyed key_of key places i ≡ true → has set i ≡ true) → IsLowestFrom set from p
    → ((i : ℕ) → i < from → is_keyed key_of key places i ≡ false) → (i : ℕ) → i < p → is_keyed key_of key places i ≡ false
none-before key_of key places set from p all lowest none i before =
    elim (cases_lt i from) [ inl early ↦ none i early | inr late ↦ unkeyed key_of key places set i (all i) (lowest.2 i late before) ]

pub none-left : {X : Type 0} (key_of : X → Option ℕ) (key : ℕ) (places : Places X) (set : List ℕ) (from : ℕ) → ((i : ℕ) → is_keyed key_of key places i ≡ true → has set i ≡ true) → HasNoneFrom set from
    → ((i : ℕ) → i < from → is_keyed key_of key places i ≡ false) → HasNoneKeyed key_of key places
none-left key_of key places set from all empty none i =
    elim (cases_lt i from) [ inl early ↦ none i early | inr late ↦ unkeyed key_of key places set i (all i) (empty i late) ]

pub none-more : {X : Type 0} (key_of : X → Option ℕ) (key : ℕ) (places : Places X) (p : ℕ) → ((i : ℕ) → i < p → is_keyed key_of key places i ≡ false) → is_keyed key_of key places p ≡ false
    → (i : ℕ) → i < p + 1 → is_keyed key_of key places i ≡ false
none-more key_of key places p before last i below = elim (cases_eq i p) [ inl here ↦ rw here last | inr other ↦ before i (omega arith) ]
