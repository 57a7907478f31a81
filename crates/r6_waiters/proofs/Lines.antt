-- Which entries wait after a write of a place, or of the cause of one.
use Rattle.std.proofs.Common.{◌≡◌, ℕ, zero, suc, ◌+◌, ◌<◌, Bool, true, false, [], ◌∷◌, ◌++◌, length, set, refl, sym, ap, ◌∙◌, Option, Some, None, is_some, arith}
use Rattle.std.specs.Prelude.{◌==◌, nat_lt, if◌then◌else◌}
use Rattle.std.specs.List.{filter}
use Rattle.std.proofs.lemmas.Bool.{eq-eqb, ne_eqb, lt-ltb, le-ltb}
use Rattle.r6_waiters.specs.Line.{Entries, oldest_of, without_oldest, oldest_moved, all_moved}
use Rattle.r6_waiters.specs.Sets.{Places, place_at, is_there, with_entry, waiting}

-- the cause counts only where an entry is
pub waiting-same : {X : Type 0} (f g : ℕ → ℕ) (places : Places X) → ((i : ℕ) → is_there places i ≡ true → f i ≡ g i) → waiting f places ≡ waiting g places
waiting-same f g [] same = refl
waiting-same f g ((m, None) ∷ places) same = waiting-same (λ i. f (suc i)) (λ i. g (suc i)) places (λ i there. same (suc i) there)
waiting-same f g ((m, Some v) ∷ places) same =
    ap (λ (c : ℕ). (c, v) ∷ waiting (λ i. f (suc i)) places) (same 0 refl)
    ∙ ap (λ (es : Entries _). (g 0, v) ∷ es) (waiting-same (λ i. f (suc i)) (λ i. g (suc i)) places (λ i there. same (suc i) there))

pub waiting-pushed : {X : Type 0} (f : ℕ → ℕ) (places : Places X) (m : ℕ) (v : X) → waiting f (places ++ (m, Some v) ∷ []) ≡ waiting f places ++ (f (length places), v) ∷ []
waiting-pushed f [] m v = refl
waiting-pushed f ((n, None) ∷ places) m v = waiting-pushed (λ i. f (suc i)) places m v
waiting-pushed f ((n, Some w) ∷ places) m v = ap (λ (es : Entries _). (f 0, w) ∷ es) (waiting-pushed (λ i. f (suc i)) places m v)

-- the oldest entry of the cause is at the position
pub record IsOldest {X : Type 0} (f : ℕ → ℕ) (places : Places X) (cause p : ℕ) : Type 0 where
  pub there : is_there places p ≡ true
  pub waits : f p ≡ cause
  pub first : (q : ℕ) → q < p → is_there places q ≡ true → f q ≡ cause → ⊥

later : {X : Type 0} (f : ℕ → ℕ) (place : ℕ × Option X) (places : Places X) (cause p : ℕ) → IsOldest f (place ∷ places) cause (suc p) → IsOldest (λ i. f (suc i)) places cause p
later f place places cause p oldest =
    record { there = oldest.there; waits = oldest.waits; first = λ q before there. oldest.first (suc q) (omega arith) there }

other_first : {X : Type 0} (f : ℕ → ℕ) (m : ℕ) (v : X) (places : Places X) (cause p : ℕ) → IsOldest f ((m, Some v) ∷ places) cause (suc p) → (f 0 == cause) ≡ false
other_first f m v places cause p oldest = ne_eqb (f 0) cause (oldest.first 0 (omega arith) refl)

pub oldest-found : {X : Type 0} (f : ℕ → ℕ) (places : Places X) (cause p : ℕ) → IsOldest f places cause p → oldest_of cause (waiting f places) ≡ (place_at places p).1
oldest-found f [] cause p oldest = absurd (cc oldest.there)
oldest-found f ((m, None) ∷ places) cause zero oldest = absurd (cc oldest.there)
oldest-found f ((m, Some v) ∷ places) cause zero oldest =
    ap (λ (b : Bool). if b then Some v else oldest_of cause (waiting (λ i. f (suc i)) places)) (eq-eqb (f 0) cause oldest.waits)
oldest-found f ((m, None) ∷ places) cause (suc p) oldest = oldest-found (λ i. f (suc i)) places cause p (later f (m, None) places cause p oldest)
oldest-found f ((m, Some v) ∷ places) cause (suc p) oldest =
    ap (λ (b : Bool). if b then Some v else oldest_of cause (waiting (λ i. f (suc i)) places)) (other_first f m v places cause p oldest)
    ∙ oldest-found (λ i. f (suc i)) places cause p (later f (m, Some v) places cause p oldest)

pub waiting-taken : {X : Type 0} (f : ℕ → ℕ) (places : Places X) (cause p k : ℕ) → IsOldest f places cause p
    → waiting f (set places p (k, None)) ≡ without_oldest cause (waiting f places)
waiting-taken f [] cause p k oldest = absurd (cc oldest.there)
waiting-taken f ((m, None) ∷ places) cause zero k oldest = absurd (cc oldest.there)
waiting-taken f ((m, Some v) ∷ places) cause zero k oldest =
    let rest = waiting (λ i. f (suc i)) places in
    sym (ap (λ (b : Bool). if b then rest else (f 0, v) ∷ without_oldest cause rest) (eq-eqb (f 0) cause oldest.waits))
waiting-taken f ((m, None) ∷ places) cause (suc p) k oldest = waiting-taken (λ i. f (suc i)) places cause p k (later f (m, None) places cause p oldest)
waiting-taken f ((m, Some v) ∷ places) cause (suc p) k oldest =
    let rest = waiting (λ i. f (suc i)) places in
    ap (λ (es : Entries _). (f 0, v) ∷ es) (waiting-taken (λ i. f (suc i)) places cause p k (later f (m, Some v) places cause p oldest))
    ∙ sym (ap (λ (b : Bool). if b then rest else (f 0, v) ∷ without_oldest cause rest) (other_first f m v places cause p oldest))

pub length-taken : {X : Type 0} (f : ℕ → ℕ) (places : Places X) (cause p k : ℕ) → IsOldest f places cause p
    → length (waiting f (set places p (k, None))) + 1 ≡ length (waiting f places)
length-taken f [] cause p k oldest = absurd (cc oldest.there)
length-taken f ((m, None) ∷ places) cause zero k oldest = absurd (cc oldest.there)
length-taken f ((m, Some v) ∷ places) cause zero k oldest = omega arith
length-taken f ((m, None) ∷ places) cause (suc p) k oldest = length-taken (λ i. f (suc i)) places cause p k (later f (m, None) places cause p oldest)
length-taken f ((m, Some v) ∷ places) cause (suc p) k oldest =
    let rest = length-taken (λ i. f (suc i)) places cause p k (later f (m, Some v) places cause p oldest) in
    omega (arith, rest)

pub waiting-moved : {X : Type 0} (f g : ℕ → ℕ) (places : Places X) (from to p : ℕ) → IsOldest f places from p → g p ≡ to → ((q : ℕ) → (q ≡ p → ⊥) → g q ≡ f q)
    → waiting g places ≡ oldest_moved from to (waiting f places)
waiting-moved f g [] from to p oldest moved same = absurd (cc oldest.there)
waiting-moved f g ((m, None) ∷ places) from to zero oldest moved same = absurd (cc oldest.there)
waiting-moved f g ((m, Some v) ∷ places) from to zero oldest moved same =
    let rest = waiting (λ i. f (suc i)) places in
    ap (λ (c : ℕ). (c, v) ∷ waiting (λ i. g (suc i)) places) moved
    ∙ ap (λ (es : Entries _). (to, v) ∷ es) (waiting-same (λ i. g (suc i)) (λ i. f (suc i)) places (λ i there. same (suc i) (λ e. omega arith)))
    ∙ sym (ap (λ (b : Bool). if b then (to, v) ∷ rest else (f 0, v) ∷ oldest_moved from to rest) (eq-eqb (f 0) from oldest.waits))
waiting-moved f g ((m, None) ∷ places) from to (suc p) oldest moved same =
    waiting-moved (λ i. f (suc i)) (λ i. g (suc i)) places from to p (later f (m, None) places from p oldest) moved (λ q other. same (suc q) (λ e. other (omega arith)))
waiting-moved f g ((m, Some v) ∷ places) from to (suc p) oldest moved same =
    let rest = waiting (λ i. f (suc i)) places in
    ap (λ (c : ℕ). (c, v) ∷ waiting (λ i. g (suc i)) places) (same 0 (λ e. omega arith))
    ∙ ap (λ (es : Entries _). (f 0, v) ∷ es) (waiting-moved (λ i. f (suc i)) (λ i. g (suc i)) places from to p (later f (m, Some v) places from p oldest) moved (λ q other. same (suc q) (λ e. other (omega arith))))
    ∙ sym (ap (λ (b : Bool). if b then (to, v) ∷ rest else (f 0, v) ∷ oldest_moved from to rest) (other_first f m v places from p oldest))

-- no entry waits for the cause
pub record HasNoneOf {X : Type 0} (f : ℕ → ℕ) (places : Places X) (cause : ℕ) : Type 0 where
  pub none : (q : ℕ) → is_there places q ≡ true → f q ≡ cause → ⊥

none_later : {X : Type 0} (f : ℕ → ℕ) (place : ℕ × Option X) (places : Places X) (cause : ℕ) → HasNoneOf f (place ∷ places) cause → HasNoneOf (λ i. f (suc i)) places cause
none_later f place places cause none = record { none = λ q there. none.none (suc q) there }

pub oldest-none : {X : Type 0} (f : ℕ → ℕ) (places : Places X) (cause : ℕ) → HasNoneOf f places cause → oldest_of cause (waiting f places) ≡ None
oldest-none f [] cause none = refl
oldest-none f ((m, None) ∷ places) cause none = oldest-none (λ i. f (suc i)) places cause (none_later f (m, None) places cause none)
oldest-none f ((m, Some v) ∷ places) cause none =
    ap (λ (b : Bool). if b then Some v else oldest_of cause (waiting (λ i. f (suc i)) places)) (ne_eqb (f 0) cause (none.none 0 refl))
    ∙ oldest-none (λ i. f (suc i)) places cause (none_later f (m, Some v) places cause none)

pub without-none : {X : Type 0} (cause : ℕ) (entries : Entries X) → oldest_of cause entries ≡ None → without_oldest cause entries ≡ entries
without-none cause [] none = refl
without-none cause (entry ∷ entries) none =
    elim (entry.0 == cause) as (λ b. (if b then Some entry.1 else oldest_of cause entries) ≡ None → (if b then entries else entry ∷ without_oldest cause entries) ≡ entry ∷ entries) [
      | true ↦ λ e. absurd (cc e)
      | false ↦ λ e. ap (λ (es : Entries _). entry ∷ es) (without-none cause entries e)
    ] none

pub moved-none : {X : Type 0} (from to : ℕ) (entries : Entries X) → oldest_of from entries ≡ None → oldest_moved from to entries ≡ entries
moved-none from to [] none = refl
moved-none from to (entry ∷ entries) none =
    elim (entry.0 == from) as (λ b. (if b then Some entry.1 else oldest_of from entries) ≡ None → (if b then (to, entry.1) ∷ entries else entry ∷ oldest_moved from to entries) ≡ entry ∷ entries) [
      | true ↦ λ e. absurd (cc e)
      | false ↦ λ e. ap (λ (es : Entries _). entry ∷ es) (moved-none from to entries e)
    ] none

pub length-moved : {X : Type 0} (from to : ℕ) (entries : Entries X) → length (oldest_moved from to entries) ≡ length entries
length-moved from to [] = refl
length-moved from to (entry ∷ entries) =
    elim (entry.0 == from) as (λ b. length (if b then (to, entry.1) ∷ entries else entry ∷ oldest_moved from to entries) ≡ length (entry ∷ entries)) [
      | true ↦ refl
      | false ↦ ap (λ (n : ℕ). suc n) (length-moved from to entries)
    ]

-- all that wait for one cause wait for another
pub waiting-all_moved : {X : Type 0} (f g : ℕ → ℕ) (places : Places X) (from to : ℕ) → ((i : ℕ) → g i ≡ (if f i == from then to else f i))
    → waiting g places ≡ all_moved from to (waiting f places)
waiting-all_moved f g [] from to moved = refl
waiting-all_moved f g ((m, None) ∷ places) from to moved = waiting-all_moved (λ i. f (suc i)) (λ i. g (suc i)) places from to (λ i. moved (suc i))
waiting-all_moved f g ((m, Some v) ∷ places) from to moved =
    ap (λ (c : ℕ). (c, v) ∷ waiting (λ i. g (suc i)) places) (moved 0)
    ∙ ap (λ (es : Entries _). ((if f 0 == from then to else f 0), v) ∷ es) (waiting-all_moved (λ i. f (suc i)) (λ i. g (suc i)) places from to (λ i. moved (suc i)))

pub length-all_moved : {X : Type 0} (from to : ℕ) (entries : Entries X) → length (all_moved from to entries) ≡ length entries
length-all_moved from to [] = refl
length-all_moved from to (entry ∷ entries) = ap (λ (n : ℕ). suc n) (length-all_moved from to entries)

-- the entries with the causes that stand beside them
abbrev pub live : {X : Type 0} → Places X → Entries X
live [] = []
live (place ∷ places) = with_entry place.0 place.1 (live places)

pub waiting-live : {X : Type 0} (f : ℕ → ℕ) (places : Places X) → ((i : ℕ) → is_there places i ≡ true → (place_at places i).0 ≡ f i) → waiting f places ≡ live places
waiting-live f [] same = refl
waiting-live f ((m, None) ∷ places) same = waiting-live (λ i. f (suc i)) places (λ i there. same (suc i) there)
waiting-live f ((m, Some v) ∷ places) same =
    ap (λ (c : ℕ). (c, v) ∷ waiting (λ i. f (suc i)) places) (sym (same 0 refl))
    ∙ ap (λ (es : Entries _). (m, v) ∷ es) (waiting-live (λ i. f (suc i)) places (λ i there. same (suc i) there))

abbrev pub has_value : {X : Type 0} → ℕ × Option X → Bool
has_value place = is_some place.1

pub live-swept : {X : Type 0} (places : Places X) → live (filter has_value places) ≡ live places
live-swept [] = refl
live-swept ((m, None) ∷ places) = live-swept places
live-swept ((m, Some v) ∷ places) = ap (λ (es : Entries _). (m, v) ∷ es) (live-swept places)

pub length-swept : {X : Type 0} (places : Places X) → length (filter has_value places) ≡ length (live places)
length-swept [] = refl
length-swept ((m, None) ∷ places) = length-swept places
length-swept ((m, Some v) ∷ places) = ap (λ (n : ℕ). suc n) (length-swept places)

pub there-swept : {X : Type 0} (places : Places X) (i : ℕ) → is_there (filter has_value places) i ≡ nat_lt i (length (filter has_value places))
there-swept [] i = sym (le-ltb i 0 (omega arith))
there-swept ((m, None) ∷ places) i = there-swept places i
there-swept ((m, Some v) ∷ places) zero = sym (lt-ltb 0 (suc (length (filter has_value places))) (omega arith))
there-swept ((m, Some v) ∷ places) (suc i) = there-swept places i ∙ grind arith

-- a cause that stands beside an entry after the sweep stood beside one before
pub place-swept : {X : Type 0} (places : Places X) (i : ℕ) → is_there (filter has_value places) i ≡ true
    → (j : ℕ) × (is_there places j ≡ true) × (place_at (filter has_value places) i ≡ place_at places j)
place-swept [] i there = absurd (cc there)
place-swept ((m, None) ∷ places) i there = let rest = place-swept places i there in (suc rest.0, rest.1, rest.2)
place-swept ((m, Some v) ∷ places) zero there = (0, refl, refl)
place-swept ((m, Some v) ∷ places) (suc i) there = let rest = place-swept places i there in (suc rest.0, rest.1, rest.2)
