-- The oldest entry with a key, and what the sets of the keys say after a write of one of them.
use Rattle.std.proofs.Common.{◌≡◌, inl, inr, ℕ, zero, suc, ◌+◌, ◌<◌, ◌%◌, Bool, true, false, List, [], ◌∷◌, ◌++◌, length, get_or, set, refl, sym, ap, subst, ◌∙◌, Option, Some, None, is_some, arith}
use Rattle.std.specs.Prelude.{◌==◌, ◌&&◌, nat_lt, if◌then◌else◌}
use Rattle.std.proofs.lemmas.Bool.{eq-eqb, ne_eqb, eqb-true, cases_eq, cases_lt, lt-ltb, le-ltb}
use Rattle.std.proofs.lemmas.Bool.Decides.{nat_tests}
use Rattle.std.proofs.lemmas.List.{get_or-set_same, get_or-set_other, get_or_push, get_or_append_left, length_push, length-set, get_or_read}
use Rattle.r6_waiters.specs.Keys.{classes, class_of, class_in, class_at, has_key, is_keyed, AreClassed, HasNoneKeyed, IsFirstKeyed}
use Rattle.r6_waiters.specs.Line.{Entries, is_key, oldest_keyed, without_oldest_keyed}
use Rattle.r6_waiters.specs.Positions.{has}
use Rattle.r6_waiters.specs.Sets.{Places, place_at, is_there, is_marked, waiting, IsMarked}
use Rattle.r6_waiters.proofs.Marks.{marked-put, marked-pushed, marked-taken, past-none, there-within, mark-there, there-mark}

-- ---- entries

later : {X : Type 0} (key_of : X → Option ℕ) (key : ℕ) (place : ℕ × Option X) (places : Places X) (p : ℕ) → IsFirstKeyed key_of key (place ∷ places) (suc p) → IsFirstKeyed key_of key places p
later key_of key place places p first = (first.0, λ q before. first.1 (suc q) (omega arith))

pub keyed-found : {X : Type 0} (key_of : X → Option ℕ) (key : ℕ) (f : ℕ → ℕ) (places : Places X) (p : ℕ) → IsFirstKeyed key_of key places p → oldest_keyed key_of key (waiting f places) ≡ (place_at places p).1
keyed-found key_of key f [] p first = absurd (cc first.0)
keyed-found key_of key f ((m, None) ∷ places) zero first = absurd (cc first.0)
keyed-found key_of key f ((m, Some v) ∷ places) zero first =
    ap (λ (b : Bool). if b then Some v else oldest_keyed key_of key (waiting (λ i. f (suc i)) places)) first.0
keyed-found key_of key f ((m, None) ∷ places) (suc p) first = keyed-found key_of key (λ i. f (suc i)) places p (later key_of key (m, None) places p first)
keyed-found key_of key f ((m, Some v) ∷ places) (suc p) first =
    ap (λ (b : Bool). if b then Some v else oldest_keyed key_of key (waiting (λ i. f (suc i)) places)) (first.1 0 (omega arith))
    ∙ keyed-found key_of key (λ i. f (suc i)) places p (later key_of key (m, Some v) places p first)

pub waiting-keyed_out : {X : Type 0} (key_of : X → Option ℕ) (key : ℕ) (f : ℕ → ℕ) (places : Places X) (p k : ℕ) → IsFirstKeyed key_of key places p
    → waiting f (set places p (k, None)) ≡ without_oldest_keyed key_of key (waiting f places)
waiting-keyed_out key_of key f [] p k first = absurd (cc first.0)
waiting-keyed_out key_of key f ((m, None) ∷ places) zero k first = absurd (cc first.0)
waiting-keyed_out key_of key f ((m, Some v) ∷ places) zero k first =
    let rest = waiting (λ i. f (suc i)) places in
    sym (ap (λ (b : Bool). if b then rest else (f 0, v) ∷ without_oldest_keyed key_of key rest) first.0)
waiting-keyed_out key_of key f ((m, None) ∷ places) (suc p) k first = waiting-keyed_out key_of key (λ i. f (suc i)) places p k (later key_of key (m, None) places p first)
waiting-keyed_out key_of key f ((m, Some v) ∷ places) (suc p) k first =
    let rest = waiting (λ i. f (suc i)) places in
    ap (λ (es : Entries _). (f 0, v) ∷ es) (waiting-keyed_out key_of key (λ i. f (suc i)) places p k (later key_of key (m, Some v) places p first))
    ∙ sym (ap (λ (b : Bool). if b then rest else (f 0, v) ∷ without_oldest_keyed key_of key rest) (first.1 0 (omega arith)))

pub keyed-none : {X : Type 0} (key_of : X → Option ℕ) (key : ℕ) (f : ℕ → ℕ) (places : Places X) → HasNoneKeyed key_of key places → oldest_keyed key_of key (waiting f places) ≡ None
keyed-none key_of key f [] none = refl
keyed-none key_of key f ((m, None) ∷ places) none = keyed-none key_of key (λ i. f (suc i)) places (λ q. none (suc q))
keyed-none key_of key f ((m, Some v) ∷ places) none =
    ap (λ (b : Bool). if b then Some v else oldest_keyed key_of key (waiting (λ i. f (suc i)) places)) (none 0)
    ∙ keyed-none key_of key (λ i. f (suc i)) places (λ q. none (suc q))

pub without_keyed-none : {X : Type 0} (key_of : X → Option ℕ) (key : ℕ) (f : ℕ → ℕ) (places : Places X) → HasNoneKeyed key_of key places → without_oldest_keyed key_of key (waiting f places) ≡ waiting f places
without_keyed-none key_of key f [] none = refl
without_keyed-none key_of key f ((m, None) ∷ places) none = without_keyed-none key_of key (λ i. f (suc i)) places (λ q. none (suc q))
without_keyed-none key_of key f ((m, Some v) ∷ places) none =
    let rest = waiting (λ i. f (suc i)) places in
    ap (λ (b : Bool). if b then rest else (f 0, v) ∷ without_oldest_keyed key_of key rest) (none 0)
    ∙ ap (λ (es : Entries _). (f 0, v) ∷ es) (without_keyed-none key_of key (λ i. f (suc i)) places (λ q. none (suc q)))

-- one fewer waits
pub length-out : {X : Type 0} (f : ℕ → ℕ) (places : Places X) (p k : ℕ) → is_there places p ≡ true → length (waiting f (set places p (k, None))) + 1 ≡ length (waiting f places)
length-out f [] p k there = absurd (cc there)
length-out f ((m, None) ∷ places) zero k there = absurd (cc there)
length-out f ((m, Some v) ∷ places) zero k there = omega arith
length-out f ((m, None) ∷ places) (suc p) k there = length-out (λ i. f (suc i)) places p k there
length-out f ((m, Some v) ∷ places) (suc p) k there = let rest = length-out (λ i. f (suc i)) places p k there in omega (arith, rest)

-- ---- sets

one_class : (key : ℕ) (k : Option ℕ) → is_key key k ≡ true → class_of k ≡ class_of (Some key)
one_class key None same = absurd (cc same)
one_class key (Some other) same = ap (λ (n : ℕ). n % 64) (eqb-true other key same)

value_class : {X : Type 0} (key_of : X → Option ℕ) (key : ℕ) (o : Option X) → has_key key_of key o ≡ true → (is_some o ≡ true) × (class_in key_of o ≡ class_of (Some key))
value_class key_of key None there = absurd (cc there)
value_class key_of key (Some v) there = (refl, one_class key (key_of v) there)

-- an entry with the key is in the set of its class, where each position has an entry
pub keyed-marked : {X : Type 0} (key_of : X → Option ℕ) (keyed : List (List ℕ)) (places : Places X) (key i : ℕ) → AreClassed key_of keyed places → is_keyed key_of key places i ≡ true → is_marked keyed (class_of (Some key)) i ≡ true
keyed-marked key_of keyed places key i classed there =
    let at = value_class key_of key (place_at places i).1 there in
    there-mark keyed places (λ q. class_at key_of places q) classed.marked (class_of (Some key)) i at.0 at.1

pub classed-within : {X : Type 0} (key_of : X → Option ℕ) (keyed : List (List ℕ)) (places : Places X) (class i : ℕ) → AreClassed key_of keyed places → is_marked keyed class i ≡ true → i < length places
classed-within key_of keyed places class i classed mark =
    there-within places i (mark-there keyed places (λ q. class_at key_of places q) classed.marked class i mark).0

pub keyed-there : {X : Type 0} (key_of : X → Option ℕ) (key : ℕ) (places : Places X) (i : ℕ) → is_keyed key_of key places i ≡ true → is_there places i ≡ true
keyed-there key_of key places i there = (value_class key_of key (place_at places i).1 there).0

pub classed-marked : {X : Type 0} (key_of : X → Option ℕ) (keyed : List (List ℕ)) (places : Places X) (class p : ℕ) → AreClassed key_of keyed places → is_there places p ≡ true → class ≡ class_at key_of places p → is_marked keyed class p ≡ true
classed-marked key_of keyed places class p classed there is = there-mark keyed places (λ q. class_at key_of places q) classed.marked class p there (sym is)

-- only the class of an entry that is there counts
marked-same : {X : Type 0} (sets : List (List ℕ)) (places : Places X) (f g : ℕ → ℕ) → IsMarked sets places f → ((i : ℕ) → is_there places i ≡ true → f i ≡ g i) → IsMarked sets places g
marked-same sets places f g marked same =
    record {
      marks = λ c i. marked.marks c i ∙ at c i (is_there places i) refl;
      within = λ i there. subst (λ (k : ℕ). k < length sets) (same i there) (marked.within i there);
    }
  where
    at : (c i : ℕ) (b : Bool) → is_there places i ≡ b → (b && (f i == c)) ≡ (b && (g i == c))
    at c i true there = ap (λ (k : ℕ). k == c) (same i there)
    at c i false there = refl

-- after a push
pub classed-appended : {X : Type 0} (key_of : X → Option ℕ) (keyed : List (List ℕ)) (places : Places X) (cause class p : ℕ) (v : X) (words old : List ℕ) → AreClassed key_of keyed places → class ≡ class_of (key_of v) → class < length keyed → p ≡ length places
    → old ≡ get_or keyed class old → ((i : ℕ) → has words i ≡ (if i == p then true else has old i))
    → AreClassed key_of (set keyed class words) (places ++ (cause, Some v) ∷ [])
classed-appended {X} key_of keyed places cause class p v words old classed is within last read_is bits =
    let read = get_or_read keyed class old within read_is [] in
    let put = marked-put keyed words class p true within (λ i. bits i ∙ ap (λ (l : List ℕ). if i == p then true else has l i) read) in
    record {
      many = length-set keyed class words ∙ classed.many;
      marked = marked-same (set keyed class words) (places ++ (cause, Some v) ∷ []) (λ i. if i == p then class else class_at key_of places i) (λ i. class_at key_of (places ++ (cause, Some v) ∷ []) i)
          (marked-pushed keyed (set keyed class words) places class cause p v (λ i. class_at key_of places i) classed.marked last within (length-set keyed class words) put)
          same;
    }
  where
    same : (i : ℕ) → is_there (places ++ (cause, Some v) ∷ []) i ≡ true → (if i == p then class else class_at key_of places i) ≡ class_at key_of (places ++ (cause, Some v) ∷ []) i
    same i there =
        elim (cases_eq i p) [
          | inl here ↦
              ap (λ (b : Bool). if b then class else class_at key_of places i) (eq-eqb i p here)
              ∙ is
              ∙ sym (ap (λ (place : ℕ × Option X). class_in key_of place.1) (get_or_push places (cause, Some v) (0, None) i (sym (here ∙ last))))
          | inr other ↦
              ap (λ (b : Bool). if b then class else class_at key_of places i) (ne_eqb i p other)
              ∙ elim (cases_lt i (length places)) [
                | inl inside ↦ sym (ap (λ (place : ℕ × Option X). class_in key_of place.1) (get_or_append_left places ((cause, Some v) ∷ []) (0, None) i inside))
                | inr past ↦
                    let none = past-none (places ++ (cause, Some v) ∷ []) i (omega (arith, length_push places (cause, Some v), last)) in
                    absurd (cc (none, there))
              ]
        ]

-- after an entry was taken out
pub classed-taken : {X : Type 0} (key_of : X → Option ℕ) (keyed : List (List ℕ)) (places : Places X) (class p k : ℕ) (words old : List ℕ) → AreClassed key_of keyed places → is_there places p ≡ true → class ≡ class_at key_of places p
    → old ≡ get_or keyed class old → ((i : ℕ) → has words i ≡ (if i == p then false else has old i))
    → AreClassed key_of (set keyed class words) (set places p (k, None))
classed-taken {X} key_of keyed places class p k words old classed there is read_is bits =
    let within : class < length keyed = subst (λ (n : ℕ). n < length keyed) (sym is) (classed.marked.within p there) in
    let read = get_or_read keyed class old within read_is [] in
    let put = marked-put keyed words class p false within (λ i. bits i ∙ ap (λ (l : List ℕ). if i == p then false else has l i) read) in
    record {
      many = length-set keyed class words ∙ classed.many;
      marked = marked-same (set keyed class words) (set places p (k, None)) (λ i. class_at key_of places i) (λ i. class_at key_of (set places p (k, None)) i)
          (marked-taken keyed (set keyed class words) places class p k (λ i. class_at key_of places i) classed.marked there (sym is) (length-set keyed class words) put)
          same;
    }
  where
    same : (i : ℕ) → is_there (set places p (k, None)) i ≡ true → class_at key_of places i ≡ class_at key_of (set places p (k, None)) i
    same i at =
        elim (cases_eq i p) [
          | inl here ↦
              let gone : is_there (set places p (k, None)) p ≡ false = ap (λ (place : ℕ × Option X). is_some place.1) (get_or-set_same places p (k, None) (0, None) (there-within places p there)) in
              let kept = subst (λ (n : ℕ). is_there (set places p (k, None)) n ≡ true) here at in
              absurd (cc (gone, kept))
          | inr other ↦ sym (ap (λ (place : ℕ × Option X). class_in key_of place.1) (get_or-set_other places p i (k, None) (0, None) other))
        ]

-- ---- the sets made anew

-- the first so many positions were put in
abbrev pub AreMarkedBelow : {X : Type 0} → (X → Option ℕ) → List (List ℕ) → Places X → ℕ → Type 0
AreMarkedBelow key_of keyed places n = (class i : ℕ) → is_marked keyed class i ≡ (nat_lt i n && (is_there places i && (class_at key_of places i == class)))

one_below : (t : Bool) (i n : ℕ) → (if (i == n) && t then true else (nat_lt i n && t)) ≡ (nat_lt i (n + 1) && t)
one_below true i n = grind (arith, nat_tests)
one_below false i n = grind (arith, nat_tests)

pub marked_below-more : {X : Type 0} (key_of : X → Option ℕ) (keyed after : List (List ℕ)) (places : Places X) (n : ℕ) (value : Option X) → value ≡ (place_at places n).1 → AreMarkedBelow key_of keyed places n
    → ((class i : ℕ) → is_marked after class i ≡ (if (i == n) && (is_some value && (class_in key_of value == class)) then true else is_marked keyed class i))
    → AreMarkedBelow key_of after places (n + 1)
marked_below-more {X} key_of keyed after places n value is before put class i =
    put class i
    ∙ ap (λ (b : Bool). if (i == n) && (is_some value && (class_in key_of value == class)) then true else b) (before class i)
    ∙ elim (cases_eq i n) [
      | inl here ↦
          ap (λ (o : Option X). if (i == n) && (is_some o && (class_in key_of o == class)) then true else (nat_lt i n && (is_there places i && (class_at key_of places i == class)))) (is ∙ ap (λ (m : ℕ). (place_at places m).1) (sym here))
          ∙ one_below (is_there places i && (class_at key_of places i == class)) i n
      | inr other ↦
          ap (λ (b : Bool). if b && (is_some value && (class_in key_of value == class)) then true else (nat_lt i n && (is_there places i && (class_at key_of places i == class)))) (ne_eqb i n other)
          ∙ ap (λ (b : Bool). b && (is_there places i && (class_at key_of places i == class))) (grind (arith, nat_tests))
    ]

class_small : (k : Option ℕ) → class_of k < classes
class_small None = omega arith
class_small (Some key) = omega arith

value_small : {X : Type 0} (key_of : X → Option ℕ) (o : Option X) → class_in key_of o < classes
value_small key_of None = omega arith
value_small key_of (Some v) = class_small (key_of v)

pub classed-made : {X : Type 0} (key_of : X → Option ℕ) (keyed : List (List ℕ)) (places : Places X) → length keyed ≡ classes → AreMarkedBelow key_of keyed places (length places) → AreClassed key_of keyed places
classed-made key_of keyed places many marks =
    record {
      many = many;
      marked = record {
        marks = λ class i. marks class i ∙ elim (cases_lt i (length places)) [
          | inl inside ↦ ap (λ (b : Bool). b && (is_there places i && (class_at key_of places i == class))) (lt-ltb i (length places) inside)
          | inr past ↦
              ap (λ (b : Bool). b && (is_there places i && (class_at key_of places i == class))) (le-ltb i (length places) past)
              ∙ sym (ap (λ (b : Bool). b && (class_at key_of places i == class)) (past-none places i past))
        ];
        within = λ i there. let small = value_small key_of (place_at places i).1 in omega (arith, small, many);
      };
    }

pub classed-none : {X : Type 0} (key_of : X → Option ℕ) (keyed : List (List ℕ)) → length keyed ≡ classes → ((class i : ℕ) → is_marked keyed class i ≡ false) → AreClassed {X = X} key_of keyed []
classed-none key_of keyed many none =
    record { many = many; marked = record { marks = λ class i. none class i; within = λ i there. absurd (cc there) } }
