-- What each call leaves of the sets, the places and the entries that wait.
use Rattle.std.proofs.Common.{◌≡◌, inl, inr, ℕ, ◌<◌, Bool, true, false, List, [], ◌∷◌, ◌++◌, length, get_or, set, refl, sym, ap, subst, ◌∙◌, Some, None, arith}
use Rattle.std.specs.Prelude.{◌==◌, ◌&&◌, ◌||◌, if◌then◌else◌}
use Rattle.std.proofs.lemmas.Bool.{eq-eqb, ne_eqb, cases_eq}
use Rattle.std.proofs.lemmas.List.{length-set, get_or_read}
use Rattle.r6_waiters.specs.Line.{Entries, without_oldest, oldest_moved, all_moved}
use Rattle.r6_waiters.specs.Positions.{has, HasNone, IsLowest}
use Rattle.r6_waiters.specs.Sets.{Places, is_marked, cause_at, waiting, IsMarked, AreAsWide}
use Rattle.r6_waiters.proofs.Lines.{IsOldest, HasNoneOf, waiting-taken, waiting-moved, waiting-all_moved, waiting-pushed, waiting-same}
use Rattle.r6_waiters.proofs.Marks.{oldest-lowest, none-marked, marked-put, marked-taken, marked-moved, marked-all_moved, marked-pushed, marked-settled, waiting-settled, wide-set, wide-again, marked_same, marked_other, there-within, mark-within, mark-there}

-- the sets are as wide as they were, and say that these entries wait
pub record Stepped {X : Type 0} (sets after : List (List ℕ)) (places : Places X) (entries : Entries X) : Type 0 where
  pub wide : AreAsWide sets after
  pub marked : IsMarked after places (cause_at after)
  pub waits : waiting (cause_at after) places ≡ entries

settled : {X : Type 0} (sets after : List (List ℕ)) (places : Places X) (f : ℕ → ℕ) (entries : Entries X) → AreAsWide sets after → IsMarked after places f → waiting f places ≡ entries → Stepped sets after places entries
settled sets after places f entries wide marked waits =
    record { wide = wide; marked = marked-settled after places f marked; waits = waiting-settled after places f marked ∙ waits }

pub oldest-in : {X : Type 0} (sets : List (List ℕ)) (places : Places X) (cause p : ℕ) (words : List ℕ) → IsMarked sets places (cause_at sets) → cause < length sets → words ≡ get_or sets cause words
    → IsLowest words p → IsOldest (cause_at sets) places cause p
oldest-in sets places cause p words marked within is lowest =
    let read = get_or_read sets cause words within is [] in
    oldest-lowest sets places (cause_at sets) cause p marked (ap (λ (l : List ℕ). has l p) (sym read) ∙ lowest.0) (λ q before. ap (λ (l : List ℕ). has l q) (sym read) ∙ lowest.1 q before)

pub none-in : {X : Type 0} (sets : List (List ℕ)) (places : Places X) (cause : ℕ) (words : List ℕ) → IsMarked sets places (cause_at sets) → cause < length sets → words ≡ get_or sets cause words
    → HasNone words → HasNoneOf (cause_at sets) places cause
none-in sets places cause words marked within is none =
    let read = get_or_read sets cause words within is [] in
    none-marked sets places (cause_at sets) cause marked (λ q. ap (λ (l : List ℕ). has l q) (sym read) ∙ none q)

-- an entry was taken out
pub stepped-taken : {X : Type 0} (sets : List (List ℕ)) (places : Places X) (cause p k : ℕ) (words old : List ℕ) → IsMarked sets places (cause_at sets) → cause < length sets → IsOldest (cause_at sets) places cause p
    → old ≡ get_or sets cause old → ((i : ℕ) → has words i ≡ (if i == p then false else has old i)) → length words ≡ length old
    → Stepped sets (set sets cause words) (set places p (k, None)) (without_oldest cause (waiting (cause_at sets) places))
stepped-taken sets places cause p k words old marked within oldest is bits long =
    let read = get_or_read sets cause old within is [] in
    let put = marked-put sets words cause p false within (λ i. bits i ∙ ap (λ (l : List ℕ). if i == p then false else has l i) read) in
    settled sets (set sets cause words) (set places p (k, None)) (cause_at sets) (without_oldest cause (waiting (cause_at sets) places)) (wide-set sets words old cause within is long)
    (marked-taken sets (set sets cause words) places cause p k (cause_at sets) marked oldest.there oldest.waits (length-set sets cause words) put)
    (waiting-taken (cause_at sets) places cause p k oldest)

-- so was whichever entry stood at the position
pub stepped-out : {X : Type 0} (sets : List (List ℕ)) (places : Places X) (cause p k : ℕ) (words old : List ℕ) (entries : Entries X) → IsMarked sets places (cause_at sets) → is_marked sets cause p ≡ true
    → old ≡ get_or sets cause old → ((i : ℕ) → has words i ≡ (if i == p then false else has old i)) → length words ≡ length old
    → waiting (cause_at sets) (set places p (k, None)) ≡ entries
    → Stepped sets (set sets cause words) (set places p (k, None)) entries
stepped-out sets places cause p k words old entries marked mark is bits long rest =
    let within = mark-within sets cause p mark in
    let found = mark-there sets places (cause_at sets) marked cause p mark in
    let read = get_or_read sets cause old within is [] in
    let put = marked-put sets words cause p false within (λ i. bits i ∙ ap (λ (l : List ℕ). if i == p then false else has l i) read) in
    settled sets (set sets cause words) (set places p (k, None)) (cause_at sets) entries (wide-set sets words old cause within is long)
    (marked-taken sets (set sets cause words) places cause p k (cause_at sets) marked found.0 found.1 (length-set sets cause words) put)
    rest

-- the oldest entry of a cause was moved to another
pub stepped-moved : {X : Type 0} (sets : List (List ℕ)) (places : Places X) (from to p : ℕ) (words old words' old' : List ℕ) → IsMarked sets places (cause_at sets) → from < length sets → to < length sets
    → IsOldest (cause_at sets) places from p
    → old ≡ get_or sets from old → ((i : ℕ) → has words i ≡ (if i == p then false else has old i)) → length words ≡ length old
    → old' ≡ get_or (set sets from words) to old' → ((i : ℕ) → has words' i ≡ (if i == p then true else has old' i)) → length words' ≡ length old'
    → Stepped sets (set (set sets from words) to words') places (oldest_moved from to (waiting (cause_at sets) places))
stepped-moved sets places from to p words old words' old' marked from_within to_within oldest is bits long is' bits' long' =
    let mid = set sets from words in
    let mid_long = length-set sets from words in
    let within : to < length mid = omega (arith, mid_long, to_within) in
    let read = get_or_read sets from old from_within is [] in
    let read' = get_or_read mid to old' within is' [] in
    let out = marked-put sets words from p false from_within (λ i. bits i ∙ ap (λ (l : List ℕ). if i == p then false else has l i) read) in
    let into = marked-put mid words' to p true within (λ i. bits' i ∙ ap (λ (l : List ℕ). if i == p then true else has l i) read') in
    let f = cause_at sets in
    let g = λ (i : ℕ). if i == p then to else f i in
    settled sets (set mid to words') places g (oldest_moved from to (waiting f places))
    (wide-again sets mid (set mid to words') (wide-set sets words old from from_within is long) (wide-set mid words' old' to within is' long'))
    (marked-moved sets (set mid to words') places from to p f marked oldest.there oldest.waits to_within (length-set mid to words' ∙ mid_long)
    (λ c i. into c i ∙ ap (λ (b : Bool). if (c == to) && (i == p) then true else b) (out c i)))
    (waiting-moved f g places from to p oldest (ap (λ (b : Bool). if b then to else f p) (eq-eqb p p refl)) (λ q other. ap (λ (b : Bool). if b then to else f q) (ne_eqb q p other)))

-- all entries of a cause were moved to another
pub stepped-all_moved : {X : Type 0} (sets : List (List ℕ)) (places : Places X) (from to : ℕ) (spare moved words old' : List ℕ) → IsMarked sets places (cause_at sets) → from < length sets → to < length sets
    → HasNone spare → length (get_or sets from []) ≡ length spare → moved ≡ get_or sets from moved
    → old' ≡ get_or (set sets from spare) to old' → ((i : ℕ) → has words i ≡ (has old' i || has moved i)) → length words ≡ length old'
    → Stepped sets (set (set sets from spare) to words) places (all_moved from to (waiting (cause_at sets) places))
stepped-all_moved sets places from to spare moved words old' marked from_within to_within empty spare_long is is' bits long =
    let mid = set sets from spare in
    let mid_long = length-set sets from spare in
    let within : to < length mid = omega (arith, mid_long, to_within) in
    let read = get_or_read sets from moved from_within is [] in
    let f = cause_at sets in
    let g = λ (i : ℕ). if f i == from then to else f i in
    settled sets (set mid to words) places g (all_moved from to (waiting f places))
    (wide-again sets mid (set mid to words) (wide-set sets spare moved from from_within is (sym spare_long ∙ ap length (sym read))) (wide-set mid words old' to within is' long))
    (marked-all_moved sets (set mid to words) places from to f marked to_within (length-set mid to words ∙ mid_long) put)
    (waiting-all_moved f g places from to (λ i. refl))
  where
    at_mid : (c i : ℕ) → is_marked (set sets from spare) c i ≡ (if c == from then false else is_marked sets c i)
    at_mid c i =
        elim (cases_eq c from) [
          | inl same ↦ marked_same sets spare from c i from_within same ∙ empty i ∙ sym (ap (λ (b : Bool). if b then false else is_marked sets c i) (eq-eqb c from same))
          | inr other ↦ marked_other sets spare from c i other ∙ sym (ap (λ (b : Bool). if b then false else is_marked sets c i) (ne_eqb c from other))
        ]

    within' : to < length (set sets from spare)
    within' = subst (λ (n : ℕ). to < n) (sym (length-set sets from spare)) to_within

    at_words : (i : ℕ) → has words i ≡ ((if to == from then false else is_marked sets to i) || is_marked sets from i)
    at_words i =
        bits i
        ∙ ap (λ (l : List ℕ). has l i || has moved i) (get_or_read (set sets from spare) to old' within' is' [])
        ∙ ap (λ (b : Bool). b || has moved i) (at_mid to i)
        ∙ ap (λ (l : List ℕ). (if to == from then false else is_marked sets to i) || has l i) (get_or_read sets from moved from_within is [])

    put : (c i : ℕ)
        → is_marked (set (set sets from spare) to words) c i
        ≡ (if c == to then ((if to == from then false else is_marked sets to i) || is_marked sets from i) else (if c == from then false else is_marked sets c i))
    put c i =
        elim (cases_eq c to) [
          | inl same ↦ marked_same (set sets from spare) words to c i within' same ∙ at_words i
              ∙ sym (ap (λ (b : Bool). if b then ((if to == from then false else is_marked sets to i) || is_marked sets from i) else (if c == from then false else is_marked sets c i)) (eq-eqb c to same))
          | inr other ↦ marked_other (set sets from spare) words to c i other ∙ at_mid c i
              ∙ sym (ap (λ (b : Bool). if b then ((if to == from then false else is_marked sets to i) || is_marked sets from i) else (if c == from then false else is_marked sets c i)) (ne_eqb c to other))
        ]

-- an entry came
pub stepped-pushed : {X : Type 0} (sets : List (List ℕ)) (places : Places X) (cause p : ℕ) (v : X) (words old : List ℕ) → IsMarked sets places (cause_at sets) → cause < length sets → p ≡ length places
    → old ≡ get_or sets cause old → ((i : ℕ) → has words i ≡ (if i == p then true else has old i)) → length words ≡ length old
    → Stepped sets (set sets cause words) (places ++ (cause, Some v) ∷ []) (waiting (cause_at sets) places ++ (cause, v) ∷ [])
stepped-pushed {X} sets places cause p v words old marked within last is bits long =
    let read = get_or_read sets cause old within is [] in
    let put = marked-put sets words cause p true within (λ i. bits i ∙ ap (λ (l : List ℕ). if i == p then true else has l i) read) in
    settled sets (set sets cause words) (places ++ (cause, Some v) ∷ []) g (waiting f places ++ (cause, v) ∷ []) (wide-set sets words old cause within is long)
    (marked-pushed sets (set sets cause words) places cause cause p v f marked last within (length-set sets cause words) put)
    (waiting-pushed g places cause v
    ∙ ap (λ (es : Entries X). es ++ (g (length places), v) ∷ []) (waiting-same g f places (λ i there. earlier i (there-within places i there)))
    ∙ ap (λ (c : ℕ). waiting f places ++ (c, v) ∷ []) (ap (λ (b : Bool). if b then cause else f (length places)) (eq-eqb (length places) p (sym last))))
  where
    f : ℕ → ℕ
    f = cause_at sets

    g : ℕ → ℕ
    g = λ (i : ℕ). if i == p then cause else f i

    earlier : (i : ℕ) → i < length places → g i ≡ f i
    earlier i before = ap (λ (b : Bool). if b then cause else f i) (ne_eqb i p (λ e. omega arith))
