-- What the sets of the causes say after a write of one of them.
use Rattle.std.proofs.Common.{◌≡◌, inl, inr, ℕ, zero, suc, ◌+◌, ◌<◌, ◌≤◌, Bool, true, false, List, [], ◌∷◌, ◌++◌, length, get_or, set, replicate, refl, sym, ap, subst, ◌∙◌, Option, Some, None, is_some, arith}
use Rattle.std.specs.Prelude.{◌==◌, ◌&&◌, ◌||◌, nat_lt, if◌then◌else◌}
use Rattle.std.proofs.lemmas.Bool.{eq-eqb, ne_eqb, eqb-true, cases_eq, cases_lt, lt-ltb, le-ltb, and_parts}
use Rattle.std.proofs.lemmas.Bool.Decides.{nat_tests}
use Rattle.std.proofs.lemmas.List.{get_or-set_same, get_or-set_other, get_or_past, get_or_push, get_or_append_left, length_push, length-set, length-replicate, get_or-replicate, get_or_read}
use Rattle.r6_waiters.specs.Positions.{has, HasNone}
use Rattle.r6_waiters.specs.Sets.{Places, place_at, is_there, is_marked, cause_at, waiting, IsMarked, AreAsWide}
use Rattle.r6_waiters.proofs.Words.{none-of_zeros}
use Rattle.r6_waiters.proofs.Lines.{IsOldest, HasNoneOf, waiting-same}

suc_eq : (k c : ℕ) → (suc k == suc c) ≡ (k == c)
suc_eq k c = elim (cases_eq k c) [
  | inl same ↦ eq-eqb (suc k) (suc c) (ap (λ (n : ℕ). suc n) same) ∙ sym (eq-eqb k c same)
  | inr other ↦ ne_eqb (suc k) (suc c) (λ e. other (omega arith)) ∙ sym (ne_eqb k c other)
]

-- a position that is in one set alone has its cause
cause-found : (sets : List (List ℕ)) (k i : ℕ) → ((c : ℕ) → is_marked sets c i ≡ (k == c)) → k < length sets → cause_at sets i ≡ k
cause-found [] k i alone within = absurd (omega arith)
cause-found (words ∷ sets) zero i alone within = ap (λ (b : Bool). if b then 0 else suc (cause_at sets i)) (alone 0 ∙ eq-eqb 0 0 refl)
cause-found (words ∷ sets) (suc k) i alone within =
    ap (λ (b : Bool). if b then 0 else suc (cause_at sets i)) (alone 0 ∙ ne_eqb (suc k) 0 (λ e. omega arith))
    ∙ ap (λ (n : ℕ). suc n) (cause-found sets k i (λ c. alone (suc c) ∙ suc_eq k c) (omega arith))

pub cause-settled : {X : Type 0} (sets : List (List ℕ)) (places : Places X) (f : ℕ → ℕ) → IsMarked sets places f → (i : ℕ) → is_there places i ≡ true → cause_at sets i ≡ f i
cause-settled sets places f marked i there =
    cause-found sets (f i) i (λ c. marked.marks c i ∙ ap (λ (b : Bool). b && (f i == c)) there) (marked.within i there)

-- the sets tell the causes
pub marked-settled : {X : Type 0} (sets : List (List ℕ)) (places : Places X) (f : ℕ → ℕ) → IsMarked sets places f → IsMarked sets places (cause_at sets)
marked-settled sets places f marked =
    record {
      marks = λ c i. marked.marks c i ∙ same c i (is_there places i) refl;
      within = λ i there. subst (λ (k : ℕ). k < length sets) (sym (cause-settled sets places f marked i there)) (marked.within i there);
    }
  where
    same : (c i : ℕ) (b : Bool) → is_there places i ≡ b → (b && (f i == c)) ≡ (b && (cause_at sets i == c))
    same c i true there = ap (λ (k : ℕ). k == c) (sym (cause-settled sets places f marked i there))
    same c i false there = refl

pub waiting-settled : {X : Type 0} (sets : List (List ℕ)) (places : Places X) (f : ℕ → ℕ) → IsMarked sets places f → waiting (cause_at sets) places ≡ waiting f places
waiting-settled sets places f marked = waiting-same (cause_at sets) f places (cause-settled sets places f marked)

-- what is in a set waits for its cause
pub mark-there : {X : Type 0} (sets : List (List ℕ)) (places : Places X) (f : ℕ → ℕ) → IsMarked sets places f → (c i : ℕ) → is_marked sets c i ≡ true → (is_there places i ≡ true) × (f i ≡ c)
mark-there sets places f marked c i mark =
    let parts = and_parts (is_there places i) (f i == c) (sym (marked.marks c i) ∙ mark) in
    (parts.0, eqb-true (f i) c parts.1)

pub there-mark : {X : Type 0} (sets : List (List ℕ)) (places : Places X) (f : ℕ → ℕ) → IsMarked sets places f → (c i : ℕ) → is_there places i ≡ true → f i ≡ c → is_marked sets c i ≡ true
there-mark sets places f marked c i there waits =
    marked.marks c i ∙ ap (λ (b : Bool). b && (f i == c)) there ∙ eq-eqb (f i) c waits

-- an entry that is there has a position within the places
pub there-within : {X : Type 0} (places : Places X) (i : ℕ) → is_there places i ≡ true → i < length places
there-within places i there =
    elim (cases_lt i (length places)) [
      | inl within ↦ within
      | inr past ↦ let none : is_there places i ≡ false = ap (λ place. is_some place.1) (get_or_past places i (0, None) past) in absurd (cc)
    ]

pub past-none : {X : Type 0} (places : Places X) (i : ℕ) → length places ≤ i → is_there places i ≡ false
past-none places i past = ap (λ place. is_some place.1) (get_or_past places i (0, None) past)

-- the lowest position of a set has the oldest entry of its cause
pub oldest-lowest : {X : Type 0} (sets : List (List ℕ)) (places : Places X) (f : ℕ → ℕ) (c p : ℕ) → IsMarked sets places f
    → is_marked sets c p ≡ true → ((q : ℕ) → q < p → is_marked sets c q ≡ false) → IsOldest f places c p
oldest-lowest sets places f c p marked mark below =
    let found = mark-there sets places f marked c p mark in
    record {
      there = found.0;
      waits = found.1;
      first = λ q before there waits.
          let here = there-mark sets places f marked c q there waits in
          let none = below q before in
          absurd (cc (here, none));
    }

pub none-marked : {X : Type 0} (sets : List (List ℕ)) (places : Places X) (f : ℕ → ℕ) (c : ℕ) → IsMarked sets places f → ((q : ℕ) → is_marked sets c q ≡ false) → HasNoneOf f places c
none-marked sets places f c marked empty =
    record { none = λ q there waits. let here = there-mark sets places f marked c q there waits in let none = empty q in absurd (cc (here, none)) }

-- a set whose bit at one position was written
pub marked-put : (sets : List (List ℕ)) (words : List ℕ) (cause p : ℕ) (b : Bool) → cause < length sets
    → ((i : ℕ) → has words i ≡ (if i == p then b else is_marked sets cause i))
    → (c i : ℕ) → is_marked (set sets cause words) c i ≡ (if (c == cause) && (i == p) then b else is_marked sets c i)
marked-put sets words cause p b within bits c i =
    elim (cases_eq c cause) [
      | inl same ↦
          rw (eq-eqb c cause same)
          (rw same (ap (λ (l : List ℕ). has l i) (get_or-set_same sets cause words [] within) ∙ bits i))
      | inr other ↦ rw (ne_eqb c cause other) (ap (λ (l : List ℕ). has l i) (get_or-set_other sets cause c words [] other))
    ]

-- after a push
pub marked-pushed : {X : Type 0} (sets sets' : List (List ℕ)) (places : Places X) (cause m p : ℕ) (v : X) (f : ℕ → ℕ) → IsMarked sets places f → p ≡ length places → cause < length sets → length sets' ≡ length sets
    → ((c i : ℕ) → is_marked sets' c i ≡ (if (c == cause) && (i == p) then true else is_marked sets c i))
    → IsMarked sets' (places ++ (m, Some v) ∷ []) (λ i. if i == p then cause else f i)
marked-pushed sets sets' places cause m p v f marked is within long put =
    record {
      marks = λ c i. elim (cases_eq i p) [
        | inl here ↦
            let none : is_marked sets c i ≡ false = marked.marks c i ∙ ap (λ (b : Bool). b && (f i == c)) (past-none places i (omega arith)) in
            let at : is_there (places ++ (m, Some v) ∷ []) i ≡ true = ap (λ place. is_some place.1) (get_or_push places (m, Some v) (0, None) i (sym (here ∙ is))) in
            put c i ∙ rw (eq-eqb i p here, none, at) (swapped c cause)
        | inr other ↦
            let at : is_there (places ++ (m, Some v) ∷ []) i ≡ is_there places i = there-before i other in
            put c i ∙ rw (ne_eqb i p other, at) (unpaired (c == cause) (is_marked sets c i) ∙ marked.marks c i)
      ];
      within = λ i there. elim (cases_eq i p) [
        | inl here ↦ rw (eq-eqb i p here, long) within
        | inr other ↦ rw (ne_eqb i p other, long) (marked.within i (sym (there-before i other) ∙ there))
      ];
    }
  where
    swapped : (c k : ℕ) → (if (c == k) && true then true else false) ≡ (k == c)
    swapped c k = grind (arith, nat_tests)

    unpaired : (x y : Bool) → (if x && false then true else y) ≡ y
    unpaired true y = refl
    unpaired false y = refl

    there-before : (i : ℕ) → (i ≡ p → ⊥) → is_there (places ++ (m, Some v) ∷ []) i ≡ is_there places i
    there-before i other =
        elim (cases_lt i (length places)) [
          | inl inside ↦ ap (λ place. is_some place.1) (get_or_append_left places ((m, Some v) ∷ []) (0, None) i inside)
          | inr past ↦
              past-none (places ++ (m, Some v) ∷ []) i (omega (arith, length_push places (m, Some v), is)) ∙ sym (past-none places i past)
        ]

-- after an entry was taken out
pub marked-taken : {X : Type 0} (sets sets' : List (List ℕ)) (places : Places X) (cause p k : ℕ) (f : ℕ → ℕ) → IsMarked sets places f → is_there places p ≡ true → f p ≡ cause → length sets' ≡ length sets
    → ((c i : ℕ) → is_marked sets' c i ≡ (if (c == cause) && (i == p) then false else is_marked sets c i))
    → IsMarked sets' (set places p (k, None)) f
marked-taken sets sets' places cause p k f marked there waits long put =
    record {
      marks = λ c i. elim (cases_eq i p) [
        | inl here ↦
            let mark : is_marked sets c i ≡ (cause == c) = marked.marks c i ∙ rw (here, there, waits) refl in
            put c i ∙ rw (eq-eqb i p here, mark, there-at i here) (gone c cause)
        | inr other ↦ put c i ∙ rw (ne_eqb i p other, there-other i other) (unpaired (c == cause) (is_marked sets c i) ∙ marked.marks c i)
      ];
      within = λ i at. elim (cases_eq i p) [
        | inl here ↦ absurd (cc (there-at i here, at))
        | inr other ↦ rw long (marked.within i (sym (there-other i other) ∙ at))
      ];
    }
  where
    gone : (c k : ℕ) → (if (c == k) && true then false else (k == c)) ≡ false
    gone c k = grind (arith, nat_tests)

    unpaired : (x y : Bool) → (if x && false then false else y) ≡ y
    unpaired true y = refl
    unpaired false y = refl

    there-at : (i : ℕ) → i ≡ p → is_there (set places p (k, None)) i ≡ false
    there-at i here = rw here (ap (λ place. is_some place.1) (get_or-set_same places p (k, None) (0, None) (there-within places p there)))

    there-other : (i : ℕ) → (i ≡ p → ⊥) → is_there (set places p (k, None)) i ≡ is_there places i
    there-other i other = ap (λ place. is_some place.1) (get_or-set_other places p i (k, None) (0, None) other)

-- after the entry of one position was moved to another cause
pub marked-moved : {X : Type 0} (sets sets' : List (List ℕ)) (places : Places X) (from to p : ℕ) (f : ℕ → ℕ) → IsMarked sets places f → is_there places p ≡ true → f p ≡ from → to < length sets → length sets' ≡ length sets
    → ((c i : ℕ) → is_marked sets' c i ≡ (if (c == to) && (i == p) then true else (if (c == from) && (i == p) then false else is_marked sets c i)))
    → IsMarked sets' places (λ i. if i == p then to else f i)
marked-moved sets sets' places from to p f marked there waits within long put =
    record {
      marks = λ c i. elim (cases_eq i p) [
        | inl here ↦
            let mark : is_marked sets c i ≡ (from == c) = marked.marks c i ∙ rw (here, there, waits) refl in
            let at : is_there places i ≡ true = rw here there in
            put c i ∙ rw (eq-eqb i p here, mark, at) (moved c from to)
        | inr other ↦ put c i ∙ rw (ne_eqb i p other) (unpaired (c == to) (c == from) (is_marked sets c i) ∙ marked.marks c i)
      ];
      within = λ i at. elim (cases_eq i p) [
        | inl here ↦ rw (eq-eqb i p here, long) within
        | inr other ↦ rw (ne_eqb i p other, long) (marked.within i at)
      ];
    }
  where
    moved : (c from to : ℕ) → (if (c == to) && true then true else (if (c == from) && true then false else (from == c))) ≡ (to == c)
    moved c from to = grind (arith, nat_tests)

    unpaired : (x y z : Bool) → (if x && false then true else (if y && false then false else z)) ≡ z
    unpaired true true z = refl
    unpaired true false z = refl
    unpaired false true z = refl
    unpaired false false z = refl

-- after one set took all of another
pub marked-all_moved : {X : Type 0} (sets sets' : List (List ℕ)) (places : Places X) (from to : ℕ) (f : ℕ → ℕ) → IsMarked sets places f → to < length sets → length sets' ≡ length sets
    → ((c i : ℕ) → is_marked sets' c i ≡ (if c == to then ((if to == from then false else is_marked sets to i) || is_marked sets from i) else (if c == from then false else is_marked sets c i)))
    → IsMarked sets' places (λ i. if f i == from then to else f i)
marked-all_moved sets sets' places from to f marked within long put =
    record {
      marks = λ c i. put c i ∙ rw (marked.marks to i, marked.marks from i, marked.marks c i) (moved (is_there places i) (f i) c);
      within = λ i there. elim (cases_eq (f i) from) [
        | inl here ↦ rw (eq-eqb (f i) from here, long) within
        | inr other ↦ rw (ne_eqb (f i) from other, long) (marked.within i there)
      ];
    }
  where
    moved : (b : Bool) (k c : ℕ) → (if c == to then ((if to == from then false else (b && (k == to))) || (b && (k == from))) else (if c == from then false else (b && (k == c)))) ≡ (b && ((if k == from then to else k) == c))
    moved true k c = grind (arith, nat_tests)
    moved false k c = grind (arith, nat_tests)

-- sets that have no position
pub none-at_first : (n : ℕ) → HasNone (replicate n 0)
none-at_first n = none-of_zeros (replicate n 0) (λ k below. get_or-replicate n k 0 0 (subst (λ (m : ℕ). k < m) (length-replicate n 0) below))

pub none-marked_at_first : (n causes c i : ℕ) → is_marked (replicate causes (replicate n 0)) c i ≡ false
none-marked_at_first n causes c i =
    elim (cases_lt c causes) [
      | inl within ↦ ap (λ (l : List ℕ). has l i) (get_or-replicate causes c (replicate n 0) [] within) ∙ none-at_first n i
      | inr past ↦
          ap (λ (l : List ℕ). has l i) (get_or_past (replicate causes (replicate n 0)) c [] (subst (λ (m : ℕ). m ≤ c) (sym (length-replicate causes (replicate n 0))) past))
          ∙ none-at_first 0 i
    ]

-- another set in the place of one that is as wide
pub wide-set : (sets : List (List ℕ)) (words old : List ℕ) (cause : ℕ) → cause < length sets → old ≡ get_or sets cause old → length words ≡ length old → AreAsWide sets (set sets cause words)
wide-set sets words old cause within is same = (
  length-set sets cause words,
  λ c. elim (cases_eq c cause) [
    | inl here ↦ rw here (ap length (get_or-set_same sets cause words [] within) ∙ same ∙ ap length (get_or_read sets cause old within is []))
    | inr other ↦ ap length (get_or-set_other sets cause c words [] other)
  ],
)

pub wide-again : (a b c : List (List ℕ)) → AreAsWide a b → AreAsWide b c → AreAsWide a c
wide-again a b c first second = (second.0 ∙ first.0, λ cause. second.1 cause ∙ first.1 cause)

-- one more position in the set of its cause
pub marks-more : {X : Type 0} (sets : List (List ℕ)) (words old : List ℕ) (places : Places X) (place : ℕ × Option X) (n : ℕ) → n < length places → place ≡ get_or places n place → place.0 < length sets
    → old ≡ get_or sets place.0 old → ((i : ℕ) → has words i ≡ (if i == n then true else has old i))
    → ((c i : ℕ) → is_marked sets c i ≡ (nat_lt i n && ((place_at places i).0 == c)))
    → (c i : ℕ) → is_marked (set sets place.0 words) c i ≡ (nat_lt i (n + 1) && ((place_at places i).0 == c))
marks-more sets words old places place n inside at within is bits marks c i =
    let read = get_or_read sets place.0 old within is [] in
    marked-put sets words place.0 n true within (λ j. bits j ∙ ap (λ (l : List ℕ). if j == n then true else has l j) read) c i
    ∙ elim (cases_eq i n) [
      | inl here ↦
          let cause : (place_at places i).0 ≡ place.0 = rw here (ap (λ (p : ℕ × Option _). p.0) (sym (get_or_read places n place inside at (0, None)))) in
          rw (marks c i, cause, here, eq-eqb n n refl, le-ltb n n (omega arith), lt-ltb n (n + 1) (omega arith)) (swapped c place.0)
      | inr other ↦ rw (ne_eqb i n other) (unpaired (c == place.0) (is_marked sets c i) ∙ marks c i ∙ ap (λ (b : Bool). b && ((place_at places i).0 == c)) (grind (arith, nat_tests)))
    ]
  where
    swapped : (c k : ℕ) → (if (c == k) && true then true else false) ≡ (k == c)
    swapped c k = grind (arith, nat_tests)

    unpaired : (x y : Bool) → (if x && false then true else y) ≡ y
    unpaired true y = refl
    unpaired false y = refl

-- only the set of a cause has a position
pub mark-within : (sets : List (List ℕ)) (c i : ℕ) → is_marked sets c i ≡ true → c < length sets
mark-within sets c i mark =
    elim (cases_lt c (length sets)) [
      | inl within ↦ within
      | inr past ↦
          let none : is_marked sets c i ≡ false = ap (λ (l : List ℕ). has l i) (get_or_past sets c [] past) ∙ none-at_first 0 i in
          absurd (cc (mark, none))
    ]

pub marked_other : (sets : List (List ℕ)) (words : List ℕ) (cause c i : ℕ) → (c ≡ cause → ⊥) → is_marked (set sets cause words) c i ≡ is_marked sets c i
marked_other sets words cause c i other = ap (λ (l : List ℕ). has l i) (get_or-set_other sets cause c words [] other)

pub marked_same : (sets : List (List ℕ)) (words : List ℕ) (cause c i : ℕ) → cause < length sets → c ≡ cause → is_marked (set sets cause words) c i ≡ has words i
marked_same sets words cause c i within same = rw same (ap (λ (l : List ℕ). has l i) (get_or-set_same sets cause words [] within))

-- one more position in a set that was read
pub marked-into : (sets : List (List ℕ)) (words old : List ℕ) (cause p : ℕ) → cause < length sets
    → old ≡ get_or sets cause old → ((i : ℕ) → has words i ≡ (if i == p then true else has old i))
    → (c i : ℕ) → is_marked (set sets cause words) c i
    ≡ (if (i == p) && (cause == c) then true else is_marked sets c i)
marked-into sets words old cause p within is bits c i =
    let read = get_or_read sets cause old within is [] in
    let put = λ (j : ℕ). bits j ∙ ap (λ (l : List ℕ). if j == p then true else has l j) read in
    let both = exchanged (c == cause) (i == p) ∙ ap (λ (b : Bool). (i == p) && b) turned in
    marked-put sets words cause p true within put c i ∙ ap (λ (b : Bool). if b then true else is_marked sets c i) both
  where
    exchanged : (x y : Bool) → (x && y) ≡ (y && x)
    exchanged true true = refl
    exchanged true false = refl
    exchanged false true = refl
    exchanged false false = refl

    turned : (c == cause) ≡ (cause == c)
    turned = elim (cases_eq c cause) [
      | inl same ↦ eq-eqb c cause same ∙ sym (eq-eqb cause c (sym same))
      | inr other ↦ ne_eqb c cause other ∙ sym (ne_eqb cause c (λ e. other (sym e)))
    ]
