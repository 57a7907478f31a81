-- Requests in a line, each with what it waits for.
use Rattle.std.proofs.Common.{◌≡◌, ◌≢◌, ◌⊎◌, inl, inr, ℕ, Bool, true, false, List, [], ◌∷◌, ◌++◌, length, map, refl, sym, ap, subst, ◌∙◌, Some, None, IsPermutation, arith}
use Rattle.std.specs.Prelude.{◌==◌, ◌||◌, if◌then◌else◌}
use Rattle.std.specs.List.{AllByRecursion}
use Rattle.std.proofs.lemmas.Bool.{eq-eqb, ne_eqb, cases_eq}
use Rattle.std.proofs.lemmas.List.{map-append}
use Rattle.std.proofs.lemmas.List.Elements.{All-from_recursion, recursion_from_All}
use Rattle.std.proofs.lemmas.List.Sorted.{All-permutation}
use Rattle.r6_waiters.specs.Line.{Entries, Line, capacity_of, causes_of, oldest_of, older_of, without_oldest, oldest_moved, all_moved, gathered}

-- ---- one of two numbers

or_true : (b : Bool) → (b || true) ≡ true
or_true true = refl
or_true false = refl

pub either : (a first second : ℕ) → (a ≡ first) ⊎ (a ≡ second) → ((a == first) || (a == second)) ≡ true
either a first second one = elim one [
  | inl e ↦ ap (λ (b : Bool). b || (a == second)) (eq-eqb a first e)
  | inr e ↦ ap (λ (b : Bool). (a == first) || b) (eq-eqb a second e) ∙ or_true (a == first)
]

pub neither : (a first second : ℕ) → a ≢ first → a ≢ second → ((a == first) || (a == second)) ≡ false
neither a first second one other = λ i. ne_eqb a first one i || ne_eqb a second other i

for_either : (a first second : ℕ) → ((a ≡ first) ⊎ (a ≡ second)) ⊎ ((a ≢ first) × (a ≢ second))
for_either a first second = elim (cases_eq a first) [
  | inl e ↦ inl (inl e)
  | inr ne ↦ elim (cases_eq a second) [
    | inl e ↦ inl (inr e)
    | inr ne' ↦ inr (ne, ne')
  ]
]

-- ---- facts of all

-- a fact of all, and what follows
pub all_then : {Y : Type 0} (Fact Then : Y → Type 0) (ys : List Y) → ((y : Y) → Fact y → Then y) → AllByRecursion Fact ys → AllByRecursion Then ys
all_then Fact Then [] one all = tt
all_then Fact Then (y ∷ ys) one all = (one y all.0, all_then Fact Then ys one all.1)

pub all_then_too : {Y : Type 0} (Fact Too Then : Y → Type 0) (ys : List Y) → ((y : Y) → Fact y → Too y → Then y) → AllByRecursion Fact ys → AllByRecursion Too ys → AllByRecursion Then ys
all_then_too Fact Too Then [] one all too = tt
all_then_too Fact Too Then (y ∷ ys) one all too = (one y all.0 too.0, all_then_too Fact Too Then ys one all.1 too.1)

-- of one among others
pub all_back : {Y : Type 0} (Fact : Y → Type 0) (xs : List Y) (y : Y) (ys : List Y) → Fact y → AllByRecursion Fact (xs ++ ys) → AllByRecursion Fact (xs ++ y ∷ ys)
all_back Fact [] y ys one all = (one, all)
all_back Fact (x ∷ xs) y ys one all = (all.0, all_back Fact xs y ys one all.1)

pub all_first : {Y : Type 0} (Fact : Y → Type 0) (xs ys : List Y) → AllByRecursion Fact (xs ++ ys) → AllByRecursion Fact xs
all_first Fact [] ys all = tt
all_first Fact (x ∷ xs) ys all = (all.0, all_first Fact xs ys all.1)

-- in another order
pub all_permuted : {X : Type 0} (P : X → Type 0) (xs ys : List X) → IsPermutation xs ys → AllByRecursion P xs → AllByRecursion P ys
all_permuted P xs ys same all = recursion_from_All P ys (All-permutation P xs ys same (All-from_recursion P xs all))

-- ---- a line

module _ {X : Type 0} where
  -- the values, from the oldest to the newest
  abbrev pub values : Entries X → List X
  values es = map (λ entry. entry.1) es

  abbrev pub IsFor : ℕ → ℕ × X → Type 0
  IsFor cause entry = entry.0 ≡ cause

  abbrev pub IsOther : ℕ → ℕ × X → Type 0
  IsOther cause entry = entry.0 ≢ cause

  pub values_split : (before : Entries X) (cause : ℕ) (x : X) (behind : Entries X) → values (before ++ (cause, x) ∷ behind) ≡ values before ++ x ∷ values behind
  values_split before cause x behind = map-append (λ entry. entry.1) before ((cause, x) ∷ behind)

  pub values_both : (before behind : Entries X) → values (before ++ behind) ≡ values before ++ values behind
  values_both before behind = map-append (λ entry. entry.1) before behind

  -- as many can wait, for as many causes
  abbrev pub SameRoom : Line X → Line X → Type 0
  SameRoom old new = (capacity_of new ≡ capacity_of old) × (causes_of new ≡ causes_of old)

  -- ---- where all wait for one cause

  pub first_of_all : (cause : ℕ) (es : Entries X) (x : X) → AllByRecursion (IsFor cause) es → oldest_of cause es ≡ Some x → values es ≡ x ∷ values (without_oldest cause es)
  first_of_all cause [] x all is = absurd (cc is)
  first_of_all cause ((c, y) ∷ es) x all is =
      let here = eq-eqb c cause all.0 in
      let found : Some y ≡ Some x = sym (ap (λ (b : Bool). if b then Some y else oldest_of cause es) here) ∙ is in
      let same : y ≡ x = cc in
      ap (λ z. z ∷ values es) same ∙ sym (ap (λ (b : Bool). x ∷ values (if b then es else (c, y) ∷ without_oldest cause es)) here)

  pub rest_of_all : (cause : ℕ) (es : Entries X) → AllByRecursion (IsFor cause) es → AllByRecursion (IsFor cause) (without_oldest cause es)
  rest_of_all cause [] all = tt
  rest_of_all cause ((c, y) ∷ es) all =
      subst (λ (b : Bool). AllByRecursion (IsFor cause) (if b then es else (c, y) ∷ without_oldest cause es)) (sym (eq-eqb c cause all.0)) all.1

  pub none_of_all : (cause : ℕ) (es : Entries X) → AllByRecursion (IsFor cause) es → oldest_of cause es ≡ None → values es ≡ []
  none_of_all cause [] all is = refl
  none_of_all cause ((c, y) ∷ es) all is =
      let none : Some y ≡ None = sym (ap (λ (b : Bool). if b then Some y else oldest_of cause es) (eq-eqb c cause all.0)) ∙ is in
      absurd (cc none)

  -- ---- where the oldest of a cause stands

  pub record IsSplit (cause : ℕ) (es : Entries X) (x : X) : Type 0 where
    pub before : Entries X
    pub behind : Entries X
    pub entries : es ≡ before ++ (cause, x) ∷ behind
    pub oldest : AllByRecursion (IsOther cause) before

  pub split_of : (cause : ℕ) (es : Entries X) (x : X) → oldest_of cause es ≡ Some x → IsSplit cause es x
  split_of cause [] x is = absurd (cc is)
  split_of cause ((c, y) ∷ es) x is = elim (cases_eq c cause) [
    | inl e ↦
        let first : Some y ≡ Some x = sym (ap (λ (b : Bool). if b then Some y else oldest_of cause es) (eq-eqb c cause e)) ∙ is in
        let same : y ≡ x = cc in
        record { before = []; behind = es; entries = λ i. (e i, same i) ∷ es; oldest = tt }
    | inr ne ↦
        let rest = split_of cause es x (sym (ap (λ (b : Bool). if b then Some y else oldest_of cause es) (ne_eqb c cause ne)) ∙ is) in
        record { before = (c, y) ∷ rest.before; behind = rest.behind; entries = ap (λ (zs : Entries X). (c, y) ∷ zs) rest.entries; oldest = (ne, rest.oldest) }
  ]

  pub none_of : (cause : ℕ) (es : Entries X) → oldest_of cause es ≡ None → AllByRecursion (IsOther cause) es
  none_of cause [] is = tt
  none_of cause ((c, y) ∷ es) is = elim (cases_eq c cause) [
    | inl e ↦ absurd (let first : Some y ≡ None = sym (ap (λ (b : Bool). if b then Some y else oldest_of cause es) (eq-eqb c cause e)) ∙ is in cc first)
    | inr ne ↦ (ne, none_of cause es (sym (ap (λ (b : Bool). if b then Some y else oldest_of cause es) (ne_eqb c cause ne)) ∙ is))
  ]

  pub split_oldest : (cause : ℕ) (before : Entries X) (x : X) (behind : Entries X) → AllByRecursion (IsOther cause) before
      → oldest_of cause (before ++ (cause, x) ∷ behind) ≡ Some x
  split_oldest cause [] x behind oldest = ap (λ (b : Bool). if b then Some x else oldest_of cause behind) (eq-eqb cause cause refl)
  split_oldest cause ((c, y) ∷ before) x behind oldest =
      ap (λ (b : Bool). if b then Some y else oldest_of cause (before ++ (cause, x) ∷ behind)) (ne_eqb c cause oldest.0)
      ∙ split_oldest cause before x behind oldest.1

  pub split_without : (cause : ℕ) (before : Entries X) (x : X) (behind : Entries X) → AllByRecursion (IsOther cause) before
      → without_oldest cause (before ++ (cause, x) ∷ behind) ≡ before ++ behind
  split_without cause [] x behind oldest = ap (λ (b : Bool). if b then behind else (cause, x) ∷ without_oldest cause behind) (eq-eqb cause cause refl)
  split_without cause ((c, y) ∷ before) x behind oldest =
      let rest = before ++ (cause, x) ∷ behind in
      ap (λ (b : Bool). if b then rest else (c, y) ∷ without_oldest cause rest) (ne_eqb c cause oldest.0)
      ∙ ap (λ (es : Entries X). (c, y) ∷ es) (split_without cause before x behind oldest.1)

  pub split_moved : (cause to : ℕ) (before : Entries X) (x : X) (behind : Entries X) → AllByRecursion (IsOther cause) before
      → oldest_moved cause to (before ++ (cause, x) ∷ behind) ≡ before ++ (to, x) ∷ behind
  split_moved cause to [] x behind oldest = ap (λ (b : Bool). if b then (to, x) ∷ behind else (cause, x) ∷ oldest_moved cause to behind) (eq-eqb cause cause refl)
  split_moved cause to ((c, y) ∷ before) x behind oldest =
      let rest = before ++ (cause, x) ∷ behind in
      ap (λ (b : Bool). if b then (to, y) ∷ rest else (c, y) ∷ oldest_moved cause to rest) (ne_eqb c cause oldest.0)
      ∙ ap (λ (es : Entries X). (c, y) ∷ es) (split_moved cause to before x behind oldest.1)

  -- ---- the older of two causes

  pub record IsOlderSplit (first second cause : ℕ) (es : Entries X) : Type 0 where
    pub before : Entries X
    pub x : X
    pub behind : Entries X
    pub entries : es ≡ before ++ (cause, x) ∷ behind
    pub oldest : AllByRecursion (λ entry. (entry.0 ≢ first) × (entry.0 ≢ second)) before
    pub one : (cause ≡ first) ⊎ (cause ≡ second)

  pub older_split : (first second cause : ℕ) (es : Entries X) → older_of first second es ≡ Some cause → IsOlderSplit first second cause es
  older_split first second cause [] is = absurd (cc is)
  older_split first second cause ((c, y) ∷ es) is = elim (for_either c first second) [
    | inl one ↦
        let found : Some c ≡ Some cause = sym (ap (λ (b : Bool). if b then Some c else older_of first second es) (either c first second one)) ∙ is in
        let same : c ≡ cause = cc in
        record { before = []; x = y; behind = es; entries = λ i. (same i, y) ∷ es; oldest = tt; one = elim one [ inl e ↦ inl (sym same ∙ e) | inr e ↦ inr (sym same ∙ e) ] }
    | inr not ↦
        let rest = older_split first second cause es (sym (ap (λ (b : Bool). if b then Some c else older_of first second es) (neither c first second not.0 not.1)) ∙ is) in
        record { before = (c, y) ∷ rest.before; x = rest.x; behind = rest.behind; entries = ap (λ (zs : Entries X). (c, y) ∷ zs) rest.entries; oldest = (not, rest.oldest); one = rest.one }
  ]

  pub older_none : (first second : ℕ) (es : Entries X) → older_of first second es ≡ None → AllByRecursion (λ entry. (entry.0 ≢ first) × (entry.0 ≢ second)) es
  older_none first second [] is = tt
  older_none first second ((c, y) ∷ es) is = elim (for_either c first second) [
    | inl one ↦ absurd (let found : Some c ≡ None = sym (ap (λ (b : Bool). if b then Some c else older_of first second es) (either c first second one)) ∙ is in cc found)
    | inr not ↦ (not, older_none first second es (sym (ap (λ (b : Bool). if b then Some c else older_of first second es) (neither c first second not.0 not.1)) ∙ is))
  ]

  -- neither of two is one of the two
  pub oldest_neither : (first second cause : ℕ) (before : Entries X) → (cause ≡ first) ⊎ (cause ≡ second)
      → AllByRecursion (λ entry. (entry.0 ≢ first) × (entry.0 ≢ second)) before → AllByRecursion (IsOther cause) before
  oldest_neither first second cause [] one none = tt
  oldest_neither first second cause ((c, y) ∷ before) one none = (
    (λ e. elim one [ inl f ↦ none.0.0 (e ∙ f) | inr f ↦ none.0.1 (e ∙ f) ]),
    oldest_neither first second cause before one none.1,
  )

  -- ---- who waits for something else waits still

  pub values_moved : (from to : ℕ) (es : Entries X) → values (oldest_moved from to es) ≡ values es
  values_moved from to [] = refl
  values_moved from to ((c, y) ∷ es) = elim (c == from) as (λ b. values (if b then (to, y) ∷ es else (c, y) ∷ oldest_moved from to es) ≡ y ∷ values es) [
    | true ↦ refl
    | false ↦ ap (λ (xs : List X). y ∷ xs) (values_moved from to es)
  ]

  pub values_all_moved : (from to : ℕ) (es : Entries X) → values (all_moved from to es) ≡ values es
  values_all_moved from to [] = refl
  values_all_moved from to ((c, y) ∷ es) = ap (λ (xs : List X). y ∷ xs) (values_all_moved from to es)

  pub values_gathered : (cause : ℕ) (es : Entries X) → values (gathered cause es) ≡ values es
  values_gathered cause [] = refl
  values_gathered cause ((c, y) ∷ es) = ap (λ (xs : List X). y ∷ xs) (values_gathered cause es)

  pub all_for : (cause : ℕ) (es : Entries X) → AllByRecursion (IsFor cause) (gathered cause es)
  all_for cause [] = tt
  all_for cause ((c, y) ∷ es) = (refl, all_for cause es)

  -- a fact of each that waited for the one, and of each other
  pub all_after_moves : (Fact Then : ℕ × X → Type 0) (from to : ℕ) (es : Entries X)
      → ((x : X) → Fact (from, x) → Then (to, x)) → ((c : ℕ) (x : X) → c ≢ from → Fact (c, x) → Then (c, x))
      → AllByRecursion Fact es → AllByRecursion Then (all_moved from to es)
  all_after_moves Fact Then from to [] own other all = tt
  all_after_moves Fact Then from to ((c, y) ∷ es) own other all = (
    elim (cases_eq c from) [
      | inl e ↦ subst (λ (n : ℕ). Then (n, y)) (sym (ap (λ (b : Bool). if b then to else c) (eq-eqb c from e))) (own y (subst (λ (n : ℕ). Fact (n, y)) e all.0))
      | inr ne ↦ subst (λ (n : ℕ). Then (n, y)) (sym (ap (λ (b : Bool). if b then to else c) (ne_eqb c from ne))) (other c y ne all.0)
    ],
    all_after_moves Fact Then from to es own other all.1,
  )

  pub all_values : (Fact : X → Type 0) (es : Entries X) → AllByRecursion (λ entry. Fact entry.1) es → AllByRecursion Fact (values es)
  all_values Fact [] all = tt
  all_values Fact ((c, y) ∷ es) all = (all.0, all_values Fact es all.1)

  pub all_of_none : (Fact : ℕ × X → Type 0) (es : Entries X) → values es ≡ [] → AllByRecursion Fact es
  all_of_none Fact [] none = tt
  all_of_none Fact ((c, y) ∷ es) none = absurd (cc none)

  pub all_of_empty : (Fact : ℕ × X → Type 0) (es : Entries X) → length es ≡ 0 → AllByRecursion Fact es
  all_of_empty Fact [] none = tt
  all_of_empty Fact ((c, y) ∷ es) none = absurd (omega (arith, none))
