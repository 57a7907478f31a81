-- Which writes start with a write, and how they are found: block by block, the oldest of each.
use Rattle.std.proofs.Common.{◌≡◌, ◌≢◌, inl, inr, ℕ, not, Bool, true, false, List, [], ◌∷◌, ◌++◌, map, refl, sym, ap, subst, ◌∙◌, Option, Some, None, IsPermutation}
use mathlib.Core.Path.{fun_ext}
use Rattle.std.specs.Prelude.{option_to_list, if◌then◌else◌}
use Rattle.std.specs.List.{AllByRecursion}
use Rattle.std.proofs.lemmas.Bool.{eq-eqb, ne_eqb, cases_Bool, cases_eq}
use Rattle.std.proofs.lemmas.List.Sorted.{IsPermutation-refl, IsPermutation-sym, IsPermutation-trans, IsPermutation-cons, IsPermutation-middle}
use Rattle.r6_world.specs.Tables.{put}
use Rattle.r6_world.proofs.Tables.{put-same, put-other}
use Rattle.r6_core.specs.declared.queued.Queued.{Queued}
use Rattle.r6_waiters.specs.Line.{Entries, is_key, oldest_keyed, without_oldest_keyed}
use Rattle.r6_core.specs.Batches.{block_written, is_wanted, but, joined, left, entries_left}

-- ---- blocks that are wanted

abbrev pub key_of : Queued → Option ℕ
key_of request = block_written request.op

-- one more
abbrev pub plus : (ℕ → Bool) → (block : ℕ) → ℕ → Bool
plus wanted block = put wanted block true

plus_but : (wanted : ℕ → Bool) (block : ℕ) → wanted block ≡ false → but (plus wanted block) (Some block) ≡ wanted
plus_but wanted block not_wanted = fun_ext (λ x. elim (cases_eq x block) [
  | inl same ↦ put-same (plus wanted block) block false x same ∙ sym not_wanted ∙ ap wanted (sym same)
  | inr ne ↦ put-other (plus wanted block) block false x ne ∙ put-other wanted block true x ne
])

plus_and_but : (wanted : ℕ → Bool) (block other : ℕ) → other ≢ block → but (plus wanted block) (Some other) ≡ plus (but wanted (Some other)) block
plus_and_but wanted block other apart = fun_ext (λ x. elim (cases_eq x other) [
  | inl same ↦
      put-same (plus wanted block) other false x same
      ∙ sym (put-other (but wanted (Some other)) block true x (λ e. apart (sym same ∙ e)) ∙ put-same wanted other false x same)
  | inr ne ↦ put-other (plus wanted block) other false x ne ∙ (elim (cases_eq x block) [
    | inl same ↦ put-same wanted block true x same ∙ sym (put-same (but wanted (Some other)) block true x same)
    | inr ne' ↦ put-other wanted block true x ne' ∙ sym (put-other (but wanted (Some other)) block true x ne' ∙ put-other wanted other false x ne)
  ])
])

-- ---- one request of a list

module _ (wanted : ℕ → Bool) (request : Queued) (newer : List Queued) where
  pub joined_in : is_wanted wanted (key_of request) ≡ true → joined wanted (request ∷ newer) ≡ request ∷ joined (but wanted (key_of request)) newer
  joined_in is = ap (λ (b : Bool). if b then request ∷ joined (but wanted (key_of request)) newer else joined wanted newer) is

  pub joined_not : is_wanted wanted (key_of request) ≡ false → joined wanted (request ∷ newer) ≡ joined wanted newer
  joined_not is = ap (λ (b : Bool). if b then request ∷ joined (but wanted (key_of request)) newer else joined wanted newer) is

  pub left_in : is_wanted wanted (key_of request) ≡ true → left wanted (request ∷ newer) ≡ left (but wanted (key_of request)) newer
  left_in is = ap (λ (b : Bool). if b then left (but wanted (key_of request)) newer else request ∷ left wanted newer) is

  pub left_not : is_wanted wanted (key_of request) ≡ false → left wanted (request ∷ newer) ≡ request ∷ left wanted newer
  left_not is = ap (λ (b : Bool). if b then left (but wanted (key_of request)) newer else request ∷ left wanted newer) is

-- ---- the entries that are left

abbrev pub values : Entries Queued → List Queued
values es = map (λ entry. entry.1) es

module _ (wanted : ℕ → Bool) (entry : ℕ × Queued) (newer : Entries Queued) where
  pub entry_goes : is_wanted wanted (key_of entry.1) ≡ true → entries_left wanted (entry ∷ newer) ≡ entries_left (but wanted (key_of entry.1)) newer
  entry_goes is = ap (λ (b : Bool). if b then entries_left (but wanted (key_of entry.1)) newer else entry ∷ entries_left wanted newer) is

  pub entry_stays : is_wanted wanted (key_of entry.1) ≡ false → entries_left wanted (entry ∷ newer) ≡ entry ∷ entries_left wanted newer
  entry_stays is = ap (λ (b : Bool). if b then entries_left (but wanted (key_of entry.1)) newer else entry ∷ entries_left wanted newer) is

-- their requests are those that are left
pub values_left : (wanted : ℕ → Bool) (es : Entries Queued) → values (entries_left wanted es) ≡ left wanted (values es)
values_left wanted [] = refl
values_left wanted (entry ∷ newer) =
    elim (is_wanted wanted (key_of entry.1)) as (λ b. values (if b then entries_left (but wanted (key_of entry.1)) newer else entry ∷ entries_left wanted newer) ≡ (if b then left (but wanted (key_of entry.1)) (values newer) else entry.1 ∷ left wanted (values newer))) [
      | true ↦ values_left (but wanted (key_of entry.1)) newer
      | false ↦ ap (λ rs. entry.1 ∷ rs) (values_left wanted newer)
    ]

-- what is true of all is true of those that are left
pub all_left : (Fact : ℕ × Queued → Type 0) (wanted : ℕ → Bool) (es : Entries Queued) → AllByRecursion Fact es → AllByRecursion Fact (entries_left wanted es)
all_left Fact wanted [] all = tt
all_left Fact wanted (entry ∷ newer) all =
    elim (is_wanted wanted (key_of entry.1)) as (λ b. AllByRecursion Fact (if b then entries_left (but wanted (key_of entry.1)) newer else entry ∷ entries_left wanted newer)) [
      | true ↦ all_left Fact (but wanted (key_of entry.1)) newer all.1
      | false ↦ (all.0, all_left Fact wanted newer all.1)
    ]

-- and of those that have joined
pub all_joined : (Fact : Queued → Type 0) (wanted : ℕ → Bool) (rs : List Queued) → AllByRecursion Fact rs → AllByRecursion Fact (joined wanted rs)
all_joined Fact wanted [] all = tt
all_joined Fact wanted (r ∷ newer) all =
    elim (is_wanted wanted (key_of r)) as (λ b. AllByRecursion Fact (if b then r ∷ joined (but wanted (key_of r)) newer else joined wanted newer)) [
      | true ↦ (all.0, all_joined Fact (but wanted (key_of r)) newer all.1)
      | false ↦ all_joined Fact wanted newer all.1
    ]

-- no write of a block that is wanted stands before the others
module _ (wanted : ℕ → Bool) where
  abbrev pub IsUnwanted : Queued → Type 0
  IsUnwanted r = is_wanted wanted (key_of r) ≡ false

  pub joined_behind : (before behind : List Queued) → AllByRecursion IsUnwanted before → joined wanted (before ++ behind) ≡ joined wanted behind
  joined_behind [] behind none = refl
  joined_behind (r ∷ before) behind none = joined_not wanted r (before ++ behind) none.0 ∙ joined_behind before behind none.1

  pub left_behind : (before behind : Entries Queued) → AllByRecursion IsUnwanted (values before) → entries_left wanted (before ++ behind) ≡ before ++ entries_left wanted behind
  left_behind [] behind none = refl
  left_behind (entry ∷ before) behind none = entry_stays wanted entry (before ++ behind) none.0 ∙ ap (λ es. entry ∷ es) (left_behind before behind none.1)

-- none is wanted
pub none_join : (wanted : ℕ → Bool) → ((block : ℕ) → wanted block ≡ false) → (rs : List Queued) → joined wanted rs ≡ []
none_join wanted none [] = refl
none_join wanted none (r ∷ newer) = joined_not wanted r newer (no_block (key_of r)) ∙ none_join wanted none newer
  where
    no_block : (key : Option ℕ) → is_wanted wanted key ≡ false
    no_block None = refl
    no_block (Some block) = none block

pub all_stay : (wanted : ℕ → Bool) → ((block : ℕ) → wanted block ≡ false) → (es : Entries Queued) → entries_left wanted es ≡ es
all_stay wanted none [] = refl
all_stay wanted none (entry ∷ newer) = entry_stays wanted entry newer (no_block (key_of entry.1)) ∙ ap (λ es. entry ∷ es) (all_stay wanted none newer)
  where
    no_block : (key : Option ℕ) → is_wanted wanted key ≡ false
    no_block None = refl
    no_block (Some block) = none block

-- ---- the oldest write of one block more is taken out

module _ (block : ℕ) (entry : ℕ × Queued) (newer : Entries Queued) where
  oldest_own : is_key block (key_of entry.1) ≡ true → oldest_keyed key_of block (entry ∷ newer) ≡ Some entry.1
  oldest_own is = ap (λ (b : Bool). if b then Some entry.1 else oldest_keyed key_of block newer) is

  oldest_later : is_key block (key_of entry.1) ≡ false → oldest_keyed key_of block (entry ∷ newer) ≡ oldest_keyed key_of block newer
  oldest_later is = ap (λ (b : Bool). if b then Some entry.1 else oldest_keyed key_of block newer) is

  without_own : is_key block (key_of entry.1) ≡ true → without_oldest_keyed key_of block (entry ∷ newer) ≡ newer
  without_own is = ap (λ (b : Bool). if b then newer else entry ∷ without_oldest_keyed key_of block newer) is

  without_later : is_key block (key_of entry.1) ≡ false → without_oldest_keyed key_of block (entry ∷ newer) ≡ entry ∷ without_oldest_keyed key_of block newer
  without_later is = ap (λ (b : Bool). if b then newer else entry ∷ without_oldest_keyed key_of block newer) is

-- what is taken out of a line for a block
abbrev pub oldest_in : (block : ℕ) → Entries Queued → List Queued
oldest_in block es = option_to_list (oldest_keyed key_of block es)

abbrev pub TakesOldest : (wanted : ℕ → Bool) (block : ℕ) → Entries Queued → Type 0
TakesOldest wanted block es =
    IsPermutation (joined (plus wanted block) (values es)) (oldest_in block es ++ joined wanted (values (without_oldest_keyed key_of block es)))
    × (entries_left (plus wanted block) es ≡ entries_left wanted (without_oldest_keyed key_of block es))

-- a request stands first that is no write of the block, nor of another that is wanted
passes : (wanted : ℕ → Bool) (block : ℕ) (entry : ℕ × Queued) (newer : Entries Queued) → is_wanted (plus wanted block) (key_of entry.1) ≡ false
    → is_wanted wanted (key_of entry.1) ≡ false → is_key block (key_of entry.1) ≡ false → TakesOldest wanted block newer → TakesOldest wanted block (entry ∷ newer)
passes wanted block entry newer now was other rest =
    let without = without_later block entry newer other in (
      subst (λ rs. IsPermutation rs (oldest_in block (entry ∷ newer) ++ joined wanted (values (without_oldest_keyed key_of block (entry ∷ newer))))) (sym (joined_not (plus wanted block) entry.1 (values newer) now))
          (subst (IsPermutation (joined (plus wanted block) (values newer)))
          (sym ((λ i. option_to_list (oldest_later block entry newer other i) ++ joined wanted (values (without i)))
          ∙ ap (λ rs. oldest_in block newer ++ rs) (joined_not wanted entry.1 (values (without_oldest_keyed key_of block newer)) was))) rest.0),
      entry_stays (plus wanted block) entry newer now ∙ ap (λ es. entry ∷ es) rest.1
          ∙ sym (entry_stays wanted entry (without_oldest_keyed key_of block newer) was) ∙ ap (entries_left wanted) (sym without),
    )

-- a write of the block does
takes_own : (wanted : ℕ → Bool) (block : ℕ) (entry : ℕ × Queued) (newer : Entries Queued) → key_of entry.1 ≡ Some block → wanted block ≡ false → TakesOldest wanted block (entry ∷ newer)
takes_own wanted block entry newer key unwanted =
    let own : is_key block (key_of entry.1) ≡ true = ap (is_key block) key ∙ eq-eqb block block refl in
    let now : is_wanted (plus wanted block) (key_of entry.1) ≡ true = ap (is_wanted (plus wanted block)) key ∙ put-same wanted block true block refl in
    let rest : but (plus wanted block) (key_of entry.1) ≡ wanted = ap (but (plus wanted block)) key ∙ plus_but wanted block unwanted in
    let without = without_own block entry newer own in (
      subst (λ rs. IsPermutation rs (oldest_in block (entry ∷ newer) ++ joined wanted (values (without_oldest_keyed key_of block (entry ∷ newer)))))
          (sym (joined_in (plus wanted block) entry.1 (values newer) now ∙ ap (λ w. entry.1 ∷ joined w (values newer)) rest))
          (subst (IsPermutation (entry.1 ∷ joined wanted (values newer)))
          (sym (λ i. option_to_list (oldest_own block entry newer own i) ++ joined wanted (values (without i)))) (IsPermutation-refl (entry.1 ∷ joined wanted (values newer)))),
      entry_goes (plus wanted block) entry newer now ∙ ap (λ w. entries_left w newer) rest ∙ ap (entries_left wanted) (sym without),
    )

-- a write of another block that is wanted does
joins_too : (wanted : ℕ → Bool) (block : ℕ) (entry : ℕ × Queued) (newer : Entries Queued) (other : ℕ) → key_of entry.1 ≡ Some other → other ≢ block → wanted other ≡ true
    → TakesOldest (but wanted (Some other)) block newer → TakesOldest wanted block (entry ∷ newer)
joins_too wanted block entry newer other key apart is rest =
    let no : is_key block (key_of entry.1) ≡ false = ap (is_key block) key ∙ ne_eqb other block apart in
    let now : is_wanted (plus wanted block) (key_of entry.1) ≡ true = ap (is_wanted (plus wanted block)) key ∙ put-other wanted block true other apart ∙ is in
    let was : is_wanted wanted (key_of entry.1) ≡ true = ap (is_wanted wanted) key ∙ is in
    let behind : but (plus wanted block) (key_of entry.1) ≡ plus (but wanted (Some other)) block = ap (but (plus wanted block)) key ∙ plus_and_but wanted block other apart in
    let later = without_oldest_keyed key_of block newer in
    let without = without_later block entry newer no in
    let found = oldest_in block newer in
    let others = joined (but wanted (Some other)) (values later) in
    let here : joined wanted (entry.1 ∷ values later) ≡ entry.1 ∷ others = joined_in wanted entry.1 (values later) was ∙ ap (λ k. entry.1 ∷ joined (but wanted k) (values later)) key in (
      subst (λ rs. IsPermutation rs (oldest_in block (entry ∷ newer) ++ joined wanted (values (without_oldest_keyed key_of block (entry ∷ newer)))))
          (sym (joined_in (plus wanted block) entry.1 (values newer) now ∙ ap (λ w. entry.1 ∷ joined w (values newer)) behind))
          (subst (IsPermutation (entry.1 ∷ joined (plus (but wanted (Some other)) block) (values newer)))
          (sym ((λ i. option_to_list (oldest_later block entry newer no i) ++ joined wanted (values (without i))) ∙ ap (λ rs. found ++ rs) here))
          (IsPermutation-trans _ (entry.1 ∷ (found ++ others)) (found ++ entry.1 ∷ others)
          (IsPermutation-cons entry.1 _ _ rest.0)
          (IsPermutation-sym (found ++ entry.1 ∷ others) (entry.1 ∷ (found ++ others)) (IsPermutation-middle found entry.1 others)))),
      entry_goes (plus wanted block) entry newer now ∙ ap (λ w. entries_left w newer) behind ∙ rest.1
          ∙ sym (entry_goes wanted entry later was ∙ ap (λ k. entries_left (but wanted k) later) key) ∙ ap (entries_left wanted) (sym without),
    )

pub takes_oldest : (wanted : ℕ → Bool) (block : ℕ) (es : Entries Queued) → wanted block ≡ false → TakesOldest wanted block es
takes_oldest wanted block [] unwanted = (IsPermutation-refl [], refl)
takes_oldest wanted block (entry ∷ newer) unwanted =
    elim (key_of entry.1) as (λ key. key_of entry.1 ≡ key → TakesOldest wanted block (entry ∷ newer)) [
      | None ↦ λ key. passes wanted block entry newer (ap (is_wanted (plus wanted block)) key) (ap (is_wanted wanted) key) (ap (is_key block) key) (takes_oldest wanted block newer unwanted)
      | Some other ↦ λ key. elim (cases_eq other block) [
        | inl same ↦ takes_own wanted block entry newer (key ∙ ap Some same) unwanted
        | inr apart ↦ elim (cases_Bool (wanted other)) [
          | inl is ↦
              joins_too wanted block entry newer other key apart is
              (takes_oldest (but wanted (Some other)) block newer (put-other wanted other false block (λ e. apart (sym e)) ∙ unwanted))
          | inr not ↦
              passes wanted block entry newer (ap (is_wanted (plus wanted block)) key ∙ put-other wanted block true other apart ∙ not)
              (ap (is_wanted wanted) key ∙ not) (ap (is_key block) key ∙ ne_eqb other block apart) (takes_oldest wanted block newer unwanted)
        ]
      ]
    ] refl
