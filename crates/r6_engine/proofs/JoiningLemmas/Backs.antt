-- The parts of one worker's slots among those that come back.
use Rattle.std.proofs.Common.{◌≡◌, ℕ, ◌≤◌, Bool, true, false, true≢false, List, [], ◌∷◌, ◌++◌, length, inl, inr, refl, sym, ap, subst, ◌∙◌, arith, Option, Some, None}
use Rattle.std.specs.Prelude.{◌%◌, ◌==◌, not}
use Rattle.std.proofs.lemmas.Bool.{cases_Bool, and_parts, eqb-true, eq-eqb}
use Rattle.r6_dev.specs.History.{Telling}
use Rattle.r6_dev.specs.Promises.{Promise}
use Rattle.r6_exchange.specs.declared.task.Part.{Part}
use Rattle.r6_exchange.specs.declared.task.ServedPart.{ServedPart}
use Rattle.r6_exchange.specs.Parts.{part_in as served_in}
use Rattle.r6_exchange.specs.Answering.{known_of}
use Rattle.r6_shard.specs.Parts.{is_of, part_in}
use Rattle.r6_engine.specs.remote.Lines.{telling_in}
use Rattle.r6_engine.specs.joining.Crews.{is_own, parts_where, own_parts}

pub some-not : {A : Type 0} (x : A) → Some x ≡ None → ⊥
some-not x e = subst IsSome e tt
  where
    IsSome : {A : Type 0} → Option A → Type 0
    IsSome None = ⊥
    IsSome (Some x) = Unit {0}

pub passes-test : {D : Type 0} (test : ServedPart D → Bool) (s : ServedPart D) (rest : List (ServedPart D)) → test s ≡ true
    → parts_where test (s ∷ rest) ≡ s.part ∷ parts_where test rest
passes-test test s rest e = rw e

pub fails-test : {D : Type 0} (test : ServedPart D → Bool) (s : ServedPart D) (rest : List (ServedPart D)) → test s ≡ false
    → parts_where test (s ∷ rest) ≡ parts_where test rest
fails-test test s rest e = rw e

-- one more
pub where-more : {D : Type 0} (test : ServedPart D → Bool) (xs : List (ServedPart D)) (s : ServedPart D) → test s ≡ true
    → parts_where test (xs ++ s ∷ []) ≡ parts_where test xs ++ s.part ∷ []
where-more test [] s e = passes-test test s [] e
where-more test (x ∷ xs) s e = elim (cases_Bool (test x)) [
  | inl yes' ↦
      passes-test test x (xs ++ s ∷ []) yes' ∙ ap (λ y. x.part ∷ y) (where-more test xs s e)
      ∙ ap (λ y. y ++ s.part ∷ []) (sym (passes-test test x xs yes'))
  | inr no' ↦
      fails-test test x (xs ++ s ∷ []) no' ∙ where-more test xs s e ∙ ap (λ y. y ++ s.part ∷ []) (sym (fails-test test x xs no'))
]

pub where-same : {D : Type 0} (test : ServedPart D → Bool) (xs : List (ServedPart D)) (s : ServedPart D) → test s ≡ false
    → parts_where test (xs ++ s ∷ []) ≡ parts_where test xs
where-same test [] s e = fails-test test s [] e
where-same test (x ∷ xs) s e = elim (cases_Bool (test x)) [
  | inl yes' ↦
      passes-test test x (xs ++ s ∷ []) yes' ∙ ap (λ y. x.part ∷ y) (where-same test xs s e) ∙ sym (passes-test test x xs yes')
  | inr no' ↦ fails-test test x (xs ++ s ∷ []) no' ∙ where-same test xs s e ∙ sym (fails-test test x xs no')
]

pub where-few : {D : Type 0} (test : ServedPart D → Bool) (xs : List (ServedPart D)) → length (parts_where test xs) ≤ length xs
where-few test [] = omega arith
where-few test (x ∷ xs) = elim (cases_Bool (test x)) [
  | inl yes' ↦ let is = ap length (passes-test test x xs yes') in let few = where-few test xs in omega (arith, is, few)
  | inr no' ↦ let is = ap length (fails-test test x xs no') in let few = where-few test xs in omega (arith, is, few)
]

-- ---- a part is of one of a worker's slots, or not

pub own-yes : {D : Type 0} (workers k : ℕ) (s : ServedPart D) → s.part.slot % workers ≡ k → is_own workers k s ≡ true
own-yes workers k s e = eq-eqb (s.part.slot % workers) k e

pub own-no : {D : Type 0} (workers k : ℕ) (s : ServedPart D) → (s.part.slot % workers ≡ k → ⊥) → is_own workers k s ≡ false
own-no workers k s ne = elim (cases_Bool (is_own workers k s)) [
  | inl yes' ↦ absurd (ne (eqb-true (s.part.slot % workers) k yes'))
  | inr no' ↦ no'
]

pub stray-no : {D : Type 0} (workers k : ℕ) (s : ServedPart D) → s.part.slot % workers ≡ k → not (is_own workers k s) ≡ false
stray-no workers k s e = ap not (own-yes workers k s e)

pub stray-yes : {D : Type 0} (workers k : ℕ) (s : ServedPart D) → (s.part.slot % workers ≡ k → ⊥) → not (is_own workers k s) ≡ true
stray-yes workers k s ne = ap not (own-no workers k s ne)

module _ {D : Type 0} (told : D → Telling) where
  first-part : (p : Part D) (parts : List (Part D)) (slot generation : ℕ) → is_of slot generation p ≡ true
      → part_in told (p ∷ parts) slot generation ≡ Some (told p.device)
  first-part p parts slot generation e = rw e

  rest-parts : (p : Part D) (parts : List (Part D)) (slot generation : ℕ) → is_of slot generation p ≡ false
      → part_in told (p ∷ parts) slot generation ≡ part_in told parts slot generation
  rest-parts p parts slot generation e = rw e

  -- where none is in the first list, it is the one in the other
  pub in-the-other : (xs ys : List (Part D)) (slot generation : ℕ) → part_in told xs slot generation ≡ None
      → part_in told (xs ++ ys) slot generation ≡ part_in told ys slot generation
  in-the-other [] ys slot generation none = refl
  in-the-other (x ∷ xs) ys slot generation none = elim (cases_Bool (is_of slot generation x)) [
    | inl yes' ↦ absurd (some-not (told x.device) (sym (first-part x xs slot generation yes') ∙ none))
    | inr no' ↦
        rest-parts x (xs ++ ys) slot generation no'
        ∙ in-the-other xs ys slot generation (sym (rest-parts x xs slot generation no') ∙ none)
  ]

  pub in-the-first : (xs ys : List (Part D)) (slot generation : ℕ) → part_in told ys slot generation ≡ None
      → part_in told (xs ++ ys) slot generation ≡ part_in told xs slot generation
  in-the-first [] ys slot generation none = none
  in-the-first (x ∷ xs) ys slot generation none = elim (cases_Bool (is_of slot generation x)) [
    | inl yes' ↦ first-part x (xs ++ ys) slot generation yes' ∙ sym (first-part x xs slot generation yes')
    | inr no' ↦
        rest-parts x (xs ++ ys) slot generation no' ∙ in-the-first xs ys slot generation none
        ∙ sym (rest-parts x xs slot generation no')
  ]

  -- a part of this slot
  slot-of : (p : Part D) (slot generation : ℕ) → is_of slot generation p ≡ true → p.slot ≡ slot
  slot-of p slot generation is = eqb-true p.slot slot (and_parts (p.slot == slot) (p.generation == generation) is).0

  -- a worker's part of one of its slots comes back
  pub own-there : (promised : D → Promise) (workers k : ℕ) (served : List (ServedPart D)) (slot generation : ℕ) → slot % workers ≡ k
      → part_in told (own_parts workers k served) slot generation ≡ telling_in (served_in told promised served slot generation)
  own-there promised workers k [] slot generation own = refl
  own-there promised workers k (s ∷ served) slot generation own = elim (cases_Bool (is_own workers k s)) [
    | inl mine ↦ elim (cases_Bool (is_of slot generation s.part)) [
      | inl yes' ↦
          ap (λ y. part_in told y slot generation) (passes-test (is_own workers k) s served mine)
          ∙ first-part s.part (own_parts workers k served) slot generation yes' ∙ sym (ap telling_in (first-served yes'))
      | inr no' ↦
          ap (λ y. part_in told y slot generation) (passes-test (is_own workers k) s served mine)
          ∙ rest-parts s.part (own_parts workers k served) slot generation no'
          ∙ own-there promised workers k served slot generation own ∙ sym (ap telling_in (rest-served no'))
    ]
    | inr other ↦ elim (cases_Bool (is_of slot generation s.part)) [
      | inl yes' ↦
          absurd (true≢false (sym (eq-eqb (s.part.slot % workers) k (ap (λ d. d % workers) (slot-of s.part slot generation yes') ∙ own)) ∙ other))
      | inr no' ↦
          ap (λ y. part_in told y slot generation) (fails-test (is_own workers k) s served other)
          ∙ own-there promised workers k served slot generation own ∙ sym (ap telling_in (rest-served no'))
    ]
  ]
    where
      first-served : is_of slot generation s.part ≡ true
          → served_in told promised (s ∷ served) slot generation ≡ Some (known_of told promised s)
      first-served e = rw e

      rest-served : is_of slot generation s.part ≡ false
          → served_in told promised (s ∷ served) slot generation ≡ served_in told promised served slot generation
      rest-served e = rw e

  -- and none of another slot
  pub own-only : (workers k : ℕ) (served : List (ServedPart D)) (slot generation : ℕ) → (slot % workers ≡ k → ⊥)
      → part_in told (own_parts workers k served) slot generation ≡ None
  own-only workers k [] slot generation ne = refl
  own-only workers k (s ∷ served) slot generation ne = elim (cases_Bool (is_own workers k s)) [
    | inl mine ↦ elim (cases_Bool (is_of slot generation s.part)) [
      | inl yes' ↦
          absurd (ne (ap (λ d. d % workers) (sym (slot-of s.part slot generation yes')) ∙ eqb-true (s.part.slot % workers) k mine))
      | inr no' ↦
          ap (λ y. part_in told y slot generation) (passes-test (is_own workers k) s served mine)
          ∙ rest-parts s.part (own_parts workers k served) slot generation no' ∙ own-only workers k served slot generation ne
    ]
    | inr other ↦
        ap (λ y. part_in told y slot generation) (fails-test (is_own workers k) s served other)
        ∙ own-only workers k served slot generation ne
  ]
