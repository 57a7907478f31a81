-- The causes written beside the values, from the sets.
use Rattle.std.proofs.Common.{◌≡◌, inl, inr, ℕ, ◌+◌, ◌<◌, ◌≤◌, Bool, true, false, List, [], length, get_or, set, refl, sym, ap, ◌∙◌, Option, None, arith}
use Rattle.std.specs.Prelude.{◌==◌, if◌then◌else◌}
use Rattle.std.proofs.lemmas.Bool.{eq-eqb, ne_eqb, cases_eq, cases_Bool}
use Rattle.std.proofs.lemmas.List.{get_or-set_same, get_or-set_other, get_or_read}
use Rattle.r6_waiters.specs.Positions.{has, HasNone}
use Rattle.r6_waiters.specs.Sets.{Places, place_at, is_marked}
use Rattle.r6_waiters.proofs.Marks.{marked_other, marked_same}

-- what a set has without one position it had before
pub kept-removed : (before after : List ℕ) (p i : ℕ) → has after i ≡ (if i == p then false else has before i) → has after i ≡ true → has before i ≡ true
kept-removed before after p i is there =
    elim (i == p) as (λ b. has after i ≡ (if b then false else has before i) → has before i ≡ true) [ true ↦ λ e. absurd (cc (e, there)) | false ↦ λ e. sym e ∙ there ] is

-- the cause written beside one more value
pub named-more : {X : Type 0} (start places : Places X) (first before after : List ℕ) (place : ℕ × Option X) (cause p : ℕ) → p < length places → has before p ≡ true → has first p ≡ true → place ≡ get_or places p place
    → ((i : ℕ) → has after i ≡ (if i == p then false else has before i))
    → ((i : ℕ) → place_at places i ≡ ((if has before i then (place_at start i).0 else (if has first i then cause else (place_at start i).0)), (place_at start i).1))
    → (i : ℕ) → place_at (set places p (cause, place.1)) i ≡ ((if has after i then (place_at start i).0 else (if has first i then cause else (place_at start i).0)), (place_at start i).1)
named-more {X} start places first before after place cause p inside before_there first_there at bits named i =
    elim (cases_eq i p) [
      | inl here ↦
          let value : place.1 ≡ (place_at start p).1 = ap (λ (q : ℕ × Option X). q.1) (get_or_read places p place inside at (0, None) ∙ named p) in
          let gone : has after p ≡ false = bits p ∙ ap (λ (b : Bool). if b then false else has before p) (eq-eqb p p refl) in
          rw here
          (get_or-set_same places p (cause, place.1) (0, None) inside
          ∙ ap (λ (v : Option X). (cause, v)) value
          ∙ sym (ap (λ (b : Bool). ((if b then (place_at start p).0 else (if has first p then cause else (place_at start p).0)), (place_at start p).1)) gone
          ∙ ap (λ (b : Bool). ((if b then cause else (place_at start p).0), (place_at start p).1)) first_there))
      | inr other ↦
          let kept : has after i ≡ has before i = bits i ∙ ap (λ (b : Bool). if b then false else has before i) (ne_eqb i p other) in
          get_or-set_other places p i (cause, place.1) (0, None) other
          ∙ named i
          ∙ ap (λ (b : Bool). ((if b then (place_at start i).0 else (if has first i then cause else (place_at start i).0)), (place_at start i).1)) (sym kept)
    ]

-- the sets and the places once one more set was emptied
pub record NamedBelow {X : Type 0} (start sets : List (List ℕ)) (begun places : Places X) (n : ℕ) : Type 0 where
  pub none : (c i : ℕ) → c < n → is_marked sets c i ≡ false
  pub left : (c i : ℕ) → n ≤ c → is_marked sets c i ≡ is_marked start c i
  pub values : (i : ℕ) → (place_at places i).1 ≡ (place_at begun i).1
  pub named : (c i : ℕ) → c < n → is_marked start c i ≡ true → (place_at places i).0 ≡ c

pub named_below-more : {X : Type 0} (start sets : List (List ℕ)) (begun places after : Places X) (n : ℕ) (words old : List ℕ) → NamedBelow start sets begun places n → n < length sets → old ≡ get_or sets n old
    → ((a b i : ℕ) → is_marked start a i ≡ true → is_marked start b i ≡ true → a ≡ b) → HasNone words
    → ((i : ℕ) → place_at after i ≡ ((if has old i then n else (place_at places i).0), (place_at places i).1)) → NamedBelow start (set sets n words) begun after (n + 1)
named_below-more {X} start sets begun places after n words old below within is once empty written =
    record {
      none = λ c i before. elim (cases_eq c n) [
        | inl same ↦ marked_same sets words n c i within same ∙ empty i
        | inr other ↦ marked_other sets words n c i other ∙ below.none c i (omega arith)
      ];
      left = λ c i above. marked_other sets words n c i (λ e. omega arith) ∙ below.left c i (omega arith);
      values = λ i. ap (λ (p : ℕ × Option X). p.1) (written i) ∙ below.values i;
      named = λ c i before mark. elim (cases_eq c n) [ inl same ↦ here c i same mark | inr other ↦ earlier c i other (omega arith) mark ];
    }
  where
    old_is : (i : ℕ) → has old i ≡ is_marked start n i
    old_is i = ap (λ (l : List ℕ). has l i) (get_or_read sets n old within is []) ∙ below.left n i (omega arith)

    at : (i : ℕ) (b : Bool) → has old i ≡ b → (place_at after i).0 ≡ (if b then n else (place_at places i).0)
    at i b is = ap (λ (p : ℕ × Option X). p.0) (written i) ∙ ap (λ (t : Bool). if t then n else (place_at places i).0) is

    here : (c i : ℕ) → c ≡ n → is_marked start c i ≡ true → (place_at after i).0 ≡ c
    here c i same mark = at i true (old_is i ∙ ap (λ (m : ℕ). is_marked start m i) (sym same) ∙ mark) ∙ sym same

    earlier : (c i : ℕ) → (c ≡ n → ⊥) → c < n → is_marked start c i ≡ true → (place_at after i).0 ≡ c
    earlier c i other before mark =
        elim (cases_Bool (has old i)) [
          | inl held ↦ absurd (other (once c n i mark (sym (old_is i) ∙ held)))
          | inr clear ↦ at i false clear ∙ below.named c i before mark
        ]
