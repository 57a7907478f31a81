-- The oldest entry of those that wait for one of two causes.
use Rattle.std.proofs.Common.{◌≡◌, ◌⊎◌, inl, inr, ℕ, zero, suc, ◌<◌, ◌≤◌, Bool, true, false, [], ◌∷◌, refl, sym, ap, ◌∙◌, Some, None, arith}
use Rattle.std.specs.Prelude.{◌==◌, ◌||◌, if◌then◌else◌}
use Rattle.std.proofs.lemmas.Bool.{eq-eqb, ne_eqb}
use Rattle.r6_waiters.specs.Line.{older_of}
use Rattle.r6_waiters.proofs.Lines.{HasNoneOf, IsOldest}
use Rattle.r6_waiters.specs.Sets.{Places, is_there, waiting}

-- the place of an entry that waits for one of the two, and none before it does
pub record IsOlder {X : Type 0} (f : ℕ → ℕ) (places : Places X) (first second p : ℕ) : Type 0 where
  pub there : is_there places p ≡ true
  pub waits : (f p ≡ first) ⊎ (f p ≡ second)
  pub before : (q : ℕ) → q < p → is_there places q ≡ true → (f q ≡ first → ⊥) × (f q ≡ second → ⊥)

or_true : (b : Bool) → (b || true) ≡ true
or_true true = refl
or_true false = refl

either : (a first second : ℕ) → (a ≡ first) ⊎ (a ≡ second) → ((a == first) || (a == second)) ≡ true
either a first second waits = elim waits [
  | inl e ↦ ap (λ (b : Bool). b || (a == second)) (eq-eqb a first e)
  | inr e ↦ ap (λ (b : Bool). (a == first) || b) (eq-eqb a second e) ∙ or_true (a == first)
]

neither : (a first second : ℕ) → (a ≡ first → ⊥) → (a ≡ second → ⊥) → ((a == first) || (a == second)) ≡ false
neither a first second one other = λ i. ne_eqb a first one i || ne_eqb a second other i

pub older-found : {X : Type 0} (f : ℕ → ℕ) (places : Places X) (first second p : ℕ) → IsOlder f places first second p
    → older_of first second (waiting f places) ≡ Some (f p)
older-found f [] first second p older = absurd (cc older.there)
older-found f ((m, None) ∷ places) first second zero older = absurd (cc older.there)
older-found f ((m, Some v) ∷ places) first second zero older =
    ap (λ (b : Bool). if b then Some (f 0) else older_of first second (waiting (λ i. f (suc i)) places)) (either (f 0) first second older.waits)
older-found f ((m, None) ∷ places) first second (suc p) older =
    older-found (λ i. f (suc i)) places first second p
    (record { there = older.there; waits = older.waits; before = λ q below there. older.before (suc q) (omega arith) there })
older-found f ((m, Some v) ∷ places) first second (suc p) older =
    let not = older.before 0 (omega arith) refl in
    ap (λ (b : Bool). if b then Some (f 0) else older_of first second (waiting (λ i. f (suc i)) places)) (neither (f 0) first second not.0 not.1)
    ∙ older-found (λ i. f (suc i)) places first second p
    (record { there = older.there; waits = older.waits; before = λ q below there. older.before (suc q) (omega arith) there })

pub older-none : {X : Type 0} (f : ℕ → ℕ) (places : Places X) (first second : ℕ)
    → ((q : ℕ) → is_there places q ≡ true → (f q ≡ first → ⊥) × (f q ≡ second → ⊥)) → older_of first second (waiting f places) ≡ None
older-none f [] first second none = refl
older-none f ((m, None) ∷ places) first second none = older-none (λ i. f (suc i)) places first second (λ q there. none (suc q) there)
older-none f ((m, Some v) ∷ places) first second none =
    let not = none 0 refl in
    ap (λ (b : Bool). if b then Some (f 0) else older_of first second (waiting (λ i. f (suc i)) places)) (neither (f 0) first second not.0 not.1)
    ∙ older-none (λ i. f (suc i)) places first second (λ q there. none (suc q) there)

-- ---- by the oldest entry of each

module _ {X : Type 0} (f : ℕ → ℕ) (places : Places X) (first second : ℕ) where
  pub older-second : (one other : ℕ) → IsOldest f places first one → IsOldest f places second other → other < one → Some second ≡ older_of first second (waiting f places)
  older-second one other a b before = sym (older-found f places first second other
      (record { there = b.there; waits = inr b.waits; before = λ q below there. ((λ e. a.first q (omega arith) there e), (λ e. b.first q below there e)) })
      ∙ ap (λ (c : ℕ). Some c) b.waits)

  pub older-first : (one other : ℕ) → IsOldest f places first one → IsOldest f places second other → one ≤ other → Some first ≡ older_of first second (waiting f places)
  older-first one other a b reach = sym (older-found f places first second one
      (record { there = a.there; waits = inl a.waits; before = λ q below there. ((λ e. a.first q below there e), (λ e. b.first q (omega arith) there e)) })
      ∙ ap (λ (c : ℕ). Some c) a.waits)

  pub older-first_alone : (one : ℕ) → IsOldest f places first one → HasNoneOf f places second → Some first ≡ older_of first second (waiting f places)
  older-first_alone one a none = sym (older-found f places first second one
      (record { there = a.there; waits = inl a.waits; before = λ q below there. ((λ e. a.first q below there e), (λ e. none.none q there e)) })
      ∙ ap (λ (c : ℕ). Some c) a.waits)

  pub older-second_alone : (other : ℕ) → HasNoneOf f places first → IsOldest f places second other → Some second ≡ older_of first second (waiting f places)
  older-second_alone other none b = sym (older-found f places first second other
      (record { there = b.there; waits = inr b.waits; before = λ q below there. ((λ e. none.none q there e), (λ e. b.first q below there e)) })
      ∙ ap (λ (c : ℕ). Some c) b.waits)

  pub older-neither : HasNoneOf f places first → HasNoneOf f places second → None ≡ older_of first second (waiting f places)
  older-neither one other = sym (older-none f places first second (λ q there. ((λ e. one.none q there e), (λ e. other.none q there e))))
