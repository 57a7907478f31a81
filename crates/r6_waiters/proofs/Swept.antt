-- What a sweep leaves.
use Rattle.std.proofs.Common.{◌≡◌, ℕ, suc, ◌<◌, ◌≤◌, Bool, true, List, [], ◌∷◌, ◌++◌, length, take, drop, refl, sym, ap, subst, ◌∙◌, Option, Some, None, is_some, arith}
use Rattle.std.specs.Prelude.{◌==◌, ◌&&◌, nat_lt}
use Rattle.std.specs.List.{filter}
use Rattle.std.proofs.lemmas.Bool.{lt-ltb, ltb-true}
use Rattle.std.proofs.lemmas.List.{append-nil, take_all, drop_all}
use Rattle.r6_waiters.specs.Line.{Entries}
use Rattle.r6_waiters.specs.Sets.{Places, place_at, is_there, is_marked, cause_at, waiting, IsMarked, HaveRoom, AreAsWide}
use Rattle.r6_waiters.proofs.Lines.{has_value, live, live-swept, length-swept, there-swept, place-swept, waiting-live}
use Rattle.r6_waiters.proofs.Marks.{there-mark, waiting-settled}

-- only the values count
waiting-values : {X : Type 0} (f : ℕ → ℕ) (a b : Places X) → length a ≡ length b → ((i : ℕ) → (place_at a i).1 ≡ (place_at b i).1) → waiting f a ≡ waiting f b
waiting-values f [] [] long same = refl
waiting-values f [] (q ∷ b) long same = absurd (omega (arith, long))
waiting-values f (p ∷ a) [] long same = absurd (omega (arith, long))
waiting-values f ((m, None) ∷ a) ((n, None) ∷ b) long same = waiting-values (λ i. f (suc i)) a b (omega (arith, long)) (λ i. same (suc i))
waiting-values f ((m, None) ∷ a) ((n, Some w) ∷ b) long same = absurd (cc (same 0))
waiting-values f ((m, Some v) ∷ a) ((n, None) ∷ b) long same = absurd (cc (same 0))
waiting-values f ((m, Some v) ∷ a) ((n, Some w) ∷ b) long same =
    let one : v ≡ w = cc (same 0) in
    ap (λ u. (f 0, u) ∷ waiting (λ i. f (suc i)) a) one
    ∙ ap (λ (es : Entries _). (f 0, w) ∷ es) (waiting-values (λ i. f (suc i)) a b (omega (arith, long)) (λ i. same (suc i)))

-- the places with the causes of their entries beside the values
pub record AreNamed {X : Type 0} (sets : List (List ℕ)) (places named : Places X) : Type 0 where
  pub as_long : length named ≡ length places
  pub values : (i : ℕ) → (place_at named i).1 ≡ (place_at places i).1
  pub causes : (c i : ℕ) → is_marked sets c i ≡ true → (place_at named i).0 ≡ c

named-cause : {X : Type 0} (sets : List (List ℕ)) (places named : Places X) → IsMarked sets places (cause_at sets) → AreNamed sets places named
    → (i : ℕ) → is_there named i ≡ true → ((place_at named i).0 ≡ cause_at sets i) × (cause_at sets i < length sets)
named-cause sets places named marked are i there =
    let there' : is_there places i ≡ true = ap (λ o. is_some o) (sym (are.values i)) ∙ there in
    (are.causes (cause_at sets i) i (there-mark sets places (cause_at sets) marked (cause_at sets i) i there' refl), marked.within i there')

pub live-named : {X : Type 0} (sets : List (List ℕ)) (places named : Places X) → IsMarked sets places (cause_at sets) → AreNamed sets places named
    → live (filter has_value named) ≡ waiting (cause_at sets) places
live-named sets places named marked are =
    live-swept named
    ∙ sym (waiting-live (cause_at sets) named (λ i there. (named-cause sets places named marked are i there).0))
    ∙ waiting-values (cause_at sets) named places are.as_long are.values

pub few-named : {X : Type 0} (sets : List (List ℕ)) (places named : Places X) → IsMarked sets places (cause_at sets) → AreNamed sets places named
    → length (filter has_value named) ≡ length (waiting (cause_at sets) places)
few-named sets places named marked are = length-swept named ∙ ap length (sym (live-swept named) ∙ live-named sets places named marked are)

pub causes-swept : {X : Type 0} (sets : List (List ℕ)) (places named : Places X) → IsMarked sets places (cause_at sets) → AreNamed sets places named
    → (i : ℕ) → i < length (filter has_value named) → (place_at (filter has_value named) i).0 < length sets
causes-swept {X} sets places named marked are i inside =
    let kept = filter has_value named in
    let there : is_there kept i ≡ true = there-swept named i ∙ lt-ltb i (length kept) inside in
    let at = place-swept named i there in
    let cause = named-cause sets places named marked are at.0 at.1 in
    let same : (place_at kept i).0 ≡ cause_at sets at.0 = ap (λ (p : ℕ × Option X). p.0) at.2 ∙ cause.0 in
    omega (arith, same, cause.1)

pub marked-swept : {X : Type 0} (sets after : List (List ℕ)) (places named : Places X) → IsMarked sets places (cause_at sets) → AreNamed sets places named → length after ≡ length sets
    → ((c i : ℕ) → is_marked after c i ≡ (nat_lt i (length (filter has_value named)) && ((place_at (filter has_value named) i).0 == c)))
    → IsMarked after (filter has_value named) (λ i. (place_at (filter has_value named) i).0)
marked-swept sets after places named marked are long marks =
    let kept = filter has_value named in
    record {
      marks = λ c i. marks c i ∙ ap (λ (b : Bool). b && ((place_at kept i).0 == c)) (sym (there-swept named i));
      within = λ i there. subst (λ (n : ℕ). (place_at kept i).0 < n) (sym long) (causes-swept sets places named marked are i (inside i there));
    }
  where
    inside : (i : ℕ) → is_there (filter has_value named) i ≡ true → i < length (filter has_value named)
    inside i there = ltb-true i (length (filter has_value named)) (sym (there-swept named i) ∙ there)

pub waiting-swept : {X : Type 0} (sets after : List (List ℕ)) (places named : Places X) → IsMarked sets places (cause_at sets) → AreNamed sets places named
    → IsMarked after (filter has_value named) (λ i. (place_at (filter has_value named) i).0)
    → waiting (cause_at after) (filter has_value named) ≡ waiting (cause_at sets) places
waiting-swept sets after places named marked are now =
    let kept = filter has_value named in
    waiting-settled after kept (λ i. (place_at kept i).0) now
    ∙ waiting-live (λ i. (place_at kept i).0) kept (λ i there. refl)
    ∙ live-named sets places named marked are

pub length-kept : {X : Type 0} (places : Places X) → length (filter has_value places) ≤ length places
length-kept [] = omega arith
length-kept ((m, None) ∷ places) = let rest = length-kept places in omega (arith, rest)
length-kept ((m, Some v) ∷ places) = let rest = length-kept places in omega (arith, rest)

pub room-swept : (sets after : List (List ℕ)) (many few : ℕ) → HaveRoom sets many → few ≤ many → AreAsWide sets after → HaveRoom after few
room-swept sets after many few room fewer wide cause within =
    let enough = room cause (omega (arith, within, wide.0)) in
    omega (arith, enough, wide.1 cause, fewer)

-- what was lent whole comes back whole
pub lent_whole : {X : Type 0} (n : ℕ) (after before : List X) → length after ≡ length before → n ≡ length before → take n (after ++ drop (length after) before) ≡ after
lent_whole n after before long all =
    ap (λ rest. take n (after ++ rest)) (drop_all (length after) before (omega (arith, long)))
    ∙ ap (λ l. take n l) (append-nil after)
    ∙ take_all n after (omega (arith, long, all))
