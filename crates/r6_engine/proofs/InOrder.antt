-- Requests are accepted in the order of their events.
use Rattle.std.proofs.Common.{◌≡◌, ℕ, ◌+◌, ◌<◌, ◌≤◌, zero, suc, All, List, [], ◌∷◌, map, length, take, filter, cond, Bool, true, false, inl, inr, refl, sym, ap, subst, ◌∙◌, arith, Option, Some, None, slice_get, option_and_then, sum_by}
use Rattle.std.specs.List.{cons_option, range_with_len}
use Rattle.std.proofs.lemmas.Bool.{cases_lt}
use Rattle.std.proofs.lemmas.Option.{none-some}
use Rattle.std.proofs.lemmas.List.Sums.{sum_by-cons}
use Rattle.r6_layout.specs.Shape.{Shape}
use Rattle.r6_world.specs.PlainArray as world
use Rattle.r6_world.proofs.Tables.{Some-inj}
use Rattle.r6_core.specs.declared.refusal.Refusal.{Refusal}
use Rattle.r6_core.specs.Shards.{CoreView}
use Rattle.r6_engine.specs.lists.Events.{Event, Duty, Serves, Takes_up, Checks, Repairs, Task, task_at, tasks_of, numbers_of, has_task, is_passing, waits_before}
use Rattle.r6_engine.proofs.ListLemmas.Rising.{RisesFrom, rises_from, range_rises}
use Rattle.r6_engine.proofs.ListLemmas.Tasks.{numbers_of_tasks}
use Rattle.r6_shard.specs.declared.ledger.Asked.{Asked}
use Rattle.r6_shard.specs.declared.ledger.Asking.{Asking}
use Rattle.r6_shard.specs.Refusing.{IsEnding}
use Rattle.r6_shard.specs.Runs.{AreServed}
use Rattle.r6_engine.specs.runner.Tasks.{request_in, requests_in}
use Rattle.r6_engine.specs.runner.Waits.{AreBehindWaits, IsBehindWait}
use Rattle.r6_engine.specs.ServedShards.{AreInOrder}

-- ---- numbers that rise

rises-less : (low low' : ℕ) (xs : List ℕ) → low ≤ low' → RisesFrom low' xs → RisesFrom low xs
rises-less low low' [] less rises = tt
rises-less low low' (x ∷ xs) less rises = (let first = rises.0 in omega (arith, less, first), rises.1)

rises-kept : (low x : ℕ) (b : Bool) (xs : List ℕ) → low ≤ x → RisesFrom (x + 1) xs → RisesFrom low (cond b (x ∷ xs) xs)
rises-kept low x true xs least rises = (least, rises)
rises-kept low x false xs least rises = rises-less low (x + 1) xs (omega (arith, least)) rises

rises-filter : (p : ℕ → Bool) (low : ℕ) (xs : List ℕ) → RisesFrom low xs → RisesFrom low (filter p xs)
rises-filter p low [] rises = tt
rises-filter p low (x ∷ xs) rises = rises-kept low x (p x) (filter p xs) rises.0 (rises-filter p (x + 1) xs rises.1)

-- ---- requests

abbrev events-of : List Asking → List ℕ
events-of askings = map (λ a. a.event) askings

rises-cons : (low number : ℕ) (o : Option Asking) (rest : List Asking) → ((a : Asking) → o ≡ Some a → a.event ≡ number) → low ≤ number
    → RisesFrom (number + 1) (events-of rest) → RisesFrom low (events-of (cons_option o rest))
rises-cons low number None rest its least rises = rises-less low (number + 1) (events-of rest) (omega (arith, least)) rises
rises-cons low number (Some a) rest its least rises =
    let same : a.event ≡ number = its a refl in
    (omega (arith, same, least), subst (λ k. RisesFrom (k + 1) (events-of rest)) (sym same) rises)

its-event : (number : ℕ) (o : Option Task) (a : Asking) → option_and_then (λ (t : Task). request_in number t.duty) o ≡ Some a → a.event ≡ number
its-event number None a is = cc
its-event number (Some t) a is = by-duty t.duty is
  where
    by-duty : (d : Duty) → request_in number d ≡ Some a → a.event ≡ number
    by-duty (Serves op) is' = sym (ap (λ (y : Asking). y.event) (Some-inj (record { event = number; op = op }) a is'))
    by-duty (Takes_up slot telling) is' = cc
    by-duty Checks is' = cc
    by-duty Repairs is' = cc

rise-requests : (shape : Shape) (shard : ℕ) (events : List Event) (low : ℕ) (numbers : List ℕ) → RisesFrom low numbers
    → RisesFrom low (events-of (requests_in shape shard events numbers))
rise-requests shape shard events low [] rises = tt
rise-requests shape shard events low (number ∷ numbers) rises =
    rises-cons low number (option_and_then (λ (t : Task). request_in number t.duty) (task_at shape shard events number))
    (requests_in shape shard events numbers) (its-event number (task_at shape shard events number)) rises.0
    (rise-requests shape shard events (number + 1) numbers rises.1)

rise-served : (low : ℕ) (core : CoreView) (begun : List Asking) (asked : List Asked) (ops : List world.Op) (refused : List (ℕ × Refusal))
    → AreServed core begun asked ops refused → RisesFrom low (events-of begun) → RisesFrom low (map (λ a. a.event) asked)
rise-served low core [] asked ops refused x rises =
    subst (λ (y : List Asked). RisesFrom low (map (λ a. a.event) y)) (sym x.0) tt
rise-served low core (asking ∷ begun) asked ops refused x rises = elim x [
  | inl p ↦
      let rest = rise-served (asking.event + 1) core begun p.1 p.2 refused p.8 rises.1 in
      let same : p.0.event ≡ asking.event = p.4 in
      subst (λ (y : List Asked). RisesFrom low (map (λ a. a.event) y)) (sym p.3) (
        let least = rises.0 in omega (arith, same, least),
        subst (λ k. RisesFrom (k + 1) (map (λ a. a.event) p.1)) (sym same) rest,
      )
  | inr p ↦
      rises-less low (asking.event + 1) (map (λ a. a.event) asked) (let least = rises.0 in omega (arith, least))
      (rise-served (asking.event + 1) core begun asked ops p.1 p.5 rises.1)
]

above-at : (low : ℕ) (asked : List Asked) (k : ℕ) (a : Asked) → RisesFrom low (map (λ a. a.event) asked) → slice_get asked k ≡ Some a → low ≤ a.event
above-at low [] k a rises at = cc
above-at low (b ∷ asked) zero a rises at =
    let same : b.event ≡ a.event = ap (λ (y : Asked). y.event) (Some-inj b a at) in
    let least = rises.0 in omega (arith, same, least)
above-at low (b ∷ asked) (suc k) a rises at =
    let more = above-at (b.event + 1) asked k a rises.1 at in let least = rises.0 in omega (arith, more, least)

in-order : (low : ℕ) (asked : List Asked) (i j : ℕ) (a b : Asked) → RisesFrom low (map (λ a. a.event) asked) → slice_get asked i ≡ Some a
    → slice_get asked j ≡ Some b → j ≤ i → b.event ≤ a.event
in-order low [] i j a b rises at at' less = cc
in-order low (c ∷ asked) zero zero a b rises at at' less =
    let same : a.event ≡ b.event = ap (λ (y : Asked). y.event) (sym (Some-inj c a at) ∙ Some-inj c b at') in omega (arith, same)
in-order low (c ∷ asked) zero (suc j) a b rises at at' less = absurd (omega (arith, less))
in-order low (c ∷ asked) (suc i) zero a b rises at at' less =
    let same : c.event ≡ b.event = ap (λ (y : Asked). y.event) (Some-inj c b at') in
    let more = above-at (c.event + 1) asked i a rises.1 at in omega (arith, same, more)
in-order low (c ∷ asked) (suc i) (suc j) a b rises at at' less = in-order (c.event + 1) asked i j a b rises.1 at at' (omega (arith, less))

strict-order : (low : ℕ) (asked : List Asked) (i j : ℕ) (a b : Asked) → RisesFrom low (map (λ a. a.event) asked) → slice_get asked i ≡ Some a
    → slice_get asked j ≡ Some b → i < j → a.event < b.event
strict-order low [] i j a b rises at at' less = cc
strict-order low (c ∷ asked) zero zero a b rises at at' less = absurd (omega (arith, less))
strict-order low (c ∷ asked) zero (suc j) a b rises at at' less =
    let same : c.event ≡ a.event = ap (λ (y : Asked). y.event) (Some-inj c a at) in
    let more = above-at (c.event + 1) asked j b rises.1 at' in omega (arith, same, more)
strict-order low (c ∷ asked) (suc i) zero a b rises at at' less = absurd (omega (arith, less))
strict-order low (c ∷ asked) (suc i) (suc j) a b rises at at' less =
    strict-order (c.event + 1) asked i j a b rises.1 at at' (omega (arith, less))

-- a shard's requests are of rising events
rises-begun : (shape : Shape) (shard : ℕ) (events : List Event) (begun : List Asking)
    → begun ≡ requests_in shape shard events (numbers_of (tasks_of shape shard events)) → RisesFrom 0 (events-of begun)
rises-begun shape shard events begun is =
    let n = length events in
    let rising : RisesFrom 0 (numbers_of (tasks_of shape shard events)) =
    subst (RisesFrom 0) (sym (numbers_of_tasks shape shard events))
    (rises-filter (has_task shape shard events) 0 (range_with_len 0 n) (rises_from 0 (range_with_len 0 n) (range_rises 0 n) (λ _. omega arith))) in
    subst (λ y. RisesFrom 0 (events-of y)) (sym is) (rise-requests shape shard events 0 (numbers_of (tasks_of shape shard events)) rising)

-- and so are those that it accepted
rises-all : (shape : Shape) (shard : ℕ) (events : List Event) (core : CoreView) (begun : List Asking) (asked : List Asked) (ops : List world.Op)
    (refused : List (ℕ × Refusal)) → begun ≡ requests_in shape shard events (numbers_of (tasks_of shape shard events))
    → AreServed core begun asked ops refused → RisesFrom 0 (map (λ (y : Asked). y.event) asked)
rises-all shape shard events core begun asked ops refused is served =
    rise-served 0 core begun asked ops refused served (rises-begun shape shard events begun is)

pub are-in-order : (shape : Shape) (shard : ℕ) (events : List Event) (core : CoreView) (begun : List Asking) (asked : List Asked)
    (ops : List world.Op) (refused : List (ℕ × Refusal)) → begun ≡ requests_in shape shard events (numbers_of (tasks_of shape shard events))
    → AreServed core begun asked ops refused → AreInOrder asked
are-in-order shape shard events core begun asked ops refused is served earlier later a b less at at' =
    strict-order 0 asked earlier later a b (rises-all shape shard events core begun asked ops refused is served) at at' less

-- ---- waits

sum-grows : {X : Type 0} (f : X → ℕ) (xs : List X) (m n : ℕ) → m ≤ n → sum_by f (take m xs) ≤ sum_by f (take n xs)
sum-grows f xs zero n less = omega arith
sum-grows f [] (suc m) zero less = omega arith
sum-grows f [] (suc m) (suc n) less = omega arith
sum-grows f (x ∷ xs) (suc m) zero less = absurd (omega (arith, less))
sum-grows f (x ∷ xs) (suc m) (suc n) less =
    let a = sum_by-cons f x (take m xs) in
    let b = sum_by-cons f x (take n xs) in
    let rest = sum-grows f xs m n (omega (arith, less)) in
    omega (arith, a, b, rest)

waits-grow : (events : List Event) (m n : ℕ) → m ≤ n → waits_before events m ≤ waits_before events n
waits-grow events m n less = sum-grows (λ e. cond (is_passing e) 1 0) events m n less

-- requests that were accepted in their order are behind waits, whichever of two is the earlier by its event
pub are-behind : (shape : Shape) (shard : ℕ) (events : List Event) (core : CoreView) (begun : List Asking) (asked : List Asked) (ops : List world.Op)
    (refused : List (ℕ × Refusal)) → begun ≡ requests_in shape shard events (numbers_of (tasks_of shape shard events))
    → AreServed core begun asked ops refused → ((earlier later : ℕ) → earlier < later → IsBehindWait events asked earlier later)
    → AreBehindWaits events asked
are-behind shape shard events core begun asked ops refused is served apart earlier later a b at at' less =
    let rises = rises-all shape shard events core begun asked ops refused is served in
    elim (cases_lt earlier later) [
      | inl before ↦ apart earlier later before a b at at' less
      | inr not ↦
          let order : b.event ≤ a.event = in-order 0 asked earlier later a b rises at at' not in
          let most = waits-grow events b.event a.event order in
          absurd (omega (arith, less, most))
    ]

-- ---- once the service has ended

-- what is refused is of events from here on
refused-rest : (low event : ℕ) (refusal : Refusal) (rest : List (ℕ × Refusal)) → low ≤ event
    → ((k : ℕ) (r : ℕ × Refusal) → slice_get rest k ≡ Some r → event + 1 ≤ r.0) → (k : ℕ) (r : ℕ × Refusal)
    → slice_get ((event, refusal) ∷ rest) k ≡ Some r → low ≤ r.0
refused-rest low event refusal rest least later zero r at =
    let same : event ≡ r.0 = ap (λ (y : ℕ × Refusal). y.0) (Some-inj (event, refusal) r at) in omega (arith, same, least)
refused-rest low event refusal rest least later (suc k) r at = let more = later k r at in omega (arith, more, least)

refused-from : (low : ℕ) (core : CoreView) (begun : List Asking) (asked : List Asked) (ops : List world.Op) (refused : List (ℕ × Refusal))
    → AreServed core begun asked ops refused → RisesFrom low (events-of begun) → (k : ℕ) (r : ℕ × Refusal) → slice_get refused k ≡ Some r
    → low ≤ r.0
refused-from low core [] asked ops refused x rises k r at =
    absurd (none-some r (ap (λ (rs : List (ℕ × Refusal)). slice_get rs k) (sym x.2) ∙ at))
refused-from low core (g ∷ begun) asked ops refused x rises k r at = elim x [
  | inl p ↦
      let more = refused-from (g.event + 1) core begun p.1 p.2 refused p.8 rises.1 k r at in
      let least = rises.0 in omega (arith, more, least)
  | inr p ↦
      refused-rest low g.event p.0 p.1 rises.0 (λ j y. refused-from (g.event + 1) core begun asked ops p.1 p.5 rises.1 j y) k r
      (ap (λ (rs : List (ℕ × Refusal)). slice_get rs k) (sym p.2) ∙ at)
]

abbrev AllBefore : (event : ℕ) → List Asked → Type 0
AllBefore event asked = All (λ (a : Asked). a.event < event) asked

none-asked : (event : ℕ) (asked : List Asked) → asked ≡ [] → AllBefore event asked
none-asked event asked is = subst (AllBefore event) (sym is) (λ k d below. absurd (omega (arith, below)))

one-before : (event : ℕ) (a : Asked) (asked : List Asked) → a.event < event → AllBefore event asked → AllBefore event (a ∷ asked)
one-before event a asked here rest zero d below = here
one-before event a asked here rest (suc k) d below = rest k d (omega (arith, below))

ended-rest : (event : ℕ) (refusal : Refusal) (rest : List (ℕ × Refusal)) (asked : List Asked) → (IsEnding refusal → asked ≡ [])
    → ((k : ℕ) (r : ℕ × Refusal) → slice_get rest k ≡ Some r → IsEnding r.1 → AllBefore r.0 asked)
    → (k : ℕ) (r : ℕ × Refusal) → slice_get ((event, refusal) ∷ rest) k ≡ Some r → IsEnding r.1 → AllBefore r.0 asked
ended-rest event refusal rest asked none later zero r at ending =
    none-asked r.0 asked (none (subst (λ (y : ℕ × Refusal). IsEnding y.1) (sym (Some-inj (event, refusal) r at)) ending))
ended-rest event refusal rest asked none later (suc k) r at ending = later k r at ending

-- each request that was accepted stands before one that was refused since the service had ended
ended-at : (low : ℕ) (core : CoreView) (begun : List Asking) (asked : List Asked) (ops : List world.Op) (refused : List (ℕ × Refusal))
    → AreServed core begun asked ops refused → RisesFrom low (events-of begun) → (k : ℕ) (r : ℕ × Refusal) → slice_get refused k ≡ Some r
    → IsEnding r.1 → AllBefore r.0 asked
ended-at low core [] asked ops refused x rises k r at ending = none-asked r.0 asked x.0
ended-at low core (g ∷ begun) asked ops refused x rises k r at ending = elim x [
  | inl p ↦
      let from = refused-from (g.event + 1) core begun p.1 p.2 refused p.8 rises.1 k r at in
      let same : p.0.event ≡ g.event = p.4 in
      subst (AllBefore r.0) (sym p.3)
      (one-before r.0 p.0 p.1 (omega (arith, from, same)) (ended-at (g.event + 1) core begun p.1 p.2 refused p.8 rises.1 k r at ending))
  | inr p ↦
      ended-rest g.event p.0 p.1 asked p.4 (λ j y. ended-at (g.event + 1) core begun asked ops p.1 p.5 rises.1 j y) k r
      (ap (λ (rs : List (ℕ × Refusal)). slice_get rs k) (sym p.2) ∙ at) ending
]

pub ended-before : (shape : Shape) (shard : ℕ) (events : List Event) (core : CoreView) (begun : List Asking) (asked : List Asked)
    (ops : List world.Op) (refused : List (ℕ × Refusal)) → begun ≡ requests_in shape shard events (numbers_of (tasks_of shape shard events))
    → AreServed core begun asked ops refused → (k : ℕ) (r : ℕ × Refusal) → slice_get refused k ≡ Some r → IsEnding r.1
    → All (λ (a : Asked). a.event < r.0) asked
ended-before shape shard events core begun asked ops refused is served =
    ended-at 0 core begun asked ops refused served (rises-begun shape shard events begun is)
