-- Completions with their acknowledgements, and room for parts.
use Rattle.std.proofs.Common.{◌≡◌, ℕ, ◌⊎◌, arith, List, [], ◌∷◌, ◌++◌, inl, inr, refl, sym, ap, subst, ◌∙◌, append_assoc, Option, Some, None}
use Rattle.r6_dev.specs.History.{Telling}
use Rattle.r6_dev.specs.Promises.{Promise}
use Rattle.r6_queues.specs.Queues.{IsRule}
use Rattle.r6_exchange.specs.declared.task.WorkerTask.{WorkerTask}
use Rattle.r6_world.specs.declared.values.Command.{Command}
use Rattle.r6_exchange.specs.declared.task.WorkerTask.TheVariants.{Perform, End}
use Rattle.r6_exchange.specs.declared.completion.Delivery.{Delivery}
use Rattle.r6_exchange.specs.Deliveries.{TaskEnd, HasRoom, IsDelivery, AreDeliveries, completions_of}
use Rattle.r6_exchange.proofs.Answering.{not-nil, parts-more}

abbrev pub head-or : {A : Type 0} → A → List A → A
head-or x [] = x
head-or x (y ∷ ys) = y

abbrev pub tail-of : {A : Type 0} → List A → List A
tail-of [] = []
tail-of (y ∷ ys) = ys

pub nothing-after : {A : Type 0} (fs : List A) (y : A) (back : List A) → fs ++ y ∷ back ≡ [] → ⊥
nothing-after [] y back e = not-nil y back e
nothing-after (f ∷ fs) y back e = not-nil f (fs ++ y ∷ back) e

-- where one stands in a list to which one more was put
last-or-before : {A : Type 0} (xs : List A) (x : A) (front : List A) (y : A) (back : List A) → xs ++ x ∷ [] ≡ front ++ y ∷ back
    → ((xs ≡ front) × (x ≡ y)) ⊎ ((rest : List A) × (xs ≡ front ++ y ∷ rest))
last-or-before [] x [] y back e = inl (refl, ap (head-or x) e)
last-or-before [] x (f ∷ fs) y back e = absurd (nothing-after fs y back (sym (ap tail-of e)))
last-or-before (z ∷ zs) x [] y back e = inr (zs, ap (λ w. w ∷ zs) (ap (head-or z) e))
last-or-before (z ∷ zs) x (f ∷ fs) y back e = let head-is = ap (head-or z) e in elim (last-or-before zs x fs y back (ap tail-of e)) [
  | inl here ↦ inl ((λ i. head-is i ∷ here.0 i), here.1)
  | inr before ↦ inr (before.0, λ i. head-is i ∷ before.1 i)
]

-- ---- room for parts

pub room-none : (D : Type 0) (room : ℕ) → HasRoom {D = D} room []
room-none D room = omega arith

pub room-closed : {D : Type 0} (room : ℕ) (xs ys : List (WorkerTask D)) → HasRoom room (xs ++ ys) → HasRoom room xs
room-closed room xs ys x = omega (arith, parts-more xs ys, x)

pub task-rule : (D : Type 0) → IsRule (HasRoom {D = D})
task-rule D = record { empty = room-none D; prefix = room-closed }

-- ---- deliveries

module _ {D : Type 0} (told : D → Telling) (promised : D → Promise) where
  pub deliveries-none : (home : Option (TaskEnd D)) → AreDeliveries told promised home []
  deliveries-none None = tt
  deliveries-none (Some home) = λ front back x e. absurd (nothing-after front x back (sym e))

  pub deliveries-closed : (home : Option (TaskEnd D)) (xs ys : List (Delivery D)) → AreDeliveries told promised home (xs ++ ys) → AreDeliveries told promised home xs
  deliveries-closed None xs ys r = tt
  deliveries-closed (Some home) xs ys r = λ front back x e. r front (back ++ ys) x (ap (λ z. z ++ ys) e ∙ append_assoc front (x ∷ back) ys)

  pub delivery-rule : IsRule (AreDeliveries told promised)
  delivery-rule = record { empty = deliveries-none; prefix = deliveries-closed }

  -- one more
  pub deliveries-more : (home : TaskEnd D) (xs : List (Delivery D)) (x : Delivery D) → AreDeliveries told promised (Some home) xs
      → IsDelivery told promised home xs x → AreDeliveries told promised (Some home) (xs ++ x ∷ [])
  deliveries-more home xs x r is front back y e = elim (last-or-before xs x front y back e) [
    | inl here ↦ subst (λ (z : List (Delivery D) × Delivery D). IsDelivery told promised home z.0 z.1) (λ i. (here.0 i, here.1 i)) is
    | inr before ↦ r front before.0 y before.1
  ]

  -- the one that came last
  pub last-delivery : (home : TaskEnd D) (xs : List (Delivery D)) (x : Delivery D) → AreDeliveries told promised (Some home) (xs ++ x ∷ [])
      → IsDelivery told promised home xs x
  last-delivery home xs x r = r xs [] x refl

pub answers-more : {D : Type 0} (xs : List (Delivery D)) (x : Delivery D) → completions_of (xs ++ x ∷ []) ≡ completions_of xs ++ x.completion ∷ []
answers-more [] x = refl
answers-more (y ∷ ys) x = ap (λ z. y.completion ∷ z) (answers-more ys x)

pub answers-append : {D : Type 0} (xs ys : List (Delivery D)) → completions_of (xs ++ ys) ≡ completions_of xs ++ completions_of ys
answers-append [] ys = refl
answers-append (x ∷ xs) ys = ap (λ z. x.completion ∷ z) (answers-append xs ys)

pub room-front : {D : Type 0} (room : ℕ) (sent : List (WorkerTask D)) (t : WorkerTask D) (rest : List (WorkerTask D)) → HasRoom room (sent ++ t ∷ rest)
    → HasRoom room (sent ++ t ∷ [])
room-front room sent t rest x = omega (arith, parts-more sent (t ∷ rest), parts-more sent (t ∷ []), parts-more (t ∷ []) rest, x)

pub room-end : {D : Type 0} (room : ℕ) (sent : List (WorkerTask D)) → HasRoom room sent → HasRoom room (sent ++ End ∷ [])
room-end room sent x = omega (arith, parts-more sent (End ∷ []), x)

pub room-perform : {D : Type 0} (room : ℕ) (sent : List (WorkerTask D)) (c : Command) → HasRoom room sent → HasRoom room (sent ++ Perform c ∷ [])
room-perform room sent c x = omega (arith, parts-more sent (Perform c ∷ []), x)
