-- What stands in the queue of a shard, as it is put in and taken.
use Rattle.std.proofs.Common.{◌≡◌, ℕ, List, [], ◌∷◌, ◌++◌, length, true, false, refl, sym, ap, ◌∙◌, subst, arith}
use Rattle.r6_queues.specs.Queues.{IsRule}
use Rattle.r6_layout.specs.Shape.{Shape}
use Rattle.r6_engine.specs.lists.Events.{Event, numbers_of, tasks_of}
use Rattle.r6_engine.specs.declared.lists.item.Item.{Item}
use Rattle.r6_engine.specs.declared.lists.entry.QueueEntry.{QueueEntry}
use Rattle.r6_engine.specs.declared.lists.entry.QueueEntry.TheVariants.{Given, End}
use Rattle.r6_engine.specs.lists.Entries.{numbers_in, has_end, AreItems, AreDue}

abbrev Empty : {A : Type 0} → List A → Type 0
Empty [] = Unit {0}
Empty (x ∷ xs) = ⊥

none-left : {A : Type 0} (front rest : List A) → front ++ rest ≡ [] → front ≡ []
none-left [] rest e = refl
none-left (x ∷ front) rest e = absurd (subst Empty (sym e) tt)

not-none : {A : Type 0} (front : List A) (x : A) → front ++ x ∷ [] ≡ [] → ⊥
not-none [] x e = absurd (subst Empty (sym e) tt)
not-none (y ∷ front) x e = absurd (subst Empty (sym e) tt)

abbrev head-or : {A : Type 0} → A → List A → A
head-or x [] = x
head-or x (y ∷ ys) = y

abbrev tail-of : {A : Type 0} → List A → List A
tail-of [] = []
tail-of (y ∷ ys) = ys

module _ {L D : Type 0} {l : _} {d : _} where
  pub numbers-append : (front back : List (QueueEntry L D l d)) → numbers_in (front ++ back) ≡ numbers_in front ++ numbers_in back
  numbers-append [] back = refl
  numbers-append (Given item ∷ front) back = ap (λ ns. item.number ∷ ns) (numbers-append front back)
  numbers-append (End ∷ front) back = numbers-append front back

  -- the first of them
  pub items-first : (shard : ℕ) (front rest : List (QueueEntry L D l d)) (numbers : List ℕ) → AreItems shard (front ++ rest) numbers
      → AreItems shard front numbers
  items-first shard [] rest numbers is = tt
  items-first shard (End ∷ front) rest [] is = none-left front rest is
  items-first shard (End ∷ front) rest (n ∷ numbers) is = absurd is
  items-first shard (Given item ∷ front) rest [] is = absurd is
  items-first shard (Given item ∷ front) rest (n ∷ numbers) is = (is.0, is.1, items-first shard front rest numbers is.2)

  -- their numbers begin these
  pub items-begin : (shard : ℕ) (entries : List (QueueEntry L D l d)) (numbers : List ℕ) → AreItems shard entries numbers
      → (rest : List ℕ) × (numbers ≡ numbers_in entries ++ rest)
  items-begin shard [] numbers is = (numbers, refl)
  items-begin shard (End ∷ entries) [] is = ([], sym (ap (λ es. numbers_in es ++ []) is))
  items-begin shard (End ∷ entries) (n ∷ numbers) is = absurd is
  items-begin shard (Given item ∷ entries) [] is = absurd is
  items-begin shard (Given item ∷ entries) (n ∷ numbers) is =
      let more = items-begin shard entries numbers is.2 in (more.0, λ i. sym is.0 i ∷ more.1 i)

  -- the last one is of the shard
  pub last-of : (shard : ℕ) (front : List (QueueEntry L D l d)) (item : Item L D l d) (numbers : List ℕ)
      → AreItems shard (front ++ Given item ∷ []) numbers → item.shard ≡ shard
  last-of shard [] item [] is = absurd is
  last-of shard [] item (n ∷ numbers) is = is.1
  last-of shard (End ∷ front) item [] is = absurd (not-none front (Given item) is)
  last-of shard (End ∷ front) item (n ∷ numbers) is = absurd is
  last-of shard (Given other ∷ front) item [] is = absurd is
  last-of shard (Given other ∷ front) item (n ∷ numbers) is = last-of shard front item numbers is.2

  -- before the end stand all
  pub before-end : (shard : ℕ) (front : List (QueueEntry L D l d)) (numbers : List ℕ) → AreItems shard (front ++ End ∷ []) numbers
      → numbers_in front ≡ numbers
  before-end shard [] [] is = refl
  before-end shard [] (n ∷ numbers) is = absurd is
  before-end shard (End ∷ front) [] is = ap numbers_in (none-left front (End ∷ []) is)
  before-end shard (End ∷ front) (n ∷ numbers) is = absurd is
  before-end shard (Given item ∷ front) [] is = absurd is
  before-end shard (Given item ∷ front) (n ∷ numbers) is =
      let same = before-end shard front numbers is.2 in λ i. is.0 i ∷ same i

  -- one more item
  pub items-more : (shard : ℕ) (entries : List (QueueEntry L D l d)) (item : Item L D l d) (numbers rest : List ℕ)
      → AreItems shard entries numbers → item.shard ≡ shard → numbers ≡ numbers_in entries ++ item.number ∷ rest
      → AreItems shard (entries ++ Given item ∷ []) numbers
  items-more shard [] item [] rest is own next = absurd (subst Empty next tt)
  items-more shard [] item (n ∷ numbers) rest is own next = (sym (ap (head-or 0) next), own, tt)
  items-more shard (End ∷ entries) item [] rest is own next =
      absurd (subst Empty (next ∙ ap (λ es. numbers_in es ++ item.number ∷ rest) is) tt)
  items-more shard (End ∷ entries) item (n ∷ numbers) rest is own next = absurd is
  items-more shard (Given other ∷ entries) item [] rest is own next = absurd is
  items-more shard (Given other ∷ entries) item (n ∷ numbers) rest is own next =
      (is.0, is.1, items-more shard entries item numbers rest is.2 own (ap tail-of next))

  -- the end after them
  pub items-ended : (shard : ℕ) (entries : List (QueueEntry L D l d)) (numbers : List ℕ)
      → AreItems shard entries numbers → has_end entries ≡ false → numbers_in entries ≡ numbers
      → AreItems shard (entries ++ End ∷ []) numbers
  items-ended shard [] [] is not all = refl
  items-ended shard [] (n ∷ numbers) is not all = absurd (subst Empty all tt)
  items-ended shard (End ∷ entries) numbers is not all = cc
  items-ended shard (Given item ∷ entries) [] is not all = absurd is
  items-ended shard (Given item ∷ entries) (n ∷ numbers) is not all = (is.0, is.1, items-ended shard entries numbers is.2 not (ap tail-of all))

  -- where an item is to come there is no end
  pub not-ended : (shard : ℕ) (entries : List (QueueEntry L D l d)) (numbers rest : List ℕ) (number : ℕ)
      → AreItems shard entries numbers → numbers ≡ numbers_in entries ++ number ∷ rest → has_end entries ≡ false
  not-ended shard [] numbers rest number is next = refl
  not-ended shard (End ∷ entries) [] rest number is next =
      absurd (subst Empty (next ∙ ap (λ es. numbers_in es ++ number ∷ rest) is) tt)
  not-ended shard (End ∷ entries) (n ∷ numbers) rest number is next = absurd is
  not-ended shard (Given item ∷ entries) [] rest number is next = absurd is
  not-ended shard (Given item ∷ entries) (n ∷ numbers) rest number is next =
      not-ended shard entries numbers rest number is.2 (ap tail-of next)

  pub still-open : (entries : List (QueueEntry L D l d)) (item : Item L D l d) → has_end entries ≡ false
      → has_end (entries ++ Given item ∷ []) ≡ false
  still-open [] item not = refl
  still-open (Given other ∷ entries) item not = still-open entries item not
  still-open (End ∷ entries) item not = cc

  pub now-ended : (entries : List (QueueEntry L D l d)) → has_end (entries ++ End ∷ []) ≡ true
  now-ended [] = refl
  now-ended (Given item ∷ entries) = now-ended entries
  now-ended (End ∷ entries) = refl

  pub all-items : (entries : List (QueueEntry L D l d)) → has_end entries ≡ false → length entries ≡ length (numbers_in entries)
  all-items [] not = refl
  all-items (Given item ∷ entries) not = let same = all-items entries not in omega (arith, same)
  all-items (End ∷ entries) not = cc

-- ---- the rule of a queue

pub due-rule : {L D : Type 0} {l : _} {d : _} (shape : Shape) (events : List Event) → IsRule (AreDue {L = L} {D = D} {l = l} {d = d} shape events)
due-rule shape events = record {
  empty = λ shard. tt;
  prefix = λ shard front rest is. items-first shard front rest (numbers_of (tasks_of shape shard events)) is;
}
