-- Requests that were handed in when all before them were answered.
use Rattle.std.proofs.Common.{◌≡◌, ◌≢◌, ◌⊎◌, ℕ, ◌+◌, ◌<◌, ◌≤◌, zero, suc, List, [], ◌∷◌, ◌++◌, map, length, Bool, true, false, ◌||◌, eqb, inl, inr, refl, sym, ap, subst, ◌∙◌, arith, Some, slice_get, option_map}
use Rattle.std.specs.List.{AllByRecursion, IsDistinct, list_any}
use Rattle.std.proofs.lemmas.Bool.{cases_Bool}
use Rattle.std.proofs.lemmas.Bool.Decides.{nat_tests}
use Rattle.std.proofs.lemmas.List.{length-map}
use Rattle.std.proofs.lemmas.Map.Keys.{IsDistinct-cons}
use Rattle.std.proofs.lemmas.Map.Steps.{length-le_from_distinct_below}
use Rattle.std.proofs.lemmas.Option.{slice_get-map}
use Rattle.r6_world.specs.PlainArray.{Op, Reply}
use Rattle.r6_world.proofs.Tables.{Some-inj}
use Rattle.r6_course.specs.Courses.{Mark, Asked, Replied}
use Rattle.r6_course.specs.Ledgers.{IsIn, IsBefore, IsWellFormed}
use Rattle.r6_course.proofs.Lists.{in-front, in-either, before-more, before-across}
use Rattle.r6_shard.specs.declared.ledger.Asked.{Asked as Accepted}
use Rattle.r6_shard.specs.Histories.{asked_in, replied_in, answered_before, numbered}
use Rattle.r6_shard.specs.declared.performs.Performs.{Ghosts}
use Rattle.r6_shard.specs.Behind.{BehindLaw}

-- ---- numbers, all of them below one another

differs : (x y : ℕ) → x ≢ y → eqb x y ≡ false
differs x y ne = grind (arith, nat_tests, ne)

apart-if : (x : ℕ) (xs : List ℕ) → list_any (eqb x) xs ≡ false → AllByRecursion (λ y. eqb x y ≡ false) xs
apart-if x [] none = tt
apart-if x (y ∷ xs) none = by-case (eqb x y) (list_any (eqb x) xs) refl refl none (apart-if x xs)
  where
    by-case : (b any : Bool) → eqb x y ≡ b → list_any (eqb x) xs ≡ any → (b || any) ≡ false
        → (list_any (eqb x) xs ≡ false → AllByRecursion (λ y. eqb x y ≡ false) xs) → AllByRecursion (λ y. eqb x y ≡ false) (y ∷ xs)
    by-case true any is rest fails more = cc
    by-case false any is rest fails more = (is, more (rest ∙ fails))

-- different numbers below another, as many as that, are all of them
one-more : (n x q : ℕ) (xs : List ℕ) (b : Bool) → eqb q x ≡ b → x < n → (list_any (eqb q) xs ≡ true → q < n)
    → (b || list_any (eqb q) xs) ≡ true → q < n
one-more n x q xs true is small below in-all = let same : q ≡ x = grind (arith, nat_tests, is) in omega (arith, same, small)
one-more n x q xs false is small below in-all = below in-all

each-below : (n : ℕ) (xs : List ℕ) → IsDistinct eqb xs → ((q : ℕ) → list_any (eqb q) xs ≡ true → q < n) → length xs ≡ n
    → (x : ℕ) → x < n → list_any (eqb x) xs ≡ true
each-below n xs distinct below long x small = elim (cases_Bool (list_any (eqb x) xs)) [
  | inl there ↦ there
  | inr none ↦
      let all : (q : ℕ) → list_any (eqb q) (x ∷ xs) ≡ true → q < n = λ q in-all.
      one-more n x q xs (eqb q x) refl small (below q) in-all in
      let most = length-le_from_distinct_below (x ∷ xs) n (IsDistinct-cons eqb x xs (apart-if x xs none) distinct) all in
      absurd (omega (arith, most, long))
]

-- ---- the replies of a history

abbrev ids : List Mark → List ℕ
ids history = map (λ r. r.0) (replied_in history)

reply-in : (history : List Mark) (id : ℕ) → list_any (eqb id) (ids history) ≡ true → (reply : Reply) × IsIn (Replied id reply) history
reply-in [] id there = cc
reply-in (Asked i o ∷ history) id there = let p = reply-in history id there in (p.0, inr p.1)
reply-in (Replied i r ∷ history) id there = by-case (eqb id i) refl there (reply-in history id)
  where
    by-case : (b : Bool) → eqb id i ≡ b → (b || list_any (eqb id) (ids history)) ≡ true
        → (list_any (eqb id) (ids history) ≡ true → (reply : Reply) × IsIn (Replied id reply) history)
        → (reply : Reply) × IsIn (Replied id reply) (Replied i r ∷ history)
    by-case true is at later = let same : id ≡ i = grind (arith, nat_tests, is) in (r, inl (ap (λ (k : ℕ). Replied k r) same))
    by-case false is at later = let p = later at in (p.0, inr p.1)

abbrev AreOnce : List Mark → Type 0
AreOnce history = (id : ℕ) (reply other : Reply) → IsBefore (Replied id reply) (Replied id other) history → ⊥

apart-from : (i : ℕ) (history : List Mark) → ((other : Reply) → IsIn (Replied i other) history → ⊥)
    → AllByRecursion (λ y. eqb i y ≡ false) (ids history)
apart-from i [] none = tt
apart-from i (Asked j o ∷ history) none = apart-from i history (λ other at. none other (inr at))
apart-from i (Replied j r ∷ history) none = (
  differs i j (λ same. none r (inl (ap (λ (k : ℕ). Replied k r) same))),
  apart-from i history (λ other at. none other (inr at)),
)

none-twice : IsDistinct eqb []
unfolding IsDistinct
none-twice = tt

distinct : (history : List Mark) → AreOnce history → IsDistinct eqb (ids history)
distinct [] once = none-twice
distinct (Asked i o ∷ history) once = distinct history (λ id reply other b. once id reply other (inr b))
distinct (Replied i r ∷ history) once =
    IsDistinct-cons eqb i (ids history) (apart-from i history (λ other at. once i r other (inl (refl, at))))
    (distinct history (λ id reply other b. once id reply other (inr b)))

-- ---- before and behind a request

record Split (history : List Mark) (first number replies n : ℕ) : Type 0 where
  before : List Mark
  op : Op
  behind : List Mark
  is : history ≡ before ++ Asked (first + number) op ∷ behind
  many : replies + length (replied_in before) ≡ n
  below : (id : ℕ) (o : Op) → IsIn (Asked id o) before → id < first + number

abbrev first-id : List (ℕ × Op) → ℕ
first-id [] = 0
first-id (x ∷ xs) = x.0

head-same : (i first : ℕ) (o op : Op) (xs ys : List (ℕ × Op)) → (i, o) ∷ xs ≡ (first, op) ∷ ys → i ≡ first
head-same i first o op xs ys e = ap first-id e

tail-same : (x y : ℕ × Op) (xs ys : List (ℕ × Op)) → x ∷ xs ≡ y ∷ ys → xs ≡ ys
tail-same x y xs ys e = cc

asked-id : (i j : ℕ) (o p : Op) → Asked i o ≡ Asked j p → i ≡ j
asked-id i j o p e = cc

not-both : (id i : ℕ) (o : Op) (r : Reply) → Asked id o ≡ Replied i r → ⊥
not-both id i o r e = cc

split : (history : List Mark) (first : ℕ) (ops : List Op) (replies number n : ℕ) → asked_in history ≡ numbered first ops
    → slice_get (answered_before replies history) number ≡ Some n → Split history first number replies n
split [] first ops replies number n asked at = cc
split (Replied i r ∷ history) first ops replies number n asked at =
    let p = split history first ops (replies + 1) number n asked at in
    record {
      before = Replied i r ∷ p.before;
      op = p.op;
      behind = p.behind;
      is = ap (λ xs. Replied i r ∷ xs) p.is;
      many = let sum = p.many in omega (arith, sum);
      below = λ id o there. elim there [ inl e ↦ absurd (not-both id i o r e) | inr later ↦ p.below id o later ];
    }
split (Asked i o ∷ history) first [] replies number n asked at = cc
split (Asked i o ∷ history) first (op ∷ ops) replies zero n asked at =
    let same = head-same i first o op (asked_in history) (numbered (first + 1) ops) asked in
    record {
      before = [];
      op = o;
      behind = history;
      is = ap (λ (k : ℕ). Asked k o ∷ history) (omega (arith, same));
      many = let same' = Some-inj replies n at in omega (arith, same');
      below = λ id o there. absurd there;
    }
split (Asked i o ∷ history) first (op ∷ ops) replies (suc number) n asked at =
    let same = head-same i first o op (asked_in history) (numbered (first + 1) ops) asked in
    let p = split history (first + 1) ops replies number n (tail-same _ _ (asked_in history) (numbered (first + 1) ops) asked) at in
    let sum : first + 1 + number ≡ first + suc number = omega arith in
    record {
      before = Asked i o ∷ p.before;
      op = p.op;
      behind = p.behind;
      is = ap (λ xs. Asked i o ∷ xs) (p.is ∙ ap (λ (k : ℕ). p.before ++ Asked k p.op ∷ p.behind) sum);
      many = p.many;
      below = λ id o' there. elim there [
        | inl e ↦ let here = asked-id id i o' o e in omega (arith, here, same)
        | inr later ↦ let less = p.below id o' later in omega (arith, less)
      ];
    }

-- the first of two stands in the front, or both behind
before-in : {A : Type 0} (x y : A) (xs ys : List A) → IsBefore x y (xs ++ ys) → IsIn x xs ⊎ IsBefore x y ys
before-in x y [] ys b = inr b
before-in x y (z ∷ xs) ys b = elim b [
  | inl here ↦ inl (inl here.0)
  | inr later ↦ elim (before-in x y xs ys later) [ inl front ↦ inl (inr front) | inr both ↦ inr both ]
]

before-second : {A : Type 0} (x y : A) (xs : List A) → IsBefore x y xs → IsIn y xs
before-second x y [] b = absurd b
before-second x y (z ∷ xs) b = elim b [ inl here ↦ inr here.1 | inr later ↦ inr (before-second x y xs later) ]

-- where as many replies were taken as requests were handed in, each of these was answered before what comes behind
answered-before : (history before rest : List Mark) (number : ℕ) → history ≡ before ++ rest → IsWellFormed history
    → length (replied_in before) ≡ number → ((id : ℕ) (o : Op) → IsIn (Asked id o) before → id < number)
    → (earlier later : ℕ) → earlier < number → number ≤ later
    → (reply : Reply) × IsIn (Replied earlier reply) before
    × ((op : Op) → IsIn (Asked later op) history → IsBefore (Replied earlier reply) (Asked later op) history)
answered-before history before rest number is well many below earlier later small large =
    let here = subst IsWellFormed is well in
    let once : AreOnce before = λ id reply other b.
    here.replied_once id reply other (before-more (Replied id reply) (Replied id other) before rest b) in
    let of-asked : (q : ℕ) → list_any (eqb q) (ids before) ≡ true → q < number = λ q there.
    let at = reply-in before q there in
    let asked = here.behind q at.0 (in-front (Replied q at.0) before rest at.1) in
    elim (before-in (Asked q asked.0) (Replied q at.0) before rest asked.1) [
      | inl front ↦ below q asked.0 front
      | inr both ↦ absurd (here.replied_once q at.0 at.0
          (before-across (Replied q at.0) (Replied q at.0) before rest at.1 (before-second (Asked q asked.0) (Replied q at.0) rest both)))
    ] in
    let there = each-below number (ids before) (distinct before once) of-asked (length-map (replied_in before) (λ r. r.0) ∙ many) earlier small in
    let reply = reply-in before earlier there in (
      reply.0,
      reply.1,
      λ op at. subst (IsBefore (Replied earlier reply.0) (Asked later op)) (sym is)
          (elim (in-either (Asked later op) before rest (subst (IsIn (Asked later op)) is at)) [
            | inl front ↦ absurd (let less = below later op front in omega (arith, less, large))
            | inr behind ↦ before-across (Replied earlier reply.0) (Asked later op) before rest reply.1 behind
          ]),
    )

pub behind_law : {P : Type 0} (g : Ghosts P) → BehindLaw g
behind_law g s ops shard ledger number (a, at, all) earlier later small large =
    let history = ledger.history in
    let told = ledger.told in
    let n : slice_get (answered_before 0 history) number ≡ Some number =
    ap (λ xs. slice_get xs number) told.answered ∙ slice_get-map (λ (b : Accepted). b.answered) shard.asked.items number
    ∙ ap (option_map (λ (b : Accepted). b.answered)) at ∙ ap Some all in
    let p = split history 0 ops 0 number number told.asked n in
    let leads = ledger.explained.leads in
    let found = answered-before history p.before (Asked (0 + number) p.op ∷ p.behind) number p.is ledger.explained.well_formed
    (let sum = p.many in omega (arith, sum)) (λ id o there. let less = p.below id o there in omega (arith, less)) earlier later small large in (
      found.0,
      subst (IsIn (Replied earlier found.0)) (sym p.is) (in-front (Replied earlier found.0) p.before (Asked (0 + number) p.op ∷ p.behind) found.1),
      λ acted e there is.
          let asked = subst (λ (k : ℕ). IsIn (Asked k e.op) history) is (leads.asked e there) in
          leads.in_time earlier later found.0 e.op (found.2 e.op asked) acted e there is,
    )
