-- Each request is answered once.
use Rattle.std.proofs.Common.{◌≡◌, ◌≢◌, ℕ, zero, suc, ◌+◌, ◌<◌, ◌⊎◌, List, [], ◌∷◌, ◌++◌, length, map, get_or, All, false, inl, inr, refl, sym, ap, subst, ◌∙◌, arith, None}
use Rattle.std.specs.Prelude.{nat_eq}
use Rattle.std.specs.List.{AllByRecursion, IsDistinct, range_with_len}
use Rattle.std.specs.List.Sorted.{IsPermutation}
use Rattle.std.proofs.lemmas.Bool.{cases_eq, eqb-true, eqb-false, ne_eqb, eq-eqb}
use Rattle.std.proofs.lemmas.List.{length-map, map-append, get_or-map, ext_get_or}
use Rattle.std.proofs.lemmas.List.Elements.{All-nil, All-cons, All-tail, All-head, All-push, All-contains, All-from_recursion}
use Rattle.std.proofs.lemmas.List.FromFn.{map-range_with_len_more, length-map-range_with_len, get_or-map-range_with_len}
use Rattle.std.proofs.lemmas.List.Sorted.{IsPermutation-refl, IsPermutation-sym, IsPermutation-trans, IsPermutation-cons, IsPermutation-middle, IsPermutation-to_front, IsPermutation-map, All-permutation, length_permutation}
use Rattle.std.proofs.lemmas.Map.Keys.{IsDistinct-IsPermutation}
use Rattle.std.proofs.lemmas.Map.Views.{Contains-from_any}
use Rattle.std.proofs.lemmas.Map.Steps.{length-le_from_distinct_below}
use Rattle.r6_world.specs.PlainArray.{Op}
use Rattle.r6_world.specs.ShardStates.{Shard}
use Rattle.r6_world.specs.Steps.{Event, Submit, Submit_all, Take_reply}
use Rattle.r6_world.proofs.Changes.{IsSubmission}
use Rattle.r6_world.proofs.Tables.{put-same, not_both}
use Rattle.r6_core.specs.declared.turn.Task.{Task}
use Rattle.r6_core.specs.declared.turn.Turn.{Turn}
use Rattle.r6_core.specs.Effects.{IsMade, TakesTurn}
use Rattle.r6_world.specs.Values.{reply_of}
use Rattle.r6_core.specs.Shards.{CoreView, Step, core_layout, world_shard}
use Rattle.r6_shard.specs.declared.ledger.Asked.{Asked as Accepted}
use Rattle.r6_shard.specs.declared.ledger.Entry.{Entry}
use Rattle.r6_shard.specs.Kept.{AreNumbered}
use Rattle.r6_shard.specs.Courses.{IsOf, AreOf}
use Rattle.r6_shard.specs.Answering.{numbers_of, IsGone, AreOnce, AnswersEach}
use Rattle.r6_shard.proofs.Steps.{still-gone, still-gone-submitting, still-gone-together}
use Rattle.r6_shard.proofs.Keeping.{plain-submits, turned}

-- ---- numbers that differ

all-push : (P : ℕ → Type 0) (xs : List ℕ) (x : ℕ) → AllByRecursion P xs → P x → AllByRecursion P (xs ++ x ∷ [])
all-push P [] x a p = (p, tt)
all-push P (y ∷ ys) x a p = (a.0, all-push P ys x a.1 p)

distinct-push : (xs : List ℕ) (x : ℕ) → IsDistinct nat_eq xs → All (λ y. y ≢ x) xs → IsDistinct nat_eq (xs ++ x ∷ [])
unfolding IsDistinct
distinct-push [] x d a = (tt, tt)
distinct-push (y ∷ ys) x d a = (
  all-push (λ z. nat_eq y z ≡ false) ys x d.0 (ne_eqb y x (All-head (λ z. z ≢ x) y ys a)),
  distinct-push ys x d.1 (All-tail (λ z. z ≢ x) y ys a),
)

-- ---- the ghost field

pub once-at-first : (shape : _) (snapshot : _) (number : ℕ) (core : CoreView) (entries : List Entry) → IsMade shape snapshot number core
    → entries ≡ [] → AreOnce (world_shard core) entries
unfolding IsDistinct
once-at-first shape snapshot number core entries made none = record {
  distinct = subst (λ (es : List Entry). IsDistinct nat_eq (numbers_of es)) (sym none) tt;
  gone = subst (All (λ (e : Entry). IsGone (world_shard core) e.id.0)) (sym none) (All-nil _);
}

-- any call that hands no request in
pub once-on : (old : CoreView) (event : Event) (new : CoreView) (entries : List Entry)
    → (IsSubmission event → ⊥) → Step old event new
    → AreOnce (world_shard old) entries → AreOnce (world_shard new) entries
once-on old event new entries none step x = record {
  distinct = x.distinct;
  gone = λ k d below. still-gone (core_layout old) old.shard event none (world_shard old) (world_shard new) step.1 (get_or entries k d).id.0 (x.gone k d below);
}

pub once-same : (old new : CoreView) (entries : List Entry) → new ≡ old → AreOnce (world_shard old) entries → AreOnce (world_shard new) entries
once-same old new entries same x = subst (λ (y : CoreView). AreOnce (world_shard y) entries) (sym same) x

-- a request more: it has a number that no entry has
pub once-submitted : (old : CoreView) (op : Op) (id : ℕ) (new : CoreView) (accepted : List Accepted) (entries : List Entry)
    → Step old (Submit op id) new → AreNumbered (world_shard old) (length accepted) → AreOf accepted entries
    → AreOnce (world_shard old) entries → AreOnce (world_shard new) entries
once-submitted old op id new accepted entries step numbered linked x = record {
  distinct = x.distinct;
  gone = λ k d below.
      let low = (linked k d below).0 in
      still-gone-submitting (core_layout old) old.shard (world_shard old) (world_shard new) op id (get_or entries k d).id.0
      (let is = numbered.0 in omega arith) step.1 (x.gone k d below);
}

-- requests more, that were handed in together
pub once-together : (old : CoreView) (ops : List Op) (first : ℕ) (new : CoreView) (accepted : List Accepted) (entries : List Entry)
    → Step old (Submit_all ops first) new → AreNumbered (world_shard old) (length accepted) → AreOf accepted entries
    → AreOnce (world_shard old) entries → AreOnce (world_shard new) entries
once-together old ops first new accepted entries step numbered linked x = record {
  distinct = x.distinct;
  gone = λ k d below.
      let low = (linked k d below).0 in
      still-gone-together (core_layout old) old.shard (world_shard old) (world_shard new) ops first (get_or entries k d).id.0
      (let is = numbered.0 in omega arith) step.1 (x.gone k d below);
}

-- a reply is taken: its request is there no more
pub once-replied : (old new : CoreView) (entries : List Entry) (e : Entry) → Step old (Take_reply e.id.0 (reply_of e.reply)) new
    → AreOnce (world_shard old) entries → AreOnce (world_shard new) (entries ++ e ∷ [])
once-replied old new entries e step x =
    let event = Take_reply e.id.0 (reply_of e.reply) in
    let on = once-on old event new entries (λ is. is) step x in
    record {
      distinct = subst (IsDistinct nat_eq) (sym (map-append (λ (y : Entry). y.id.0) entries (e ∷ [])))
          (distinct-push (numbers_of entries) e.id.0 x.distinct
          (λ k d below same.
          let low : k < length entries = let n = length-map entries (λ (y : Entry). y.id.0) in omega arith in
          x.gone k e low _ (ap (world_shard old).request (sym (get_or-map (λ (y : Entry). y.id.0) entries k e d low) ∙ same) ∙ step.1.1)));
      gone = All-push (λ (y : Entry). IsGone (world_shard new) y.id.0) entries e on.gone
          (λ request there.
          not_both ((world_shard new).request e.id.0) request
          (ap (λ (s : Shard). s.request e.id.0) step.1.2 ∙ put-same (world_shard old).request e.id.0 None e.id.0 refl) there);
    }

pub once-turned : (old : CoreView) (task : Task) (turn : Turn) (new : CoreView) (entries : List Entry) → TakesTurn old task turn new
    → AreOnce (world_shard old) entries → AreOnce (world_shard new) entries
once-turned old task turn new entries t x =
    let p = turned old task turn new t in
    once-on old p.0 new entries (plain-submits p.0 p.1) p.5 x

-- ---- with none left open

-- where this number stands, or it isn't there
find : (n : ℕ) (xs : List ℕ) → ((before : List ℕ) × (after : List ℕ) × (xs ≡ before ++ n ∷ after)) ⊎ All (λ x. x ≢ n) xs
find n [] = inr (All-nil (λ x. x ≢ n))
find n (x ∷ xs) = elim (cases_eq x n) [
  | inl same ↦ inl ([], xs, ap (λ y. y ∷ xs) same)
  | inr ne ↦ elim (find n xs) [
    | inl p ↦ inl (x ∷ p.0, p.1, ap (λ ys. x ∷ ys) p.2)
    | inr none ↦ inr (All-cons (λ y. y ≢ n) x xs ne none)
  ]
]

eq-flips : (x y : ℕ) → nat_eq x y ≡ nat_eq y x
eq-flips x y = elim (cases_eq x y) [
  | inl same ↦ eq-eqb x y same ∙ sym (eq-eqb y x (sym same))
  | inr ne ↦ ne_eqb x y ne ∙ sym (ne_eqb y x (λ same. ne (sym same)))
]

-- as many different numbers below n are all of them
all-of : (n : ℕ) (xs : List ℕ) → IsDistinct nat_eq xs → All (λ x. x < n) xs → length xs ≡ n → IsPermutation (range_with_len 0 n) xs
unfolding IsDistinct
all-of zero [] d a long = IsPermutation-refl []
all-of zero (x ∷ xs) d a long = absurd (omega arith)
all-of (suc n) xs d a long = elim (find n xs) [
  | inr none ↦
      let below : All (λ x. x < n) xs = (λ k e low. let up = a k e low in let ne = none k e low in omega arith) in
      let few = length-le_from_distinct_below xs n d (λ q any. All-contains (λ x. x < n) xs q below (Contains-from_any eqb-true q xs any)) in
      absurd (omega arith)
  | inl p ↦
      let before : List ℕ = p.0 in
      let after : List ℕ = p.1 in
      let ys = before ++ after in
      let moved : IsPermutation xs (n ∷ ys) = subst (λ zs. IsPermutation zs (n ∷ ys)) (sym p.2) (IsPermutation-middle before n after) in
      let apart = IsDistinct-IsPermutation nat_eq eq-flips xs (n ∷ ys) moved d in
      let others = All-from_recursion (λ y. nat_eq n y ≡ false) ys apart.0 in
      let up = All-tail (λ x. x < suc n) n ys (All-permutation (λ x. x < suc n) xs (n ∷ ys) moved a) in
      let low : All (λ x. x < n) ys = (λ k e there. let u = up k e there in let ne = eqb-false n (get_or ys k e) (others k e there) in less u (λ same. ne (sym same))) in
      let rest : length ys ≡ n = let e = length_permutation xs (n ∷ ys) moved in omega arith in
      let ih = all-of n ys apart.1 low rest in
      IsPermutation-trans _ _ _ (subst (λ zs. IsPermutation zs (n ∷ range_with_len 0 n)) (sym (range-more n)) (IsPermutation-to_front (range_with_len 0 n) n))
      (IsPermutation-trans _ _ _ (IsPermutation-cons n _ _ ih) (IsPermutation-sym _ _ moved))
]
  where
    less : {x : ℕ} → x < suc n → (x ≡ n → ⊥) → x < n
    less u ne = omega (arith, u, ne)

    map-itself : (ys : List ℕ) → map (λ y. y) ys ≡ ys
    map-itself [] = refl
    map-itself (y ∷ ys) = ap (λ zs. y ∷ zs) (map-itself ys)

    range-more : (n : ℕ) → range_with_len 0 (suc n) ≡ range_with_len 0 n ++ n ∷ []
    range-more n =
        ap (range_with_len 0) (let e : suc n ≡ n + 1 = omega arith in e) ∙ sym (map-itself (range_with_len 0 (n + 1))) ∙ map-range_with_len_more (λ y. y) 0 n n (omega arith)
        ∙ ap (λ zs. zs ++ n ∷ []) (map-itself (range_with_len 0 n))

-- what the request of a number is
abbrev request-of : List Accepted → ℕ → ℕ × ℕ
request-of accepted k = (get_or (map (λ (a : Accepted). a.event) accepted) k 0, get_or (map (λ (a : Accepted). a.block) accepted) k 0)

each-request : (accepted : List Accepted) → map (request-of accepted) (range_with_len 0 (length accepted)) ≡ map (λ (a : Accepted). (a.event, a.block)) accepted
each-request accepted =
    ext_get_or (0, 0) _ _
    (length-map-range_with_len (request-of accepted) 0 (length accepted) ∙ sym (length-map accepted (λ (a : Accepted). (a.event, a.block))))
    (λ i low.
    let n = length-map-range_with_len (request-of accepted) 0 (length accepted) in
    let below : i < length accepted = omega arith in
    get_or-map-range_with_len (request-of accepted) 0 (length accepted) i i (0, 0) below (omega arith) ∙ at accepted i below)
  where
    at : (accepted : List Accepted) (i : ℕ) → i < length accepted → request-of accepted i ≡ get_or (map (λ (a : Accepted). (a.event, a.block)) accepted) i (0, 0)
    at [] i below = absurd (omega arith)
    at (a ∷ accepted) zero below = refl
    at (a ∷ accepted) (suc i) below = at accepted i (omega (arith, below))

each-entry : (accepted : List Accepted) (entries : List Entry) → AreOf accepted entries
    → map (request-of accepted) (numbers_of entries) ≡ map (λ (e : Entry). (e.event, e.block)) entries
each-entry accepted [] x = refl
each-entry accepted (e ∷ entries) x =
    let own = All-head (IsOf accepted) e entries x in
    ap (λ (r : ℕ × ℕ). r ∷ map (request-of accepted) (numbers_of entries)) (ap (λ y. (y, (request-of accepted e.id.0).1)) own.1 ∙ ap (λ y. (e.event, y)) own.2)
    ∙ ap (λ rs. (e.event, e.block) ∷ rs) (each-entry accepted entries (All-tail (IsOf accepted) e entries x))

numbers-below : (accepted : List Accepted) (entries : List Entry) → AreOf accepted entries → All (λ k. k < length accepted) (numbers_of entries)
numbers-below accepted [] x = All-nil (λ k. k < length accepted)
numbers-below accepted (e ∷ entries) x =
    All-cons (λ k. k < length accepted) e.id.0 (numbers_of entries) (All-head (IsOf accepted) e entries x).0
    (numbers-below accepted entries (All-tail (IsOf accepted) e entries x))

pub answers-each : (s : Shard) (accepted : List Accepted) (entries : List Entry) → AreOf accepted entries → AreOnce s entries
    → length entries ≡ length accepted → AnswersEach accepted entries
answers-each s accepted entries linked once long =
    let numbers = all-of (length accepted) (numbers_of entries) once.distinct (numbers-below accepted entries linked)
    (length-map entries (λ (e : Entry). e.id.0) ∙ long) in
    record {
      numbers = numbers;
      requests = subst (λ xs. IsPermutation xs (map (λ (e : Entry). (e.event, e.block)) entries)) (each-request accepted)
          (subst (IsPermutation (map (request-of accepted) (range_with_len 0 (length accepted)))) (each-entry accepted entries linked)
          (IsPermutation-map (request-of accepted) (range_with_len 0 (length accepted)) (numbers_of entries) numbers));
      linked = linked;
    }
