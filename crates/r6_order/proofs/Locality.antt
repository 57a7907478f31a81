-- One order for all shards: each time a request is handed in, its shard's order goes on as far as all in it are handed
-- in.
use Rattle.std.proofs.Common.{◌≡◌, ◌≢◌, ℕ, ◌⊎◌, List, [], ◌∷◌, ◌++◌, append_assoc, map, ◌==◌, ◌||◌, ◌&&◌, Bool, true, false, cond, eq-eqb, inl, inr, refl, sym, ap, subst, ◌∙◌}
use Rattle.std.proofs.lemmas.Bool.{and_parts, cases_eq, eqb-true, ne_eqb, false≢true, or_cases, or_left, or_right}
use Rattle.std.proofs.Math.Bool.{or-false}
use Rattle.std.proofs.Math.Path.{fun_ext}
use Rattle.r6_world.specs.Tables.{put}
use Rattle.r6_world.specs.PlainArray.{Array, Op, Read, Write, Reply, Data, Done, ArrayFailed, reply_of, array_after, block_of}
use Rattle.r6_world.specs.Layouts.{Layout}
use Rattle.r6_world.proofs.Tables.{put-same, put-other}
use Rattle.r6_course.specs.Courses.{Mark, Asked, Replied}
use Rattle.r6_course.specs.Ledgers.{Entry, entry, Gives, IsIn, IsBefore, AreOnce, merged}
use Rattle.r6_course.proofs.Lists.{in-either, before-across, before-first}
use Rattle.r6_order.specs.Orders.{ArrayHistory, of_shard, LeadsEach, LocalLaw}
use Rattle.r6_order.proofs.Fronts.{front_of, rest_of, Implies, none-taken, taken-behind, dropped-parts, all-taken, none-dropped, taken-passes, taken-in, dropped-in, is-taken}

-- ---- lists of two parts

-- the entries without their shards
abbrev all_of : {A : Type 0} → List (ℕ × A) → List A
all_of list = map (λ x. x.1) list

pub of-append : {A : Type 0} (n : ℕ) (a b : List (ℕ × A)) → of_shard n (a ++ b) ≡ of_shard n a ++ of_shard n b
of-append n [] b = refl
of-append n (x ∷ a) b = at (x.0 == n) (of-append n a b)
  where
    at : (own : Bool) → of_shard n (a ++ b) ≡ of_shard n a ++ of_shard n b
        → cond own (x.1 ∷ of_shard n (a ++ b)) (of_shard n (a ++ b)) ≡ cond own (x.1 ∷ of_shard n a) (of_shard n a) ++ of_shard n b
    at true e = ap (λ ys. x.1 ∷ ys) e
    at false e = e

all-append : {A : Type 0} (a b : List (ℕ × A)) → all_of (a ++ b) ≡ all_of a ++ all_of b
all-append [] b = refl
all-append (x ∷ a) b = ap (λ ys. x.1 ∷ ys) (all-append a b)

-- all of one shard
abbrev pub tag : {A : Type 0} → ℕ → List A → List (ℕ × A)
tag n xs = map (λ x. (n, x)) xs

pub tag-own : {A : Type 0} (n : ℕ) (xs : List A) → of_shard n (tag n xs) ≡ xs
tag-own n [] = refl
tag-own n (x ∷ xs) = ap (λ b. cond b (x ∷ of_shard n (tag n xs)) (of_shard n (tag n xs))) (eq-eqb n n refl) ∙ ap (λ ys. x ∷ ys) (tag-own n xs)

pub tag-other : {A : Type 0} (n m : ℕ) (xs : List A) → (m ≡ n → ⊥) → of_shard n (tag m xs) ≡ []
tag-other n m [] ne = refl
tag-other n m (x ∷ xs) ne = ap (λ b. cond b (x ∷ of_shard n (tag m xs)) (of_shard n (tag m xs))) (ne_eqb m n ne) ∙ tag-other n m xs ne

all-tag : {A : Type 0} (n : ℕ) (xs : List A) → all_of (tag n xs) ≡ xs
all-tag n [] = refl
all-tag n (x ∷ xs) = ap (λ ys. x ∷ ys) (all-tag n xs)

pub of-in : {A : Type 0} (n : ℕ) (a : A) (marks : List (ℕ × A)) → IsIn (n, a) marks → IsIn a (of_shard n marks)
of-in n a [] i = absurd i
of-in n a (x ∷ marks) i = elim i [
  | inl same ↦
      subst (λ b. IsIn a (cond b (x.1 ∷ of_shard n marks) (of_shard n marks))) (sym (eq-eqb x.0 n (ap (λ (y : _ × _). y.0) (sym same))))
      (inl (ap (λ (y : _ × _). y.1) same))
  | inr later ↦ deeper (x.0 == n) (of-in n a marks later)
]
  where
    deeper : (b : Bool) → IsIn a (of_shard n marks) → IsIn a (cond b (x.1 ∷ of_shard n marks) (of_shard n marks))
    deeper true i = inr i
    deeper false i = i

pub in-of : {A : Type 0} (n : ℕ) (a : A) (marks : List (ℕ × A)) → IsIn a (of_shard n marks) → IsIn (n, a) marks
in-of n a [] i = absurd i
in-of n a (x ∷ marks) i = elim (cases_eq x.0 n) [
  | inl same ↦ elim (subst (λ b. IsIn a (cond b (x.1 ∷ of_shard n marks) (of_shard n marks))) (eq-eqb x.0 n same) i) [
    | inl here ↦ inl (λ k. (sym same k, here k))
    | inr later ↦ inr (in-of n a marks later)
  ]
  | inr ne ↦ inr (in-of n a marks (subst (λ b. IsIn a (cond b (x.1 ∷ of_shard n marks) (of_shard n marks))) (ne_eqb x.0 n ne) i))
]

before-second : {A : Type 0} (x y : A) (xs : List A) → IsBefore x y xs → IsIn y xs
before-second x y [] b = absurd b
before-second x y (z ∷ xs) b = elim b [ inl here ↦ inr here.1 | inr later ↦ inr (before-second x y xs later) ]

-- where the one stands before the other
pub record Parts {A : Type 0} (x y : A) (xs : List A) : Type 0 where
  front : List A
  back : List A
  is : xs ≡ front ++ x ∷ back
  behind : IsIn y back

parts-of : {A : Type 0} (x y : A) (xs : List A) → IsBefore x y xs → Parts x y xs
parts-of x y [] b = absurd b
parts-of x y (z ∷ xs) b = elim b [
  | inl here ↦ record { front = []; back = xs; is = ap (λ w. w ∷ xs) (sym here.0); behind = here.1 }
  | inr later ↦ let p = parts-of x y xs later in record { front = z ∷ p.front; back = p.back; is = ap (λ ws. z ∷ ws) p.is; behind = p.behind }
]

-- ---- entries that stand once

once-behind : (x y : Entry) (es : List Entry) → AreOnce es → IsBefore x y es → x.id ≢ y.id
once-behind x y [] once b same = b
once-behind x y (z ∷ es) once b same = elim b [
  | inl here ↦ once.0 y here.1 (sym same ∙ ap (λ (e : Entry). e.id) here.0)
  | inr later ↦ once-behind x y es once.1 later same
]

before-trans : (x y z : Entry) (es : List Entry) → AreOnce es → IsBefore x y es → IsBefore y z es → IsBefore x z es
before-trans x y z [] once b c = b
before-trans x y z (e ∷ es) once b c = elim b [
  | inl here ↦ elim c [
    | inl there ↦ inl (here.0, there.1)
    | inr later ↦ inl (here.0, before-second y z es later)
  ]
  | inr later ↦ elim c [
    | inl there ↦ absurd (once.0 y (before-second x y es later) (ap (λ (w : Entry). w.id) there.0))
    | inr later' ↦ inr (before-trans x y z es once.1 later later')
  ]
]

-- ---- one plain array for two

run : Array → List Entry → Array
run a [] = a
run a (e ∷ es) = run (array_after a e.op) es

gives-append : (a b c : Array) (xs ys : List Entry) → Gives a xs b → Gives b ys c → Gives a (xs ++ ys) c
gives-append a b c [] ys g h = subst (λ y. Gives y ys c) g h
gives-append a b c (e ∷ xs) ys g h = (g.0, gives-append (array_after a e.op) b c xs ys g.1 h)

gives-parts : (a c : Array) (xs ys : List Entry) → Gives a (xs ++ ys) c → (b : Array) × Gives a xs b × Gives b ys c
gives-parts a c [] ys g = (a, refl, g)
gives-parts a c (e ∷ xs) ys g = let p = gives-parts (array_after a e.op) c xs ys g.1 in (p.0, (g.0, p.1), p.2)

reply-same : (a b : Array) (op : Op) → a (block_of op) ≡ b (block_of op) → reply_of a op ≡ reply_of b op
reply-same a b (Read block) e = ap Data e
reply-same a b (Write block new_data) e = refl

after-same : (a b : Array) (op : Op) (block : ℕ) → a block ≡ b block → array_after a op block ≡ array_after b op block
after-same a b (Read other) block e = e
after-same a b (Write other new_data) block e = elim (cases_eq block other) [
  | inl same ↦ put-same a other new_data block same ∙ sym (put-same b other new_data block same)
  | inr ne ↦ put-other a other new_data block ne ∙ e ∙ sym (put-other b other new_data block ne)
]

after-apart : (a : Array) (op : Op) (block : ℕ) → (block ≡ block_of op → ⊥) → array_after a op block ≡ a block
after-apart a (Read other) block ne = refl
after-apart a (Write other new_data) block ne = put-other a other new_data block ne

module _ (home : ℕ → ℕ) (n : ℕ) where
  -- requests for blocks of one shard run on an array that has these blocks
  gives-there : (a b whole : Array) (es : List Entry) → ((e : Entry) → IsIn e es → home (block_of e.op) ≡ n)
      → ((block : ℕ) → home block ≡ n → whole block ≡ a block) → Gives a es b
      → (whole' : Array) × Gives whole es whole' × ((block : ℕ) → home block ≡ n → whole' block ≡ b block)
      × ((block : ℕ) → (home block ≡ n → ⊥) → whole' block ≡ whole block)
  gives-there a b whole [] own same g = (whole, refl, (λ block here. same block here ∙ ap (λ (y : Array). y block) (sym g)), λ block ne. refl)
  gives-there a b whole (e ∷ es) own same g =
      let here = own e (inl refl) in
      let p = gives-there (array_after a e.op) b (array_after whole e.op) es (λ x i. own x (inr i))
      (λ block at. after-same whole a e.op block (same block at)) g.1 in (
        p.0,
        (g.0 ∙ reply-same a whole e.op (sym (same (block_of e.op) here)), p.1),
        p.2,
        λ block ne. p.3 block ne ∙ after-apart whole e.op block (λ at. ne (ap home at ∙ here)),
      )

-- ---- who was handed in

abbrev pub Known : Type 0
Known = ℕ → ℕ → Bool

abbrev pub learn : Known → ℕ → ℕ → Known
learn known n id = λ m i. known m i || ((m == n) && (i == id))

abbrev pub learnt : Known → ArrayHistory → Known
learnt known [] = known
learnt known ((n, Asked id op) ∷ marks) = learnt (learn known n id) marks
learnt known ((n, Replied id reply) ∷ marks) = learnt known marks

abbrev pub nobody : Known
nobody = λ n id. false

learn-own : (known : Known) (n id : ℕ) → learn known n id n id ≡ true
learn-own known n id =
    or_right (known n id) ((n == n) && (id == id)) (ap (λ b. b && (id == id)) (eq-eqb n n refl) ∙ eq-eqb id id refl)

learn-other : (known : Known) (n id m : ℕ) → (m ≡ n → ⊥) → learn known n id m ≡ known m
learn-other known n id m ne = fun_ext (λ i. ap (λ b. known m i || (b && (i == id))) (ne_eqb m n ne) ∙ or-false (known m i))

learnt-still : (marks : ArrayHistory) (known : Known) (n id : ℕ) → known n id ≡ true → learnt known marks n id ≡ true
learnt-still [] known n id e = e
learnt-still ((m, Asked i op) ∷ marks) known n id e = learnt-still marks (learn known m i) n id (or_left (known n id) ((n == m) && (id == i)) e)
learnt-still ((m, Replied i reply) ∷ marks) known n id e = learnt-still marks known n id e

-- who was handed in is known
asked-known : (marks : ArrayHistory) (known : Known) (n id : ℕ) (op : Op) → IsIn (n, Asked id op) marks → learnt known marks n id ≡ true
asked-known [] known n id op i = absurd i
asked-known ((m, Asked j other) ∷ marks) known n id op i = elim i [
  | inl same ↦
      learnt-still marks (learn known m j) n id
      (subst (λ (x : ℕ × ℕ). learn known m j x.0 x.1 ≡ true) (λ k. (ap (λ (y : ℕ × Mark). y.0) (sym same) k, sym (ids id j op other (ap (λ (y : ℕ × Mark). y.1) same)) k)) (learn-own known m j))
  | inr later ↦ asked-known marks (learn known m j) n id op later
]
  where
    ids : (a b : ℕ) (x y : Op) → Asked a x ≡ Asked b y → a ≡ b
    ids a b x y e = cc
asked-known ((m, Replied j reply) ∷ marks) known n id op i = elim i [
  | inl same ↦ absurd (let bad : Asked id op ≡ Replied j reply = ap (λ (y : ℕ × Mark). y.1) same in cc)
  | inr later ↦ asked-known marks known n id op later
]

-- and who is known was handed in
known-asked : (marks : ArrayHistory) (known : Known) (n id : ℕ) → learnt known marks n id ≡ true
    → (known n id ≡ true) ⊎ ((op : Op) × IsIn (n, Asked id op) marks)
known-asked [] known n id e = inl e
known-asked ((m, Asked j other) ∷ marks) known n id e = elim (known-asked marks (learn known m j) n id e) [
  | inl was ↦ elim (or_cases (known n id) ((n == m) && (id == j)) was) [
    | inl old ↦ inl old
    | inr new ↦
        let p = and_parts (n == m) (id == j) new in
        inr (other, inl (λ k. (eqb-true n m p.0 k, Asked (eqb-true id j p.1 k) other)))
  ]
  | inr later ↦ inr (later.0, inr later.1)
]
known-asked ((m, Replied j reply) ∷ marks) known n id e = elim (known-asked marks known n id e) [
  | inl was ↦ inl was
  | inr later ↦ inr (later.0, inr later.1)
]

-- ---- the order: each shard's goes on, once a request is handed in, as far as all are handed in

module _ (orders : ℕ → List Entry) where
  abbrev pub test : Known → ℕ → Entry → Bool
  test known n e = known n e.id

  abbrev pub emit : Known → ArrayHistory → List (ℕ × Entry)
  emit known [] = []
  emit known ((n, Asked id op) ∷ marks) =
      tag n (front_of (test (learn known n id) n) (rest_of (test known n) (orders n))) ++ emit (learn known n id) marks
  emit known ((n, Replied id reply) ∷ marks) = emit known marks

  emit-append : (f b : ArrayHistory) (known : Known) → emit known (f ++ b) ≡ emit known f ++ emit (learnt known f) b
  emit-append [] b known = refl
  emit-append ((n, Asked id op) ∷ f) b known =
      ap (λ ys. tag n (front_of (test (learn known n id) n) (rest_of (test known n) (orders n))) ++ ys) (emit-append f b (learn known n id))
      ∙ sym (append_assoc (tag n (front_of (test (learn known n id) n) (rest_of (test known n) (orders n)))) (emit (learn known n id) f) (emit (learnt (learn known n id) f) b))
  emit-append ((n, Replied id reply) ∷ f) b known = emit-append f b known

  wider : (known : Known) (n id m : ℕ) → Implies (test known m) (test (learn known n id) m)
  wider known n id m e is = or_left (known m e.id) ((m == n) && (e.id == id)) is

  wider-still : (marks : ArrayHistory) (known : Known) (m : ℕ) → Implies (test known m) (test (learnt known marks) m)
  wider-still marks known m e is = learnt-still marks known m e.id is

  -- what it has of each shard
  emitted : (marks : ArrayHistory) (known : Known) (n : ℕ)
      → of_shard n (emit known marks) ≡ front_of (test (learnt known marks) n) (rest_of (test known n) (orders n))
  emitted [] known n = sym (none-taken (test known n) (orders n))
  emitted ((m, Replied id reply) ∷ marks) known n = emitted marks known n
  emitted ((m, Asked id op) ∷ marks) known n =
      let k' = learn known m id in
      let piece = front_of (test k' m) (rest_of (test known m) (orders m)) in
      let rest = emitted marks k' n in
      of-append n (tag m piece) (emit k' marks) ∙ elim (cases_eq m n) [
        | inl same ↦
            ap (λ ys. ys ++ of_shard n (emit k' marks))
            (ap (λ y. of_shard n (tag y (front_of (test k' y) (rest_of (test known y) (orders y))))) same
            ∙ tag-own n (front_of (test k' n) (rest_of (test known n) (orders n))))
            ∙ ap (λ ys. front_of (test k' n) (rest_of (test known n) (orders n)) ++ ys) rest
            ∙ sym (taken-behind (test known n) (test k' n) (test (learnt k' marks) n) (wider known m id n) (wider-still marks k' n) (orders n))
        | inr ne ↦
            ap (λ ys. ys ++ of_shard n (emit k' marks)) (tag-other n m piece ne) ∙ rest
            ∙ ap (λ (y : ℕ → Bool). front_of (test (learnt k' marks) n) (rest_of (λ e. y e.id) (orders n))) (learn-other known m id n (λ same. ne (sym same)))
      ]

  -- what one plain array makes of it
  pub record Ran (home : ℕ → ℕ) (arrays : ℕ → Array) (whole : Array) (known : Known) (marks : ArrayHistory) : Type 0 where
    pub ends : ℕ → Array
    pub whole' : Array
    pub gives : Gives whole (all_of (emit known marks)) whole'
    pub same : (block : ℕ) → whole' block ≡ ends (home block) block
    pub rest : (n : ℕ) → Gives (ends n) (rest_of (test (learnt known marks) n) (orders n)) (arrays n)

  runs : (home : ℕ → ℕ) → ((n : ℕ) (e : Entry) → IsIn e (orders n) → home (block_of e.op) ≡ n) → (arrays : ℕ → Array) → (marks : ArrayHistory) (known : Known)
      → (now : ℕ → Array) (whole : Array) → ((block : ℕ) → whole block ≡ now (home block) block)
      → ((n : ℕ) → Gives (now n) (rest_of (test known n) (orders n)) (arrays n)) → Ran home arrays whole known marks
  runs home own arrays [] known now whole same rest = record { ends = now; whole' = whole; gives = refl; same = same; rest = rest }
  runs home own arrays ((m, Replied id reply) ∷ marks) known now whole same rest =
      let r = runs home own arrays marks known now whole same rest in
      record { ends = r.ends; whole' = r.whole'; gives = r.gives; same = r.same; rest = r.rest }
  runs home own arrays ((m, Asked id op) ∷ marks) known now whole same rest =
      let k' = learn known m id in
      let p = test known m in
      let q = test k' m in
      let piece = front_of q (rest_of p (orders m)) in
      let parts = gives-parts (now m) (arrays m) piece (rest_of q (orders m))
      (subst (λ y. Gives (now m) y (arrays m)) (dropped-parts p q (wider known m id m) (orders m)) (rest m)) in
      let g = gives-there home m (now m) parts.0 whole piece
      (λ e i. own m e (dropped-in p (orders m) e (taken-in q (rest_of p (orders m)) e i)))
      (λ block at. same block ∙ ap (λ y. now y block) at) parts.1 in
      let now' = put now m parts.0 in
      let r = runs home own arrays marks k' now' g.0
      (λ block. elim (cases_eq (home block) m) [
        | inl at ↦ g.2 block at ∙ ap (λ (y : Array). y block) (sym (put-same now m parts.0 (home block) at))
        | inr ne ↦ g.3 block ne ∙ same block ∙ ap (λ (y : Array). y block) (sym (put-other now m parts.0 (home block) ne))
      ])
      (λ n. elim (cases_eq n m) [
        | inl at ↦
            subst (λ y. Gives (put now m parts.0 y) (rest_of (test k' y) (orders y)) (arrays y)) (sym at)
            (subst (λ y. Gives y (rest_of q (orders m)) (arrays m)) (sym (put-same now m parts.0 m refl)) parts.2)
        | inr ne ↦
            subst (λ y. Gives y (rest_of (test k' n) (orders n)) (arrays n)) (sym (put-other now m parts.0 n ne))
            (subst (λ (y : ℕ → Bool). Gives (now n) (rest_of (λ e. y e.id) (orders n)) (arrays n)) (sym (learn-other known m id n ne)) (rest n))
      ]) in
      record {
        ends = r.ends;
        whole' = r.whole';
        gives =
            subst (λ y. Gives whole y r.whole') (sym (all-append (tag m piece) (emit k' marks) ∙ ap (λ ys. ys ++ all_of (emit k' marks)) (all-tag m piece)))
            (gives-append whole g.0 r.whole' piece (all_of (emit k' marks)) g.1 r.gives);
        same = r.same;
        rest = r.rest;
      }

-- whether a reply says that the array has failed
is-failure : (reply : Reply) → (reply ≡ ArrayFailed) ⊎ (reply ≢ ArrayFailed)
is-failure (Data block) = inr (λ e. cc)
is-failure Done = inr (λ e. cc)
is-failure ArrayFailed = inl refl

pub local_law : LocalLaw
local_law l a marks arrays x =
    let home : ℕ → ℕ = λ block. l.shard_of (l.row_of block) in
    let orders : ℕ → List Entry = λ n. (x.leads n).order in
    let known = learnt nobody marks in
    let order = emit orders nobody marks in
    let all : (n : ℕ) (e : Entry) → IsIn e (orders n) → known n e.id ≡ true =
    (λ n e i. asked-known marks nobody n e.id e.op (in-of n (Asked e.id e.op) marks ((x.leads n).asked e i))) in
    let whole : (n : ℕ) → (front_of (λ (e : Entry). known n e.id) (orders n) ≡ orders n) × (rest_of (λ (e : Entry). known n e.id) (orders n) ≡ []) =
    (λ n. all-taken (λ (e : Entry). known n e.id) (orders n) (all n)) in
    let undropped : (n : ℕ) → rest_of (λ (e : Entry). false) (orders n) ≡ orders n = (λ n. none-dropped (λ (e : Entry). false) (orders n) (λ e. refl)) in
    let r = runs orders home (λ n e i. x.own n e.id e.op ((x.leads n).asked e i)) arrays marks nobody (λ n. a) a (λ block. refl)
    (λ n. subst (λ y. Gives a y (arrays n)) (sym (undropped n)) (x.leads n).gives) in
    let own : (n : ℕ) → of_shard n order ≡ orders n =
    (λ n. emitted orders marks nobody n ∙ ap (front_of (λ (e : Entry). known n e.id)) (undropped n) ∙ (whole n).0) in
    let ends : r.whole' ≡ merged l arrays =
    fun_ext (λ block.
    r.same block
    ∙ ap (λ (y : Array). y block) (sym (subst (λ y. Gives (r.ends (home block)) y (arrays (home block))) (whole (home block)).1 (r.rest (home block))))) in (
      record {
        order = order;
        gives = subst (Gives a (all_of order)) ends r.gives;
        once = λ n. subst AreOnce (sym (own n)) (x.leads n).once;
        asked = λ n e i. in-of n (Asked e.id e.op) marks ((x.leads n).asked e (subst (IsIn e) (own n) (of-in n e order i)));
        replied = λ n id reply i ne.
            let found = (x.leads n).replied id reply (of-in n (Replied id reply) marks i) ne in
            (found.0, in-of n (entry id found.0 reply) order (subst (IsIn (entry id found.0 reply)) (sym (own n)) found.1));
        in_time = λ n m earlier later reply op before i j. in-time l a marks arrays x n m earlier later reply op before i j (own n);
      },
      own,
    )
  where
    in-time : (l : Layout) (a : Array) (marks : ArrayHistory) (arrays : ℕ → Array) (x : LeadsEach l a marks arrays) (n m : ℕ) (earlier later : Entry) (reply : Reply) (op : Op)
        → IsBefore (n, Replied earlier.id reply) (m, Asked later.id op) marks
        → IsIn (n, earlier) (emit (λ n. (x.leads n).order) nobody marks) → IsIn (m, later) (emit (λ n. (x.leads n).order) nobody marks)
        → of_shard n (emit (λ n. (x.leads n).order) nobody marks) ≡ (x.leads n).order
        → IsBefore (n, earlier) (m, later) (emit (λ n. (x.leads n).order) nobody marks)
    in-time l a marks arrays x n m earlier later reply op before i j own =
        let orders : ℕ → List Entry = λ n. (x.leads n).order in
        let p = parts-of (n, Replied earlier.id reply) (m, Asked later.id op) marks before in
        let f = p.front in
        let b : ArrayHistory = (n, Replied earlier.id reply) ∷ p.back in
        let k = learnt nobody f in
        let split : emit orders nobody marks ≡ emit orders nobody f ++ emit orders k b = ap (emit orders nobody) p.is ∙ emit-append orders f b nobody in
        let of : (j : ℕ) → of_shard j marks ≡ of_shard j f ++ of_shard j b = (λ j. ap (of_shard j) p.is ∙ of-append j f b) in
        let undropped : (j : ℕ) → rest_of (λ (e : Entry). false) (orders j) ≡ orders j = (λ j. none-dropped (λ (e : Entry). false) (orders j) (λ e. refl)) in
        let first-of : (j : ℕ) → of_shard j (emit orders nobody f) ≡ front_of (λ (e : Entry). k j e.id) (orders j) =
        (λ j. emitted orders f nobody j ∙ ap (front_of (λ (e : Entry). k j e.id)) (undropped j)) in
        -- the later request is not among the first
        let behind : IsIn (m, later) (emit orders k b) = elim (in-either (m, later) (emit orders nobody f) (emit orders k b) (subst (IsIn (m, later)) split j)) [
          | inr there ↦ there
          | inl here ↦
              let known : k m later.id ≡ true = taken-passes (λ (e : Entry). k m e.id) (orders m) later (subst (IsIn later) (first-of m) (of-in m later (emit orders nobody f) here)) in
              absurd (elim (known-asked f nobody m later.id known) [
                | inl none ↦ false≢true none
                | inr asked ↦
                    (x.well_formed m).asked_once later.id asked.0 op
                    (subst (IsBefore (Asked later.id asked.0) (Asked later.id op)) (sym (of m))
                    (before-across (Asked later.id asked.0) (Asked later.id op) (of_shard m f) (of_shard m b)
                    (of-in m (Asked later.id asked.0) f asked.1)
                    (of-in m (Asked later.id op) b (inr p.behind))))
              ])
        ] in
        -- the earlier one is, and all before it in its shard's order
        let mine : IsIn earlier (orders n) = subst (IsIn earlier) own (of-in n earlier (emit orders nobody marks) i) in
        let asked-there : (y : Entry) → IsIn y (orders n) → (IsBefore y earlier (orders n)) ⊎ (y ≡ earlier) → k n y.id ≡ true =
        (λ y j where'. elim (in-either (Asked y.id y.op) (of_shard n f) (of_shard n b) (subst (IsIn (Asked y.id y.op)) (of n) ((x.leads n).asked y j))) [
          | inl front ↦ asked-known f nobody n y.id y.op (in-of n (Asked y.id y.op) f front)
          | inr back ↦
              absurd (asked-later l a marks arrays x n earlier y reply j where'
              (subst (IsBefore (Replied earlier.id reply) (Asked y.id y.op)) (sym (of n))
              (before-behind (Replied earlier.id reply) (Asked y.id y.op) (of_shard n f) (of_shard n b) (first-mark n earlier.id reply y.id y.op p.back back))))
        ]) in
        let taken : IsIn earlier (front_of (λ (e : Entry). k n e.id) (orders n)) =
        is-taken (λ (e : Entry). k n e.id) (orders n) earlier mine (asked-there earlier mine (inr refl))
        (λ y first. asked-there y (before-first y earlier (orders n) first) (inl first)) in
        let front : IsIn (n, earlier) (emit orders nobody f) = in-of n earlier (emit orders nobody f) (subst (IsIn earlier) (sym (first-of n)) taken) in
        subst (IsBefore (n, earlier) (m, later)) (sym split) (before-across (n, earlier) (m, later) (emit orders nobody f) (emit orders k b) front behind)
      where
        -- no request up to one in its shard's order is handed in after the reply to that one was taken
        asked-later : (l : Layout) (a : Array) (marks : ArrayHistory) (arrays : ℕ → Array) (x : LeadsEach l a marks arrays) (n : ℕ) (earlier y : Entry) (reply : Reply)
            → IsIn y (x.leads n).order → (IsBefore y earlier (x.leads n).order) ⊎ (y ≡ earlier)
            → IsBefore (Replied earlier.id reply) (Asked y.id y.op) (of_shard n marks) → ⊥
        asked-later l a marks arrays x n earlier y reply i where' before = elim (is-failure reply) [
          | inl failed ↦ x.none_after n earlier.id y.id y.op (subst (λ r. IsBefore (Replied earlier.id r) (Asked y.id y.op) (of_shard n marks)) failed before)
          | inr ne ↦
              let order = (x.leads n).order in
              let once = (x.leads n).once in
              let time = (x.leads n).in_time earlier.id y.id reply y.op before ne y i refl in
              let own = entry earlier.id time.0 reply in
              elim where' [
                | inl first ↦ once-behind own earlier order once (before-trans own y earlier order once time.1 first) refl
                | inr is ↦ once-behind own y order once time.1 (ap (λ (z : Entry). z.id) (sym is))
              ]
        ]

        before-behind : {A : Type 0} (x y : A) (xs ys : List A) → IsBefore x y ys → IsBefore x y (xs ++ ys)
        before-behind x y [] ys b = b
        before-behind x y (z ∷ xs) ys b = inr (before-behind x y xs ys b)

        -- what is handed in behind a reply
        first-mark : (n id : ℕ) (reply : Reply) (later : ℕ) (op : Op) (back : ArrayHistory) → IsIn (Asked later op) (of_shard n ((n, Replied id reply) ∷ back))
            → IsBefore (Replied id reply) (Asked later op) (of_shard n ((n, Replied id reply) ∷ back))
        first-mark n id reply later op back i =
            subst (λ b. IsBefore (Replied id reply) (Asked later op) (cond b (Replied id reply ∷ of_shard n back) (of_shard n back))) (sym (eq-eqb n n refl))
            (elim (subst (λ b. IsIn (Asked later op) (cond b (Replied id reply ∷ of_shard n back) (of_shard n back))) (eq-eqb n n refl) i) [
              | inl bad ↦ absurd (let e : Asked later op ≡ Replied id reply = bad in cc)
              | inr there ↦ inl (refl, there)
            ])
