-- Parts in a list, and what is known of them.
use Rattle.std.proofs.Common.{◌≡◌, ℕ, ◌<◌, ◌≤◌, zero, suc, Bool, List, [], ◌∷◌, ◌++◌, length, get_or, true, false, true≢false, inl, inr, refl, sym, ap, subst, ◌∙◌, arith, Option, Some, None}
use Rattle.std.specs.Prelude.{slice_set, ◌==◌, ◌&&◌, nat_lt, cond, IsOk}
use Rattle.std.specs.List.{position, position_or_len}
use Rattle.std.proofs.lemmas.List.Quantifiers.{position-Some}
use Rattle.std.proofs.lemmas.Bool.{cases_Bool, and_parts, eqb-true, eq-eqb, ltb-false}
use Rattle.r6_dev.specs.History.{Telling, Entry, Reads, Writes, Misses, Fails, Answers}
use Rattle.r6_dev.specs.Promises.{Promise, Covers}
use Rattle.r6_world.specs.Values.{buffer_in}
use Rattle.r6_world.specs.declared.values.Command.{Command}
use Rattle.r6_exchange.specs.declared.task.ServedPart.{ServedPart}
use Rattle.r6_exchange.specs.declared.completion.Completion.{Completion}
use Rattle.r6_exchange.specs.Answering.{Known, State, put_at, promise_if, known_of, entry_of, FitsTelling, MayAnswer, IsPromised, telling_after, known_after, gone_for}
use Rattle.r6_exchange.specs.Parts.{is_of, part_in, Tells, Keeps, Holds, Does, TakesUp}

first-of : {D : Type 0} (told : D → Telling) (promised : D → Promise) (served : ServedPart D) (parts : List (ServedPart D)) (slot generation : ℕ) → is_of slot generation served ≡ true
    → part_in told promised (served ∷ parts) slot generation ≡ Some (known_of told promised served)
first-of told promised served parts slot generation e = rw e

rest-of : {D : Type 0} (told : D → Telling) (promised : D → Promise) (served : ServedPart D) (parts : List (ServedPart D)) (slot generation : ℕ) → is_of slot generation served ≡ false
    → part_in told promised (served ∷ parts) slot generation ≡ part_in told promised parts slot generation
rest-of told promised served parts slot generation e = rw e

found : {D : Type 0} (told : D → Telling) (promised : D → Promise) (parts : List (ServedPart D)) (at : ℕ) (d : ServedPart D) (slot generation : ℕ) → at < length parts
    → is_of slot generation (get_or parts at d) ≡ true → ((k : ℕ) → k < at → is_of slot generation (get_or parts k d) ≡ false)
    → part_in told promised parts slot generation ≡ Some (known_of told promised (get_or parts at d))
found told promised [] at d slot generation below is before = absurd (omega arith)
found told promised (served ∷ parts) zero d slot generation below is before = first-of told promised served parts slot generation is
found told promised (served ∷ parts) (suc at) d slot generation below is before =
    rest-of told promised served parts slot generation (before 0 (omega arith))
    ∙ found told promised parts at d slot generation (omega arith) is (λ k low. before (suc k) (omega arith))

replaced : {D : Type 0} (told : D → Telling) (promised : D → Promise) (parts : List (ServedPart D)) (at : ℕ) (d new : ServedPart D) (slot generation : ℕ) → at < length parts
    → is_of slot generation new ≡ true → ((k : ℕ) → k < at → is_of slot generation (get_or parts k d) ≡ false)
    → part_in told promised (slice_set parts at new) slot generation ≡ Some (known_of told promised new)
replaced told promised [] at d new slot generation below is before = absurd (omega arith)
replaced told promised (served ∷ parts) zero d new slot generation below is before = first-of told promised new parts slot generation is
replaced told promised (served ∷ parts) (suc at) d new slot generation below is before =
    rest-of told promised served (slice_set parts at new) slot generation (before 0 (omega arith))
    ∙ replaced told promised parts at d new slot generation (omega arith) is (λ k low. before (suc k) (omega arith))

elsewhere : {D : Type 0} (told : D → Telling) (promised : D → Promise) (parts : List (ServedPart D)) (at : ℕ) (d new : ServedPart D) (other g : ℕ) → at < length parts
    → is_of other g new ≡ false → is_of other g (get_or parts at d) ≡ false
    → part_in told promised (slice_set parts at new) other g ≡ part_in told promised parts other g
elsewhere told promised [] at d new other g below is was = absurd (omega arith)
elsewhere told promised (served ∷ parts) zero d new other g below is was =
    rest-of told promised new parts other g is ∙ sym (rest-of told promised served parts other g was)
elsewhere told promised (served ∷ parts) (suc at) d new other g below is was = elim (cases_Bool (is_of other g served)) [
  | inl yes' ↦ first-of told promised served (slice_set parts at new) other g yes' ∙ sym (first-of told promised served parts other g yes')
  | inr no' ↦
      rest-of told promised served (slice_set parts at new) other g no' ∙ elsewhere told promised parts at d new other g (omega arith) is was
      ∙ sym (rest-of told promised served parts other g no')
]

pub both-same : (a b : ℕ) → ((a == a) && (b == b)) ≡ true
both-same a b = ap (λ y. y && (b == b)) (eq-eqb a a refl) ∙ eq-eqb b b refl

own : {D : Type 0} (served : ServedPart D) → is_of served.part.slot served.part.generation served ≡ true
own served = both-same served.part.slot served.part.generation

-- a part of this slot and generation is of no other
not-other : {D : Type 0} (served : ServedPart D) (slot generation other g : ℕ) → is_of slot generation served ≡ true
    → ((other == slot) && (g == generation)) ≡ false → is_of other g served ≡ false
not-other served slot generation other g is ne = elim (cases_Bool (is_of other g served)) [
  | inl yes' ↦
      let p = and_parts (served.part.slot == slot) (served.part.generation == generation) is in
      let q = and_parts (served.part.slot == other) (served.part.generation == g) yes' in
      let same : other ≡ slot = sym (eqb-true served.part.slot other q.0) ∙ eqb-true served.part.slot slot p.0 in
      let same' : g ≡ generation = sym (eqb-true served.part.generation g q.1) ∙ eqb-true served.part.generation generation p.1 in
      absurd (true≢false (sym (both-same slot generation) ∙ ap (λ y. (y == slot) && (generation == generation)) (sym same)
      ∙ ap (λ y. (other == slot) && (y == generation)) (sym same') ∙ ne))
  | inr no' ↦ no'
]

none-not : {A : Type 0} (x : A) → None ≡ Some x → ⊥
none-not x e = subst IsNone e tt
  where
    IsNone : {A : Type 0} → Option A → Type 0
    IsNone None = Unit {0}
    IsNone (Some x) = ⊥

some-inj : {A : Type 0} (x y : A) → Some x ≡ Some y → x ≡ y
some-inj {A = A} x y e = ap (or x) e
  where
    or : A → Option A → A
    or d None = d
    or d (Some z) = z

-- where none is there
missing : {D : Type 0} (told : D → Telling) (promised : D → Promise) (parts : List (ServedPart D)) (slot generation : ℕ)
    → length parts ≤ position_or_len (is_of slot generation) parts → part_in told promised parts slot generation ≡ None
missing told promised [] slot generation none = refl
missing told promised (served ∷ parts) slot generation none = elim (cases_Bool (is_of slot generation served)) [
  | inl yes' ↦ absurd (at-once yes' none)
  | inr no' ↦ rest-of told promised served parts slot generation no' ∙ missing told promised parts slot generation (later no' none)
]
  where
    at-once : is_of slot generation served ≡ true → suc (length parts) ≤ position_or_len (is_of slot generation) (served ∷ parts) → ⊥
    at-once e low = let first : position_or_len (is_of slot generation) (served ∷ parts) ≡ 0 = rw e in omega arith

    later : is_of slot generation served ≡ false → suc (length parts) ≤ position_or_len (is_of slot generation) (served ∷ parts)
        → length parts ≤ position_or_len (is_of slot generation) parts
    later e low =
        let next : position_or_len (is_of slot generation) (served ∷ parts) ≡ suc (position_or_len (is_of slot generation) parts) = rw e (omega arith) in
        omega arith

pub none-there : {D : Type 0} (told : D → Telling) (promised : D → Promise) (parts : List (ServedPart D)) (slot generation : ℕ) → position (is_of slot generation) parts ≡ None
    → part_in told promised parts slot generation ≡ None
none-there told promised parts slot generation e =
    let at = position_or_len (is_of slot generation) parts in
    missing told promised parts slot generation (elim (cases_Bool (nat_lt at (length parts))) [
      | inl yes' ↦ absurd (none-not at (sym e ∙ ap (λ b. cond b (Some at) None) yes'))
      | inr no' ↦ ltb-false at (length parts) no'
    ])

tells-added : {D : Type 0} (told : D → Telling) (promised : D → Promise) (parts : List (ServedPart D)) (new : ServedPart D) → part_in told promised parts new.part.slot new.part.generation ≡ None
    → part_in told promised (parts ++ new ∷ []) new.part.slot new.part.generation ≡ Some (known_of told promised new)
tells-added told promised [] new none = first-of told promised new [] new.part.slot new.part.generation (own new)
tells-added told promised (served ∷ parts) new none = elim (cases_Bool (is_of new.part.slot new.part.generation served)) [
  | inl yes' ↦ absurd (none-not (known_of told promised served) (sym none ∙ first-of told promised served parts new.part.slot new.part.generation yes'))
  | inr no' ↦
      rest-of told promised served (parts ++ new ∷ []) new.part.slot new.part.generation no'
      ∙ tells-added told promised parts new (sym (rest-of told promised served parts new.part.slot new.part.generation no') ∙ none)
]

others-added : {D : Type 0} (told : D → Telling) (promised : D → Promise) (parts : List (ServedPart D)) (new : ServedPart D) (other g : ℕ) → is_of other g new ≡ false
    → part_in told promised (parts ++ new ∷ []) other g ≡ part_in told promised parts other g
others-added told promised [] new other g e = rest-of told promised new [] other g e
others-added told promised (served ∷ parts) new other g e = elim (cases_Bool (is_of other g served)) [
  | inl yes' ↦ first-of told promised served (parts ++ new ∷ []) other g yes' ∙ sym (first-of told promised served parts other g yes')
  | inr no' ↦
      rest-of told promised served (parts ++ new ∷ []) other g no' ∙ others-added told promised parts new other g e ∙ sym (rest-of told promised served parts other g no')
]

-- ---- what is known is put down as a part changes

pub put-there : (known : State) (s g : ℕ) (k : Option Known) (d h : ℕ) → ((d == s) && (h == g)) ≡ true → put_at known s g k d h ≡ k
put-there known s g k d h e = rw e

pub put-elsewhere : (known : State) (s g : ℕ) (k : Option Known) (d h : ℕ) → ((d == s) && (h == g)) ≡ false → put_at known s g k d h ≡ known d h
put-elsewhere known s g k d h e = rw e

holds-put : (known old new : State) (s g : ℕ) (k : Option Known) → Holds known old → Keeps k (new s g)
    → ((d h : ℕ) → ((d == s) && (h == g)) ≡ false → new d h ≡ old d h) → Holds (put_at known s g k) new
holds-put known old new s g k holds keeps others d h = elim (cases_Bool ((d == s) && (h == g))) [
  | inl yes' ↦
      let p = and_parts (d == s) (h == g) yes' in
      subst (λ z. Keeps z (new d h)) (sym (put-there known s g k d h yes'))
      (subst (λ y. Keeps k (new y h)) (sym (eqb-true d s p.0)) (subst (λ y. Keeps k (new s y)) (sym (eqb-true h g p.1)) keeps))
  | inr no' ↦
      subst (λ z. Keeps z (new d h)) (sym (put-elsewhere known s g k d h no'))
      (subst (Keeps (known d h)) (sym (others d h no')) (holds d h))
]

-- ---- a command is performed

may-tell : (k t n : Telling) (e : Entry) → Tells k t → Answers t e n → FitsTelling k e × Tells (telling_after k e) n
may-tell None t n e x a = (tt, tt)
may-tell (Some blocks) t n (Reads row block) x a = let b = subst (λ y. Answers y (Reads row block) n) x a in (b.0, b.1)
may-tell (Some blocks) t n (Writes row block) x a = let b = subst (λ y. Answers y (Writes row block) n) x a in (tt, b)
may-tell (Some blocks) t n (Misses row) x a = (tt, subst (λ y. Answers y (Misses row) n) x a)
may-tell (Some blocks) t n Fails x a = (tt, tt)

-- what is known of a part that is there
there : (k t : Known) → Keeps (Some k) (Some t) → (t.promise ≡ k.promise) × Tells k.telling t.telling
there k t keeps =
    let same : t ≡ keeps.0 = some-inj t keeps.0 keeps.1 in
    (ap (λ (y : Known). y.promise) same ∙ keeps.2, subst (λ (y : Known). Tells k.telling y.telling) (sym same) keeps.3)

may : (k : Option Known) (t n : Known) (e : Entry) → Keeps k (Some t) → Answers t.telling e n.telling → n.promise ≡ t.promise
    → MayAnswer k e × Keeps (known_after k e) (Some n)
may None t n e keeps a p = absurd (none-not t (sym keeps))
may (Some k) t n e keeps a p =
    let x = there k t keeps in
    let r = may-tell k.telling t.telling n.telling e x.1 a in
    (r.0, (n, refl, p ∙ x.0, r.1))

promised-there : (k : Option Known) (t : Known) (c : Command) → Keeps k (Some t) → IsPromised k c
    → Covers t.promise c.row (length c.buffer)
promised-there None t c keeps p = absurd p
promised-there (Some k) t c keeps p = subst (λ y. Covers y c.row (length c.buffer)) (sym (there k t keeps).0) p

if-promised : (steady : Bool) (promise : Promise) (row len : ℕ) → Covers (promise_if steady promise) row len → Covers promise row len
if-promised true promise row len x = x
if-promised false promise row len x = let low = x.1 in absurd (omega arith)

pub does-there : {D : Type 0} (told : D → Telling) (promised : D → Promise) (parts : List (ServedPart D)) (at : ℕ) (before after : ServedPart D) (c : Command) (a : Completion)
    → position (is_of c.slot c.generation) parts ≡ Some at → get_or parts at before ≡ before
    → after.part.slot ≡ before.part.slot → after.part.generation ≡ before.part.generation → after.steady ≡ before.steady
    → Answers (told before.part.device) (entry_of c a) (told after.part.device)
    → promised after.part.device ≡ promised before.part.device
    → (Covers (promised before.part.device) c.row (length c.buffer) → IsOk a.result)
    → a.token ≡ c.token → a.slot ≡ c.slot → length (buffer_in a.result) ≡ length c.buffer
    → Does told promised c a parts (slice_set parts at after)
does-there told promised parts at before after c a place here slot generation steady did keeps-promise sound token own-slot same_length known holds =
    let p = position-Some (is_of c.slot c.generation) parts at before place in
    let was : is_of c.slot c.generation before ≡ true = ap (is_of c.slot c.generation) (sym here) ∙ p.1 in
    let is : is_of c.slot c.generation after ≡ true =
    ap (λ (y : ℕ). (y == c.slot) && (after.part.generation == c.generation)) slot
    ∙ ap (λ (y : ℕ). (before.part.slot == c.slot) && (y == c.generation)) generation ∙ was in
    let found-there : part_in told promised parts c.slot c.generation ≡ Some (known_of told promised before) =
    found told promised parts at before c.slot c.generation p.0 p.1 p.2 ∙ ap (λ (y : ServedPart _). Some (known_of told promised y)) here in
    let now : part_in told promised (slice_set parts at after) c.slot c.generation ≡ Some (known_of told promised after) =
    replaced told promised parts at before after c.slot c.generation p.0 is p.2 in
    let keeps = subst (Keeps (known c.slot c.generation)) found-there (holds c.slot c.generation) in
    let both = may (known c.slot c.generation) (known_of told promised before) (known_of told promised after) (entry_of c a) keeps did
    (ap (λ (y : Bool). promise_if y (promised after.part.device)) steady ∙ ap (promise_if before.steady) keeps-promise) in (
      record {
        token = token;
        slot = own-slot;
        same_length = same_length;
        honest = both.0;
        sound = λ x. sound (if-promised before.steady (promised before.part.device) c.row (length c.buffer)
            (promised-there (known c.slot c.generation) (known_of told promised before) c keeps x));
      },
      holds-put known (part_in told promised parts) (part_in told promised (slice_set parts at after)) c.slot c.generation
          (known_after (known c.slot c.generation) (entry_of c a)) holds
          (subst (Keeps (known_after (known c.slot c.generation) (entry_of c a))) (sym now) both.1)
          (λ d h ne. elsewhere told promised parts at before after d h p.0 (not-other after c.slot c.generation d h is ne)
          (ap (is_of d h) here ∙ not-other before c.slot c.generation d h was ne)),
    )

-- ---- a command is not performed

fits-fault : (k : Telling) → FitsTelling k Fails
fits-fault None = tt
fits-fault (Some blocks) = tt

tells-fault : (k t : Telling) → Tells (telling_after k Fails) t
tells-fault None t = tt
tells-fault (Some blocks) t = tt

fault-kept : (k f : Option Known) (c : Command) → Keeps k f
    → ((t : Known) → f ≡ Some t → Covers t.promise c.row (length c.buffer) → ⊥)
    → MayAnswer k Fails × Keeps (known_after k Fails) f × (IsPromised k c → ⊥)
fault-kept None f c keeps none = (tt, keeps, λ x. x)
fault-kept (Some k) f c keeps none = (
  fits-fault k.telling,
  (keeps.0, keeps.1, keeps.2, tells-fault k.telling keeps.0.telling),
  λ x. none keeps.0 keeps.1 (subst (λ y. Covers y c.row (length c.buffer)) (sym keeps.2) x),
)

does-gone : {D : Type 0} (told : D → Telling) (promised : D → Promise) (parts : List (ServedPart D)) (c : Command)
    → ((t : Known) → part_in told promised parts c.slot c.generation ≡ Some t → Covers t.promise c.row (length c.buffer) → ⊥)
    → Does told promised c (gone_for c) parts parts
does-gone told promised parts c none known holds =
    let kept = fault-kept (known c.slot c.generation) (part_in told promised parts c.slot c.generation) c (holds c.slot c.generation) none in (
      record { token = refl; slot = refl; same_length = refl; honest = kept.0; sound = λ x. absurd (kept.2 x) },
      holds-put known (part_in told promised parts) (part_in told promised parts) c.slot c.generation
          (known_after (known c.slot c.generation) Fails) holds kept.1 (λ d h ne. refl),
    )

-- where no part is there
pub gone-missing : {D : Type 0} (told : D → Telling) (promised : D → Promise) (parts : List (ServedPart D)) (c : Command)
    → position (is_of c.slot c.generation) parts ≡ None → Does told promised c (gone_for c) parts parts
gone-missing told promised parts c none =
    does-gone told promised parts c
    (λ t is _. none-not t (sym (none-there told promised parts c.slot c.generation none) ∙ is))

-- where the worker has stopped and the part isn't steady
pub gone-stopped : {D : Type 0} (told : D → Telling) (promised : D → Promise) (parts : List (ServedPart D)) (at : ℕ) (served : ServedPart D) (c : Command)
    → position (is_of c.slot c.generation) parts ≡ Some at → get_or parts at served ≡ served → served.steady ≡ false
    → Does told promised c (gone_for c) parts parts
gone-stopped told promised parts at served c place here steady =
    let p = position-Some (is_of c.slot c.generation) parts at served place in
    let there' : part_in told promised parts c.slot c.generation ≡ Some (known_of told promised served) =
    found told promised parts at served c.slot c.generation p.0 p.1 p.2 ∙ ap (λ (y : ServedPart _). Some (known_of told promised y)) here in
    does-gone told promised parts c
    (λ t is x. not-steady (promised served.part.device) c.row (length c.buffer)
    (subst (λ (b : Bool). Covers (promise_if b (promised served.part.device)) c.row (length c.buffer)) steady
    (subst (λ (y : Known). Covers y.promise c.row (length c.buffer)) (some-inj t (known_of told promised served) (sym is ∙ there')) x)))
  where
    not-steady : (promise : Promise) (row len : ℕ) → Covers (promise_if false promise) row len → ⊥
    not-steady promise row len x = let low = x.1 in omega arith

-- nothing else has changed by then
pub does-kept : {D : Type 0} (told : D → Telling) (promised : D → Promise) (c : Command) (a : Completion) (old new : List (ServedPart D))
    → new ≡ old → a ≡ gone_for c → Does told promised c (gone_for c) new new → Does told promised c a old new
does-kept told promised c a old new same is x =
    subst (λ y. Does told promised c y old new) (sym is) (subst (λ y. Does told promised c (gone_for c) y new) same x)

-- ---- a part is taken up

tells-own : (t : Telling) → Tells t t
tells-own None = tt
tells-own (Some blocks) = refl

keeps-own : (t : Known) → Keeps (Some t) (Some t)
keeps-own t = (t, refl, refl, tells-own t.telling)

pub takes-place : {D : Type 0} (told : D → Telling) (promised : D → Promise) (parts : List (ServedPart D)) (at : ℕ) (earlier served : ServedPart D)
    → position (is_of served.part.slot served.part.generation) parts ≡ Some at → get_or parts at earlier ≡ earlier
    → TakesUp told promised served parts (slice_set parts at served)
takes-place told promised parts at earlier served place here known holds =
    let s = served.part.slot in
    let g = served.part.generation in
    let p = position-Some (is_of s g) parts at earlier place in
    let was : is_of s g earlier ≡ true = ap (is_of s g) (sym here) ∙ p.1 in
    holds-put known (part_in told promised parts) (part_in told promised (slice_set parts at served)) s g (Some (known_of told promised served)) holds
    (subst (Keeps (Some (known_of told promised served))) (sym (replaced told promised parts at earlier served s g p.0 (own served) p.2)) (keeps-own (known_of told promised served)))
    (λ d h ne. elsewhere told promised parts at earlier served d h p.0 (not-other served s g d h (own served) ne)
    (ap (is_of d h) here ∙ not-other earlier s g d h was ne))

pub takes-after : {D : Type 0} (told : D → Telling) (promised : D → Promise) (parts : List (ServedPart D)) (served : ServedPart D)
    → position (is_of served.part.slot served.part.generation) parts ≡ None → TakesUp told promised served parts (parts ++ served ∷ [])
takes-after told promised parts served none known holds =
    let s = served.part.slot in
    let g = served.part.generation in
    holds-put known (part_in told promised parts) (part_in told promised (parts ++ served ∷ [])) s g (Some (known_of told promised served)) holds
    (subst (Keeps (Some (known_of told promised served))) (sym (tells-added told promised parts served (none-there told promised parts s g none))) (keeps-own (known_of told promised served)))
    (λ d h ne. others-added told promised parts served d h (not-other served s g d h (own served) ne))
