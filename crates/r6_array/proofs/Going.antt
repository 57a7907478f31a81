-- A run of cores goes on by the calls of an array.
use Rattle.std.proofs.Common.{◌≡◌, ◌≢◌, ℕ, ◌+◌, ◌<◌, List, [], ◌∷◌, ◌++◌, map, length, ◌⊎◌, Bool, true, false, inl, inr, refl, sym, ap, ◌∙◌, subst, arith, Option, Some, None, Ok, Err, get_or, set, length-set}
use Rattle.std.specs.Prelude.{slice_get, slice_set, option_map}
use Rattle.std.proofs.lemmas.Bool.{cases_eq}
use Rattle.std.proofs.lemmas.Option.{slice_get_within, slice_get-get_or, get_or_from_slice_get, slice_get-map}
use Rattle.std.proofs.lemmas.List.{get_or-set_same, get_or-set_other}
use Rattle.r6_layout.specs.Shape.{Shape}
use Rattle.r6_world.specs.Tables.{put}
use Rattle.r6_world.specs.Layouts.{Layout}
use Rattle.r6_world.specs.Geometries.{layout_of}
use Rattle.r6_world.specs.Registers.{Snapshot, RegisterCall, RegisterAnswer, Contended, Told as Answer, answer_to, register_after}
use Rattle.r6_world.specs.ShardStates as shards
use Rattle.r6_world.specs.Steps as steps
use Rattle.r6_world.specs.Steps.{Event, Submit, Submit_all, Deliver, Good, Error, Read_error, Look, Turn_started, Turn_skipped, Take_command, No_command, Take_call, No_call, Told, Take_reply, No_reply}
use Rattle.r6_world.specs.Worlds.{World, Devices, MayCome, IsAnswer, as_made, next, settles, settled_by}
use Rattle.r6_world.specs.Laws.{IsOfOutside}
use Rattle.r6_world.specs.Witness.{after_all}
use Rattle.r6_world.proofs.Tables.{put-same, put-other, Some-inj, None-not_Some}
use Rattle.r6_core.specs.Shards.{CoreView, Step}
use Rattle.r6_core.specs.Runs.{Happening, Call, Perform, Tell, Outside, Moment, moment_of, cores_behind, IsShard, CoresRun}
use Rattle.r6_array.specs.Arrays.{ShardView, ArrayView, Has, with_shard}
use Rattle.r6_array.specs.Members.{IsSeen, seeing, unsettled}
use Rattle.r6_array.specs.Effects.{all_unsettled, after_answer}
use Rattle.r6_array.specs.Runs.{HasComeTo, moments_of, IsHonest, AreHonest, GoesOn}
use Rattle.r6_array.specs.Inside.{IsArray}

-- ---- lists

-- what stands in a list with one exchanged
pub set-cases : {A : Type 0} (xs : List A) (n : ℕ) (x : A) (k : ℕ) (y : A) → slice_get (slice_set xs n x) k ≡ Some y → ((k ≡ n) × (y ≡ x)) ⊎ ((k ≢ n) × (slice_get xs k ≡ Some y))
set-cases xs n x k y e =
    let within : k < length xs = subst (λ m. k < m) (length-set xs n x) (slice_get_within (slice_set xs n x) k y e) in
    elim (cases_eq k n) [
      | inl same ↦ inl (
        same,
        sym (get_or_from_slice_get (slice_set xs n x) k y x e) ∙ ap (λ i. get_or (slice_set xs n x) i x) same
            ∙ get_or-set_same xs n x x (subst (λ i. i < length xs) same within),
      )
      | inr ne ↦ inr (
        ne,
        slice_get-get_or xs k y within ∙ ap Some (sym (get_or-set_other xs n k x y ne) ∙ get_or_from_slice_get (slice_set xs n x) k y y e),
      )
    ]

-- the shard with this number stays so
pub is_array-with : (shape : Shape) (shards : List ShardView) (n : ℕ) (s t : ShardView) → IsArray shape shards → slice_get shards n ≡ Some s → t.core.shape ≡ s.core.shape → t.core.shard ≡ s.core.shard
    → IsArray shape (slice_set shards n t)
is_array-with shape shards n s t x has same_shape same_shard =
    record {
      limits = x.limits;
      count = length-set shards n t ∙ x.count;
      own = λ k y e. elim (set-cases shards n t k y e) [
        | inl p ↦ let o = x.own n s has in (
          ap (λ (v : ShardView). v.core.shape) p.1 ∙ same_shape ∙ o.0,
          ap (λ (v : ShardView). v.core.shard) p.1 ∙ same_shard ∙ o.1 ∙ sym p.0,
        )
        | inr p ↦ x.own k y p.1
      ];
    }

-- ---- one run behind another

later : (ℕ → Devices) → List Happening → ℕ → Devices
later noise [] = noise
later noise (h ∷ hs) = later (λ k. noise (k + 1)) hs

moments-append : (noise : ℕ → Devices) (a b : List Happening) → moments_of noise (a ++ b) ≡ moments_of noise a ++ moments_of (later noise a) b
unfolding later
moments-append noise [] b = refl
moments-append noise (h ∷ a) b = ap (λ ms. record { happening = h; noise = noise 0 } ∷ ms) (moments-append (λ k. noise (k + 1)) a b)

pub cores-append : (cores : ℕ → CoreView) (a b : List Moment) → cores_behind cores (a ++ b) ≡ cores_behind (cores_behind cores a) b
cores-append cores [] b = refl
cores-append cores (m ∷ a) b = cores-append (Rattle.r6_core.specs.Runs.cores_after cores m.happening) a b

world-append : (l : Layout) (w : World) (a b : List Moment) → after_all l w (map moment_of (a ++ b)) ≡ after_all l (after_all l w (map moment_of a)) (map moment_of b)
world-append l w [] b = refl
world-append l w (m ∷ a) b = world-append l (next l w (moment_of m)) a b

pub run-append : (l : Layout) (Ours : ℕ → Type 0) (Comes : RegisterCall → Type 0) (w : World) (cores : ℕ → CoreView) (a b : List Moment) → CoresRun l Ours Comes w cores a
    → CoresRun l Ours Comes (after_all l w (map moment_of a)) (cores_behind cores a) b → CoresRun l Ours Comes w cores (a ++ b)
run-append l Ours Comes w cores [] b r s = s
run-append l Ours Comes w cores (m ∷ a) b r s =
    (r.0, run-append l Ours Comes (next l w (moment_of m)) (Rattle.r6_core.specs.Runs.cores_after cores m.happening) a b r.1 s)

pub honest-front : (l : Layout) (w : World) (a b : List Moment) → AreHonest l w (a ++ b) → AreHonest l w a
honest-front l w [] b h = record {}
honest-front l w (m ∷ a) b h = (h.0, honest-front l (next l w (moment_of m)) a b h.1)

pub honest-back : (l : Layout) (w : World) (a b : List Moment) → AreHonest l w (a ++ b) → AreHonest l (after_all l w (map moment_of a)) b
honest-back l w [] b h = h
honest-back l w (m ∷ a) b h = honest-back l (next l w (moment_of m)) a b h.1

-- with these happenings, over honest devices, a run goes on from where the one holds, and comes to where the other does
abbrev pub GoesFrom : Layout → (Ours : ℕ → Type 0) → (Comes : RegisterCall → Type 0) → (World → (ℕ → CoreView) → Type 0) → List Happening → (World → (ℕ → CoreView) → Type 0) → Type 0
GoesFrom l Ours Comes From happenings To =
    (w : World) (cores : ℕ → CoreView) → From w cores → (noise : ℕ → Devices) → AreHonest l w (moments_of noise happenings)
    → CoresRun l Ours Comes w cores (moments_of noise happenings)
    × To (after_all l w (map moment_of (moments_of noise happenings))) (cores_behind cores (moments_of noise happenings))

pub goes-append : (l : Layout) (Ours : ℕ → Type 0) (Comes : RegisterCall → Type 0) (From Mid To : World → (ℕ → CoreView) → Type 0) (a b : List Happening) → GoesFrom l Ours Comes From a Mid
    → GoesFrom l Ours Comes Mid b To → GoesFrom l Ours Comes From (a ++ b) To
goes-append l Ours Comes From Mid To a b first second w cores at noise honest =
    let Goal : List Moment → Type 0 = λ ms.
    AreHonest l w ms → CoresRun l Ours Comes w cores ms × To (after_all l w (map moment_of ms)) (cores_behind cores ms) in
    let goal : Goal (moments_of noise a ++ moments_of (later noise a) b) = λ h.
    let x = first w cores at noise (honest-front l w (moments_of noise a) (moments_of (later noise a) b) h) in
    let y = second (after_all l w (map moment_of (moments_of noise a))) (cores_behind cores (moments_of noise a)) x.1 (later noise a)
    (honest-back l w (moments_of noise a) (moments_of (later noise a) b) h) in (
      run-append l Ours Comes w cores (moments_of noise a) (moments_of (later noise a) b) x.0 y.0,
      subst (λ v. To v (cores_behind cores (moments_of noise a ++ moments_of (later noise a) b))) (sym (world-append l w (moments_of noise a) (moments_of (later noise a) b)))
          (subst (λ v. To (after_all l (after_all l w (map moment_of (moments_of noise a))) (map moment_of (moments_of (later noise a) b))) v)
          (sym (cores-append cores (moments_of noise a) (moments_of (later noise a) b))) y.1),
    ) in
    subst Goal (sym (moments-append noise a b)) goal honest

-- the same, in an array of this shape
abbrev pub GoesIn : Shape → ArrayView → List Happening → ArrayView → Type 0
GoesIn shape old happenings new = GoesFrom (layout_of shape) (IsShard shape) IsOfOutside (HasComeTo old) happenings (HasComeTo new)

pub goes-then : (old mid new : ArrayView) (a b : List Happening) → mid.shape ≡ old.shape → GoesOn old a mid → GoesOn mid b new → GoesOn old (a ++ b) new
goes-then old mid new a b same first second =
    goes-append (layout_of old.shape) (IsShard old.shape) IsOfOutside (HasComeTo old) (HasComeTo mid) (HasComeTo new) a b first (subst (λ shape. GoesIn shape mid b new) same second)

pub goes-nowhere : (a : ArrayView) → GoesOn a [] a
goes-nowhere a w cores at noise honest = (record {}, at)

-- ---- a call of a core

-- it may come whatever the world, with the register as the array has it
abbrev pub IsPlain : Snapshot → Event → Type 0
IsPlain register (Look seen) = seen ≡ register
IsPlain register (Take_call call) = ⊥
IsPlain register (Told call answer) = ⊥
IsPlain register event = record {}

pub may_come : (register : Snapshot) (w : World) (n : ℕ) (event : Event) (new : CoreView) → IsPlain register event → w.register ≡ register → IsHonest w (Call n event new) → MayCome w n event
may_come register w n (Submit op id) new p e h = record {}
may_come register w n (Submit_all ops first) new p e h = record {}
may_come register w n (Deliver token (Good b) receipt) new p e h = h
may_come register w n (Deliver token Error receipt) new p e h = record {}
may_come register w n (Deliver token Read_error receipt) new p e h = record {}
may_come register w n (Look seen) new p e h = p ∙ sym e
may_come register w n (Turn_started task) new p e h = record {}
may_come register w n (Turn_skipped task row) new p e h = record {}
may_come register w n (Take_command token c) new p e h = record {}
may_come register w n No_command new p e h = record {}
may_come register w n (Take_call call) new p e h = absurd p
may_come register w n No_call new p e h = record {}
may_come register w n (Told call answer) new p e h = absurd p
may_come register w n (Take_reply id reply) new p e h = record {}
may_come register w n No_reply new p e h = record {}

pub within : (old : ArrayView) (n : ℕ) (s : ShardView) → IsArray old.shape old.shards → Has old n s → n < old.shape.shards
within old n s x has = subst (λ m. n < m) x.count (slice_get_within old.shards n s has)

pub called : (old : ArrayView) (n : ℕ) (s t : ShardView) (event : Event) → IsArray old.shape old.shards → Has old n s → IsPlain old.register event → Step s.core event t.core
    → t.settled ≡ settles event s.settled → GoesOn old (Call n event t.core ∷ []) (with_shard old n t)
called old n s t event x has plain step settled w cores at noise honest = (
  ((within old n s x has, may_come old.register w n event t.core plain at.register honest.0, subst (λ c. Step c event t.core) (sym (at.cores_are n s has)) step), record {}),
  record {
    register = at.register;
    cores_are = λ k y e. elim (set-cases old.shards n t k y e) [
      | inl p ↦ put-same cores n t.core k p.0 ∙ ap (λ (v : ShardView). v.core) (sym p.1)
      | inr p ↦ put-other cores n t.core k p.0 ∙ at.cores_are k y p.1
    ];
    settled = λ k y e. elim (set-cases old.shards n t k y e) [
      | inl p ↦
          put-same w.settled n (settles event (w.settled n)) k p.0 ∙ ap (settles event) (at.settled n s has) ∙ sym settled ∙ ap (λ (v : ShardView). v.settled) (sym p.1)
      | inr p ↦ put-other w.settled n (settles event (w.settled n)) k p.0 ∙ at.settled k y p.1
    ];
  },
)

-- a core's next call is taken and put back, since other calls came between
pub put_back_goes : (old : ArrayView) (n : ℕ) (s t : ShardView) (call : shards.Call) (middle : CoreView) → IsArray old.shape old.shards → Has old n s → Step s.core (Take_call call) middle
    → Step middle (Told call (Err Contended)) t.core → t.settled ≡ false → GoesOn old (Tell n call (Err Contended) middle t.core ∷ []) (with_shard old n t)
put_back_goes old n s t call middle x has take tell settled w cores at noise honest = (
  ((within old n s x has, inr refl, subst (λ c. Step c (Take_call call) middle) (sym (at.cores_are n s has)) take, tell), record {}),
  record {
    register = at.register;
    cores_are = λ k y e. elim (set-cases old.shards n t k y e) [
      | inl p ↦ put-same cores n t.core k p.0 ∙ ap (λ (v : ShardView). v.core) (sym p.1)
      | inr p ↦ put-other cores n t.core k p.0 ∙ at.cores_are k y p.1
    ];
    settled = λ k y e. elim (set-cases old.shards n t k y e) [
      | inl p ↦ put-same w.settled n false k p.0 ∙ sym settled ∙ ap (λ (v : ShardView). v.settled) (sym p.1)
      | inr p ↦ put-other w.settled n false k p.0 ∙ at.settled k y p.1
    ];
  },
)

-- what is at work is no matter of the run
pub at_work-goes : (old new : ArrayView) (happenings : List Happening) (at_work : List ℕ) → GoesOn old happenings new → GoesOn old happenings (record new { at_work = at_work })
at_work-goes old new happenings at_work goes w cores at noise honest =
    let x = goes w cores at noise honest in
    (x.0, record { register = x.1.register; cores_are = x.1.cores_are; settled = x.1.settled })

-- its next call is seen
abbrev pub still_settled : Option shards.Call → Bool → Bool
still_settled None settled = settled
still_settled (Some call) settled = false

pub seen_goes : (old : ArrayView) (n : ℕ) (s t : ShardView) → IsArray old.shape old.shards → Has old n s → (change : Option shards.Call) (middle : CoreView) → IsSeen s.core change middle t.core
    → t.settled ≡ still_settled change s.settled → GoesOn old (seeing n change middle t.core ∷ []) (with_shard old n t)
seen_goes old n s t x has None middle seen settled = called old n s t No_call x has (record {}) seen settled
seen_goes old n s t x has (Some call) middle seen settled = put_back_goes old n s t call middle x has seen.0 seen.1 settled

-- ---- calls at the register

pub mapped-cases : {A B : Type 0} (f : A → B) (xs : List A) (k : ℕ) (y : B) → slice_get (map f xs) k ≡ Some y → (x : A) × (slice_get xs k ≡ Some x) × (y ≡ f x)
mapped-cases {A = A} f xs k y e = of (slice_get xs k) refl
  where
    of : (o : Option A) → slice_get xs k ≡ o → (x : A) × (slice_get xs k ≡ Some x) × (y ≡ f x)
    of None g = absurd (None-not_Some y (sym (slice_get-map f xs k ∙ ap (option_map f) g) ∙ e))
    of (Some x) g = (x, g, sym (Some-inj (f x) y (sym (slice_get-map f xs k ∙ ap (option_map f) g) ∙ e)))

-- a core's next call is made and told
pub tells : (old : ArrayView) (n : ℕ) (s t : ShardView) (call : shards.Call) (answer : Answer) (middle : CoreView) (register : Snapshot) → IsArray old.shape old.shards → Has old n s
    → answer ≡ answer_to (layout_of old.shape) old.register (as_made n call) → register ≡ register_after (layout_of old.shape) old.register (as_made n call) answer
    → Step s.core (Take_call call) middle → Step middle (Told call answer) t.core → t.settled ≡ false
    → GoesOn old (Tell n call answer middle t.core ∷ []) (after_answer (record (with_shard old n t) { register = register }) answer)
tells old n s t call (Err refusal) middle register x has is after take tell settled w cores at noise honest = (
  (
    (
      within old n s x has,
      inl (is ∙ ap (λ r. answer_to (layout_of old.shape) r (as_made n call)) (sym at.register)),
      subst (λ c. Step c (Take_call call) middle) (sym (at.cores_are n s has)) take,
      tell,
    ),
    record {},
  ),
  record {
    register = at.register ∙ sym after;
    cores_are = λ k y e. elim (set-cases old.shards n t k y e) [
      | inl p ↦ put-same cores n t.core k p.0 ∙ ap (λ (v : ShardView). v.core) (sym p.1)
      | inr p ↦ put-other cores n t.core k p.0 ∙ at.cores_are k y p.1
    ];
    settled = λ k y e. elim (set-cases old.shards n t k y e) [
      | inl p ↦ put-same w.settled n false k p.0 ∙ sym settled ∙ ap (λ (v : ShardView). v.settled) (sym p.1)
      | inr p ↦ put-other w.settled n false k p.0 ∙ at.settled k y p.1
    ];
  },
)
tells old n s t call (Ok answer) middle register x has is after take tell settled w cores at noise honest = (
  (
    (
      within old n s x has,
      inl (is ∙ ap (λ r. answer_to (layout_of old.shape) r (as_made n call)) (sym at.register)),
      subst (λ c. Step c (Take_call call) middle) (sym (at.cores_are n s has)) take,
      tell,
    ),
    record {},
  ),
  record {
    register = ap (λ r. register_after (layout_of old.shape) r (as_made n call) (Ok answer)) at.register ∙ sym after;
    cores_are = λ k y e.
        let m = mapped-cases unsettled (slice_set old.shards n t) k y e in
        elim (set-cases old.shards n t k m.0 m.1) [
          | inl p ↦ put-same cores n t.core k p.0 ∙ ap (λ (v : ShardView). v.core) (sym p.1) ∙ ap (λ (v : ShardView). v.core) (sym m.2)
          | inr p ↦ put-other cores n t.core k p.0 ∙ at.cores_are k m.0 p.1 ∙ ap (λ (v : ShardView). v.core) (sym m.2)
        ];
    settled = λ k y e. let m = mapped-cases unsettled (slice_set old.shards n t) k y e in ap (λ (v : ShardView). v.settled) (sym m.2);
  },
)

-- a call comes from outside, and is taken
pub comes_in : (old : ArrayView) (call : RegisterCall) (answer : RegisterAnswer) → IsOfOutside call → answer_to (layout_of old.shape) old.register call ≡ Ok answer
    → GoesOn old (Outside call ∷ []) (all_unsettled (record old { register = register_after (layout_of old.shape) old.register call (Ok answer) }))
comes_in old call answer outside is w cores at noise honest =
    let l = layout_of old.shape in
    let answered : answer_to l w.register call ≡ Ok answer = ap (λ r. answer_to l r call) at.register ∙ is in (
      (outside, record {}),
      record {
        register = ap (register_after l w.register call) answered ∙ ap (λ r. register_after l r call (Ok answer)) at.register;
        cores_are = λ k y e. let m = mapped-cases unsettled old.shards k y e in at.cores_are k m.0 m.1 ∙ ap (λ (v : ShardView). v.core) (sym m.2);
        settled = λ k y e.
            let m = mapped-cases unsettled old.shards k y e in
            ap (λ a. settled_by a w.settled k) answered ∙ ap (λ (v : ShardView). v.settled) (sym m.2);
      },
    )
