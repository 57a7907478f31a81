-- What calls at the register do in an array.
use Rattle.std.proofs.Common.{◌≡◌, ◌≢◌, ℕ, zero, suc, ◌+◌, ◌<◌, ◌≤◌, List, [], ◌∷◌, ◌++◌, map, Bool, true, false, inl, inr, refl, sym, ap, ◌∙◌, subst, arith, Option, Some, None, Result, Ok, Err, length, get_or, set, add-one}
use Rattle.std.specs.Prelude.{slice_get, slice_set, option_map}
use Rattle.std.proofs.lemmas.Option.{slice_get-map, slice_get_within, get_or_from_slice_get}
use Rattle.std.proofs.lemmas.List.{set-set, map-set, length-map}
use Rattle.r6_layout.specs.Shape.{Shape}
use Rattle.r6_world.specs.Geometries.{layout_of}
use Rattle.r6_world.specs.Registers.{Snapshot, RegisterCall, RegisterAnswer, Told, answer_to, register_after}
use Rattle.r6_world.specs.Laws.{IsOfOutside}
use Rattle.r6_core.specs.Shards.{CoreView, SameShard, call_of}
use Rattle.r6_world.specs.ShardStates as shards
use Rattle.r6_core.specs.Runs as runs
use Rattle.r6_core.specs.Runs.{Happening}
use Rattle.r6_array.specs.declared.change.Change.{Change}
use Rattle.r6_array.specs.Arrays.{ShardView, ArrayView, Has, with_shard}
use Rattle.r6_array.specs.Members.{unsettled, Agrees, seeing}
use Rattle.r6_array.specs.Runs.{GoesOn}
use Rattle.r6_array.specs.Effects.{all_unsettled, after_answer, IsNextChange, AgreesTo, UnsettlesOne, ComesFromOutside}
use Rattle.r6_array.specs.Inside.{IsArray}
use Rattle.r6_array.proofs.Going.{mapped-cases, tells, seen_goes, comes_in, goes-then}
use Rattle.r6_array.proofs.Calls.{array_with}
use Rattle.r6_array.proofs.Completions.{has_set, with_twice, unsettled_still}

-- the first so many elements changed
abbrev pub map_first : {A : Type 0} → (A → A) → ℕ → List A → List A
map_first f zero xs = xs
map_first f (suc i) [] = []
map_first f (suc i) (x ∷ xs) = f x ∷ map_first f i xs

pub map_first-all : {A : Type 0} (f : A → A) (i : ℕ) (xs : List A) → length xs ≤ i → map_first f i xs ≡ map f xs
map_first-all f zero [] h = refl
map_first-all f zero (x ∷ xs) h = absurd (omega arith)
map_first-all f (suc i) [] h = refl
map_first-all f (suc i) (x ∷ xs) h = ap (λ ys. f x ∷ ys) (map_first-all f i xs (omega arith))

pub map_first-length : {A : Type 0} (f : A → A) (i : ℕ) (xs : List A) → length (map_first f i xs) ≡ length xs
map_first-length f zero xs = refl
map_first-length f (suc i) [] = refl
map_first-length f (suc i) (x ∷ xs) = ap suc (map_first-length f i xs)

pub map_first-next : {A : Type 0} (f : A → A) (i : ℕ) (xs : List A) (x : A) → slice_get (map_first f i xs) i ≡ Some x → slice_set (map_first f i xs) i (f x) ≡ map_first f (suc i) xs
map_first-next f zero [] x e = absurd (Rattle.r6_world.proofs.Tables.None-not_Some x e)
map_first-next f zero (y ∷ xs) x e = ap (λ z. f z ∷ xs) (sym (Rattle.r6_world.proofs.Tables.Some-inj y x e))
map_first-next f (suc i) [] x e = absurd (Rattle.r6_world.proofs.Tables.None-not_Some x e)
map_first-next f (suc i) (y ∷ xs) x e = ap (λ ys. f y ∷ ys) (map_first-next f i xs x e)

pub unsettles_next : (a b new : ArrayView) (k : ℕ) → b ≡ record a { shards = map_first unsettled k a.shards } → UnsettlesOne b k new → new ≡ record a { shards = map_first unsettled (k + 1) a.shards }
unsettles_next a b new k e u =
    let there : slice_get (map_first unsettled k a.shards) k ≡ Some u.was = ap (λ (v : ArrayView). slice_get v.shards k) (sym e) ∙ u.there in
    u.new_is ∙ ap (λ (v : ArrayView). with_shard v k (unsettled u.was)) e
    ∙ ap (λ xs. record a { shards = xs }) (map_first-next unsettled k a.shards u.was there ∙ ap (λ m. map_first unsettled m a.shards) (sym (add-one k)))

pub unsettled_all : (a b : ArrayView) (k : ℕ) → b ≡ record a { shards = map_first unsettled k a.shards } → length a.shards ≤ k → b ≡ all_unsettled a
unsettled_all a b k e h = e ∙ ap (λ xs. record a { shards = xs }) (map_first-all unsettled k a.shards h)

pub first_length : (a b : ArrayView) (k : ℕ) → b ≡ record a { shards = map_first unsettled k a.shards } → length b.shards ≡ length a.shards
first_length a b k e = ap (λ (v : ArrayView). length v.shards) e ∙ map_first-length unsettled k a.shards

-- ---- from outside

pub comes_from : (a : ArrayView) (call : RegisterCall) (answer : RegisterAnswer) (register : Snapshot) (new : ArrayView) → IsOfOutside call → answer_to (layout_of a.shape) a.register call ≡ Ok answer
    → register ≡ register_after (layout_of a.shape) a.register call (Ok answer) → new ≡ all_unsettled (record a { register = register }) → ComesFromOutside a call answer new
comes_from a call answer register new outside is after e =
    let here = e ∙ ap (λ r. all_unsettled (record a { register = r })) after in
    record { answer_is = is; new_is = here; run = subst (GoesOn a (runs.Outside call ∷ [])) (sym here) (comes_in a call answer outside is) }

-- ---- changes

same_twice : (a b c : CoreView) → SameShard a b → SameShard b c → SameShard a c
same_twice a b c x y = (y.0 ∙ x.0, y.1 ∙ x.1)

abbrev happened : Change → Told → (middle core : CoreView) → Option shards.Call → (middle' new : CoreView) → List Happening
happened change answer middle core seen middle' new =
    runs.Tell change.shard (call_of change.call) answer middle core ∷ seeing change.shard seen middle' new ∷ []

array_unsettled : (shape : Shape) (shards : List ShardView) → IsArray shape shards → IsArray shape (map unsettled shards)
array_unsettled shape shards x =
    record {
      limits = x.limits;
      count = length-map shards unsettled ∙ x.count;
      own = λ n s e.
          let m = mapped-cases unsettled shards n s e in
          let o = x.own n m.0 m.1 in
          (ap (λ (v : ShardView). v.core.shape) m.2 ∙ o.0, ap (λ (v : ShardView). v.core.shard) m.2 ∙ o.1);
    }

pub agreed_to : (a : ArrayView) (change : Change) (answer : Told) (register : Snapshot) (t : ShardView) (new : ArrayView) → IsArray a.shape a.shards → (next : IsNextChange a change)
    → Agrees a.shape change.shard next.0 a.register change.call answer register t → new ≡ after_answer (record (with_shard a change.shard t) { register = register }) answer
    → AgreesTo a change answer new
agreed_to a change answer register t new arr next x here =
    record {
      next = next;
      now = t;
      register = register;
      agreed = x;
      new_is = here;
      run = subst (GoesOn a (happened change answer x.middle x.core x.sees.change x.sees.middle t.core)) (sym here) (of a change answer register next.0 t arr next.1 x);
    }
  where
    of : (a : ArrayView) (change : Change) (answer : Told) (register : Snapshot) (s t : ShardView) → IsArray a.shape a.shards → Has a change.shard s
        → (g : Agrees a.shape change.shard s a.register change.call answer register t)
        → GoesOn a (runs.Tell change.shard (call_of change.call) answer g.middle g.core ∷ seeing change.shard g.sees.change g.sees.middle t.core ∷ [])
        (after_answer (record (with_shard a change.shard t) { register = register }) answer)
    of a change (Err refusal) register s t arr has g =
        let n = change.shard in
        let half : ShardView = record { core = g.core; names = t.names; settled = false } in
        let b : ArrayView = record (with_shard a n half) { register = register } in
        subst (GoesOn a (happened change (Err refusal) g.middle g.core g.sees.change g.sees.middle t.core)) (ap (λ shards. record a { register = register; shards = shards }) (set-set a.shards n half t))
        (goes-then a b (with_shard b n t) (runs.Tell n (call_of change.call) (Err refusal) g.middle g.core ∷ []) (seeing n g.sees.change g.sees.middle t.core ∷ []) refl
        (tells a n s half (call_of change.call) (Err refusal) g.middle register arr has g.answer_is g.register_is g.taken g.told refl)
        (seen_goes b n half t (array_with a n s half arr has (same_twice s.core g.middle g.core g.taken.0 g.told.0)) (has_set a n s half has) g.sees.change g.sees.middle g.sees.seen
        (unsettled_still g.sees.change t.settled g.settled)))
    of a change (Ok answer) register s t arr has g =
        let n = change.shard in
        let half : ShardView = record { core = g.core; names = t.names; settled = false } in
        let c : ArrayView = record (with_shard a n half) { register = register } in
        let b : ArrayView = all_unsettled c in
        let there : Has b n half = slice_get-map unsettled (slice_set a.shards n half) n ∙ ap (option_map unsettled) (has_set a n s half has) in
        let own : unsettled t ≡ t = ap (λ e. record t { settled = e }) (sym g.settled) in
        let all : slice_set (map unsettled (slice_set a.shards n half)) n t ≡ map unsettled (slice_set a.shards n t) =
        ap (λ xs. slice_set xs n t) (map-set unsettled a.shards n half) ∙ set-set (map unsettled a.shards) n half t ∙ ap (slice_set (map unsettled a.shards) n) (sym own)
        ∙ sym (map-set unsettled a.shards n t) in
        subst (GoesOn a (happened change (Ok answer) g.middle g.core g.sees.change g.sees.middle t.core)) (ap (λ xs. record a { register = register; shards = xs }) all)
        (goes-then a b (with_shard b n t) (runs.Tell n (call_of change.call) (Ok answer) g.middle g.core ∷ []) (seeing n g.sees.change g.sees.middle t.core ∷ []) refl
        (tells a n s half (call_of change.call) (Ok answer) g.middle register arr has g.answer_is g.register_is g.taken g.told refl)
        (seen_goes b n half t (array_unsettled a.shape (slice_set a.shards n half) (array_with a n s half arr has (same_twice s.core g.middle g.core g.taken.0 g.told.0))) there
        g.sees.change g.sees.middle g.sees.seen (unsettled_still g.sees.change t.settled g.settled)))
