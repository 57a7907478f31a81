-- A run of cores goes on by the calls of a handle of one shard.
use Rattle.std.proofs.Common.{◌≡◌, ◌≢◌, ℕ, ◌<◌, List, [], ◌∷◌, ◌++◌, map, Bool, refl, sym, ap, ◌∙◌, subst, Option, Some, None, Ok, Err, inl, inr}
use Rattle.r6_layout.specs.Shape.{Shape}
use Rattle.r6_world.specs.Geometries.{layout_of}
use Rattle.r6_world.specs.Registers.{Snapshot, RegisterCall, RegisterAnswer, Contended, Told as Answer, answer_to, register_after}
use Rattle.r6_world.specs.ShardStates as shards
use Rattle.r6_world.specs.Steps.{Event, No_call, Take_call, Told}
use Rattle.r6_world.specs.Worlds.{World, Devices, as_made}
use Rattle.r6_world.specs.Laws.{IsOfOutside, IsByAnyone}
use Rattle.r6_world.specs.Witness.{after_all}
use Rattle.r6_world.proofs.Tables.{put-same, put-other}
use Rattle.r6_core.specs.Shards.{CoreView, Step, SameShard}
use Rattle.r6_core.specs.Runs.{Happening, Call, Tell, Outside, moment_of, cores_behind, IsShard, IsThis, CoresRun}
use Rattle.r6_array.specs.Arrays.{ShardView}
use Rattle.r6_array.specs.Members.{IsSeen, Sees, seeing}
use Rattle.r6_array.specs.Runs.{moments_of, AreHonest}
use Rattle.r6_array.specs.Handles.{HandleView, core_in, number_of}
use Rattle.r6_array.specs.HandleRuns.{IsBeside, GoesOnAmong, GoesOnBeside}
use Rattle.r6_array.proofs.Going.{GoesFrom, goes-append, IsPlain, may_come}

-- ---- one run behind another

-- the run comes there, and the cores of the others are these
abbrev LeavesOthers : ℕ → (ℕ → CoreView) → HandleView → Snapshot → World → (ℕ → CoreView) → Type 0
LeavesOthers n before h register w cores = IsBeside h register w cores × ((m : ℕ) → m ≢ n → cores m ≡ before m)

-- what a call says of a run, in a shard of this number and an array of this shape
abbrev pub GoesBy : Shape → ℕ → (Ours : ℕ → Type 0) → (Comes : RegisterCall → Type 0) → HandleView → Snapshot → List Happening → HandleView → Snapshot → Type 0
GoesBy shape n Ours Comes old register happenings new register' =
    (w : World) (cores : ℕ → CoreView) → IsBeside old register w cores → (noise : ℕ → Devices)
    → AreHonest (layout_of shape) w (moments_of noise happenings)
    → CoresRun (layout_of shape) Ours Comes w cores (moments_of noise happenings)
    × IsBeside new register' (after_all (layout_of shape) w (map moment_of (moments_of noise happenings))) (cores_behind cores (moments_of noise happenings))
    × ((m : ℕ) → m ≢ n → cores_behind cores (moments_of noise happenings) m ≡ cores m)

goes_from : (shape : Shape) (n : ℕ) (Ours : ℕ → Type 0) (Comes : RegisterCall → Type 0) (old new : HandleView) (r r' : Snapshot) (hs : List Happening) → GoesBy shape n Ours Comes old r hs new r'
    → (before : ℕ → CoreView) → GoesFrom (layout_of shape) Ours Comes (LeavesOthers n before old r) hs (LeavesOthers n before new r')
goes_from shape n Ours Comes old new r r' hs goes before w cores at noise honest =
    let g = goes w cores at.0 noise honest in
    (g.0, (g.1, λ m ne. g.2 m ne ∙ at.1 m ne))

pub goes-then : (Ours : ℕ → Type 0) (Comes : RegisterCall → Type 0) (a b c : HandleView) (r s t : Snapshot) (x y : List Happening) → GoesOnAmong Ours Comes a r x b s → GoesOnAmong Ours Comes b s y c t
    → GoesOnAmong Ours Comes a r (x ++ y) c t
goes-then Ours Comes a b c r s t x y first second =
    let shape = (core_in a).shape in
    let n = number_of a in
    let second' : GoesBy shape n Ours Comes b s y c t =
    subst (λ k. GoesBy shape k Ours Comes b s y c t) first.0.1 (subst (λ (sh : Shape). GoesBy sh (number_of b) Ours Comes b s y c t) first.0.0 second.1) in (
      (second.0.0 ∙ first.0.0, second.0.1 ∙ first.0.1),
      λ w cores at noise honest.
          let g = goes-append (layout_of shape) Ours Comes (LeavesOthers n cores a r) (LeavesOthers n cores b s) (LeavesOthers n cores c t) x y
          (goes_from shape n Ours Comes a b r s x first.1 cores) (goes_from shape n Ours Comes b c s t y second' cores) w cores (at, λ m ne. refl) noise honest in
          (g.0, g.1.0, g.1.1),
    )

-- ---- calls of the core

called : (Ours : ℕ → Type 0) (Comes : RegisterCall → Type 0) (old new : HandleView) (register : Snapshot) (event : Event) → Ours (number_of old) → IsPlain register event
    → Step (core_in old) event (core_in new) → GoesOnAmong Ours Comes old register (Call (number_of old) event (core_in new) ∷ []) new register
called Ours Comes old new register event own plain step = (
  step.0,
  λ w cores at noise honest. (
    ((own, may_come register w (number_of old) event (core_in new) plain at.register_is honest.0, subst (λ c. Step c event (core_in new)) (sym at.core_is) step), record {}),
    record { register_is = at.register_is; core_is = put-same cores (number_of old) (core_in new) (number_of new) step.0.1 },
    λ m ne. put-other cores (number_of old) (core_in new) m ne,
  ),
)

-- a call is taken and told
same_told : (a b c : CoreView) (call : shards.Call) (answer : Answer) → Step a (Take_call call) b → Step b (Told call answer) c → SameShard a c
same_told a b c call answer take tell = (tell.0.0 ∙ take.0.0, tell.0.1 ∙ take.0.1)

put_back : (Ours : ℕ → Type 0) (Comes : RegisterCall → Type 0) (old new : HandleView) (register : Snapshot) (call : shards.Call) (middle : CoreView) → Ours (number_of old)
    → Step (core_in old) (Take_call call) middle → Step middle (Told call (Err Contended)) (core_in new)
    → GoesOnAmong Ours Comes old register (Tell (number_of old) call (Err Contended) middle (core_in new) ∷ []) new register
put_back Ours Comes old new register call middle own take tell =
    let same = same_told (core_in old) middle (core_in new) call (Err Contended) take tell in (
      same,
      λ w cores at noise honest. (
        ((own, inr refl, subst (λ c. Step c (Take_call call) middle) (sym at.core_is) take, tell), record {}),
        record { register_is = at.register_is; core_is = put-same cores (number_of old) (core_in new) (number_of new) same.1 },
        λ m ne. put-other cores (number_of old) (core_in new) m ne,
      ),
    )

-- its next call is seen
seen : (Ours : ℕ → Type 0) (Comes : RegisterCall → Type 0) (old new : HandleView) (register : Snapshot) (n : ℕ) → number_of old ≡ n → Ours n → (change : Option shards.Call) (middle : CoreView)
    → IsSeen (core_in old) change middle (core_in new) → GoesOnAmong Ours Comes old register (seeing n change middle (core_in new) ∷ []) new register
seen Ours Comes old new register n is own change middle x =
    subst (λ k. GoesOnAmong Ours Comes old register (seeing k change middle (core_in new) ∷ []) new register) is (of change x)
  where
    of : (change : Option shards.Call) → IsSeen (core_in old) change middle (core_in new)
        → GoesOnAmong Ours Comes old register (seeing (number_of old) change middle (core_in new) ∷ []) new register
    of None x = called Ours Comes old new register No_call (subst Ours (sym is) own) (record {}) x
    of (Some call) x = put_back Ours Comes old new register call middle (subst Ours (sym is) own) x.0 x.1

-- a shard with another core
abbrev pub with_core : HandleView → CoreView → HandleView
with_core h core = record h { shard = record { core = core; names = h.shard.names; settled = h.shard.settled } }

called_and_seen : (Ours : ℕ → Type 0) (Comes : RegisterCall → Type 0) (old new : HandleView) (mid : CoreView) (register : Snapshot) (event : Event) → Ours (number_of old) → IsPlain register event
    → Step (core_in old) event mid → (x : Sees mid (core_in new))
    → GoesOnAmong Ours Comes old register (Call (number_of old) event mid ∷ seeing (number_of old) x.change x.middle (core_in new) ∷ []) new register
called_and_seen Ours Comes old new mid register event own plain step x =
    let half = with_core old mid in
    goes-then Ours Comes old half new register register register (Call (number_of old) event mid ∷ []) (seeing (number_of old) x.change x.middle (core_in new) ∷ [])
    (called Ours Comes old half register event own plain step) (seen Ours Comes half new register (number_of old) step.0.1 own x.change x.middle x.seen)

-- its next call is made and told
tells : (Ours : ℕ → Type 0) (Comes : RegisterCall → Type 0) (old new : HandleView) (register register' : Snapshot) (call : shards.Call) (answer : Answer) (middle : CoreView) → Ours (number_of old)
    → answer ≡ answer_to (layout_of (core_in old).shape) register (as_made (number_of old) call)
    → register' ≡ register_after (layout_of (core_in old).shape) register (as_made (number_of old) call) answer
    → Step (core_in old) (Take_call call) middle → Step middle (Told call answer) (core_in new)
    → GoesOnAmong Ours Comes old register (Tell (number_of old) call answer middle (core_in new) ∷ []) new register'
tells Ours Comes old new register register' call (Err refusal) middle own is after take tell =
    let same = same_told (core_in old) middle (core_in new) call (Err refusal) take tell in (
      same,
      λ w cores at noise honest. (
        (
          (
            own,
            inl (is ∙ ap (λ r. answer_to (layout_of (core_in old).shape) r (as_made (number_of old) call)) (sym at.register_is)),
            subst (λ c. Step c (Take_call call) middle) (sym at.core_is) take,
            tell,
          ),
          record {},
        ),
        record { register_is = at.register_is ∙ sym after; core_is = put-same cores (number_of old) (core_in new) (number_of new) same.1 },
        λ m ne. put-other cores (number_of old) (core_in new) m ne,
      ),
    )
tells Ours Comes old new register register' call (Ok answer) middle own is after take tell =
    let same = same_told (core_in old) middle (core_in new) call (Ok answer) take tell in (
      same,
      λ w cores at noise honest. (
        (
          (
            own,
            inl (is ∙ ap (λ r. answer_to (layout_of (core_in old).shape) r (as_made (number_of old) call)) (sym at.register_is)),
            subst (λ c. Step c (Take_call call) middle) (sym at.core_is) take,
            tell,
          ),
          record {},
        ),
        record {
          register_is = ap (λ r. register_after (layout_of (core_in old).shape) r (as_made (number_of old) call) (Ok answer)) at.register_is ∙ sym after;
          core_is = put-same cores (number_of old) (core_in new) (number_of new) same.1;
        },
        λ m ne. put-other cores (number_of old) (core_in new) m ne,
      ),
    )

told_and_seen : (Ours : ℕ → Type 0) (Comes : RegisterCall → Type 0) (old new : HandleView) (mid : CoreView) (register register' : Snapshot) (call : shards.Call) (answer : Answer) (middle : CoreView)
    → Ours (number_of old) → answer ≡ answer_to (layout_of (core_in old).shape) register (as_made (number_of old) call)
    → register' ≡ register_after (layout_of (core_in old).shape) register (as_made (number_of old) call) answer
    → Step (core_in old) (Take_call call) middle → Step middle (Told call answer) mid → (x : Sees mid (core_in new))
    → GoesOnAmong Ours Comes old register (Tell (number_of old) call answer middle mid ∷ seeing (number_of old) x.change x.middle (core_in new) ∷ []) new register'
told_and_seen Ours Comes old new mid register register' call answer middle own is after take tell x =
    let half = with_core old mid in
    goes-then Ours Comes old half new register register' register' (Tell (number_of old) call answer middle mid ∷ []) (seeing (number_of old) x.change x.middle (core_in new) ∷ [])
    (tells Ours Comes old half register register' call answer middle own is after take tell)
    (seen Ours Comes half new register' (number_of old) (same_told (core_in old) middle mid call answer take tell).1 own x.change x.middle x.seen)

-- ---- in both runs

pub beside_call : (old new : HandleView) (register : Snapshot) (event : Event) → number_of old < (core_in old).shape.shards → IsPlain register event → Step (core_in old) event (core_in new)
    → GoesOnBeside old register (Call (number_of old) event (core_in new) ∷ []) new register
beside_call old new register event there plain step = (
  called (IsThis (number_of old)) IsByAnyone old new register event refl plain step,
  called (IsShard (core_in old).shape) IsOfOutside old new register event there plain step,
)

pub beside_seen : (old new : HandleView) (mid : CoreView) (register : Snapshot) (event : Event) → number_of old < (core_in old).shape.shards → IsPlain register event → Step (core_in old) event mid
    → (x : Sees mid (core_in new)) → GoesOnBeside old register (Call (number_of old) event mid ∷ seeing (number_of old) x.change x.middle (core_in new) ∷ []) new register
beside_seen old new mid register event there plain step x = (
  called_and_seen (IsThis (number_of old)) IsByAnyone old new mid register event refl plain step x,
  called_and_seen (IsShard (core_in old).shape) IsOfOutside old new mid register event there plain step x,
)

pub beside_told : (old new : HandleView) (mid : CoreView) (register register' : Snapshot) (call : shards.Call) (answer : Answer) (middle : CoreView) → number_of old < (core_in old).shape.shards
    → answer ≡ answer_to (layout_of (core_in old).shape) register (as_made (number_of old) call)
    → register' ≡ register_after (layout_of (core_in old).shape) register (as_made (number_of old) call) answer
    → Step (core_in old) (Take_call call) middle → Step middle (Told call answer) mid → (x : Sees mid (core_in new))
    → GoesOnBeside old register (Tell (number_of old) call answer middle mid ∷ seeing (number_of old) x.change x.middle (core_in new) ∷ []) new register'
beside_told old new mid register register' call answer middle there is after take tell x = (
  told_and_seen (IsThis (number_of old)) IsByAnyone old new mid register register' call answer middle refl is after take tell x,
  told_and_seen (IsShard (core_in old).shape) IsOfOutside old new mid register register' call answer middle there is after take tell x,
)

-- ---- from outside

comes_in : (Ours : ℕ → Type 0) (Comes : RegisterCall → Type 0) (h : HandleView) (register : Snapshot) (call : RegisterCall) (answer : RegisterAnswer) → Comes call
    → answer_to (layout_of (core_in h).shape) register call ≡ Ok answer
    → GoesOnAmong Ours Comes h register (Outside call ∷ []) h (register_after (layout_of (core_in h).shape) register call (Ok answer))
comes_in Ours Comes h register call answer comes is = (
  (refl, refl),
  λ w cores at noise honest.
      let l = layout_of (core_in h).shape in
      let answered : answer_to l w.register call ≡ Ok answer = ap (λ r. answer_to l r call) at.register_is ∙ is in (
        (comes, record {}),
        record {
          register_is = ap (register_after l w.register call) answered ∙ ap (λ r. register_after l r call (Ok answer)) at.register_is;
          core_is = at.core_is;
        },
        λ m ne. refl,
      ),
)

pub beside_outside : (h : HandleView) (register : Snapshot) (call : RegisterCall) (answer : RegisterAnswer) → IsOfOutside call
    → answer_to (layout_of (core_in h).shape) register call ≡ Ok answer
    → GoesOnBeside h register (Outside call ∷ []) h (register_after (layout_of (core_in h).shape) register call (Ok answer))
beside_outside h register call answer outside is = (
  comes_in (IsThis (number_of h)) IsByAnyone h register call answer (record {}) is,
  comes_in (IsShard (core_in h).shape) IsOfOutside h register call answer outside is,
)
