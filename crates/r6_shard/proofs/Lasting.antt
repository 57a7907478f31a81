-- What no call of a shard takes back, and so why a request stays refused.
use Rattle.std.proofs.Common.{◌≡◌, ◌≢◌, ℕ, ◌<◌, ◌≤◌, List, [], ◌∷◌, length, map, true, inl, inr, refl, sym, subst, ◌∙◌, arith}
use Rattle.r6_layout.specs.Shape.{Shape, blocks}
use Rattle.r6_layout.specs.Layout as layout
use Rattle.r6_world.specs.PlainArray as world
use Rattle.r6_world.specs.Layouts.{Layout}
use Rattle.r6_world.specs.ShardStates.{Shard}
use Rattle.r6_world.specs.Changes.{Accept, after, Ask, Send, Copy, See_failed, Read_direct, Fix, Ask_again, Give_over, slots_in_error}
use Rattle.r6_world.specs.Steps.{Event, No_command, Submit_all, entered}
use Rattle.r6_world.proofs.Changes.{Keeps, step-kept, lost-kept, through-scans}
use Rattle.r6_world.specs.Values.{op_of, buffer_of}
use Rattle.r6_core.specs.declared.Op.{Op}
use Rattle.r6_core.specs.declared.refusal.Refusal.{Refusal}
use Rattle.r6_core.specs.declared.refusal.Refusal.TheVariants.{NoSuchBlock, WrongShard, WrongLength, ArrayFailed, Exhausted}
use Rattle.r6_core.specs.declared.turn.Task.{Task}
use Rattle.r6_core.specs.declared.turn.Turn.{Turn}
use Rattle.r6_core.specs.Refusals.{HasSubmitFault, submit_faults, most_unanswered, IsFirstFault, HasNone}
use Rattle.r6_core.specs.Shards.{CoreView, SameShard, Step, core_layout, world_shard}
use Rattle.r6_core.specs.Effects.{TakesTurn}
use Rattle.r6_core.specs.Together.{HasTaken}
use Rattle.r6_shard.proofs.Rising.{rise-none, rise-on, still-risen}
use Rattle.r6_shard.specs.Refusing.{CountsRise, Lasts, own_faults, ending_faults, IsEnding, IsRefusedFor}
use Rattle.r6_shard.proofs.Keeping.{turned}

-- ---- each step

-- a shard is as far as it was, or further
abbrev IsPast : Shard → Shard → Type 0
IsPast first s = (first.saw_failed ≡ true → s.saw_failed ≡ true) × (first.tokens ≤ s.tokens) × (first.accepted ≤ s.accepted)

still-past : (l : Layout) (n : ℕ) (first : Shard) (event : Event) → Keeps l n (IsPast first) event
still-past l n first event s (Accept op) within a x = (x.0, x.1, let more = x.2 in omega arith)
still-past l n first event s (Ask f h slot g) within a x = (x.0, let more = x.1 in omega arith, x.2)
still-past l n first event s (Send f h slot g b) within a x = (x.0, let more = x.1 in omega arith, x.2)
still-past l n first event s (Copy f h slot g b) within a x = (x.0, let more = x.1 in omega arith, x.2)
still-past l n first event s (Read_direct buffer id block g) within a x = (x.0, let more = x.1 in omega arith, x.2)
still-past l n first event s (Fix f h slot g b) within a x = (x.0, let more = x.1 in omega arith, x.2)
still-past l n first event s (Ask_again f h slot g) within a x = (x.0, let more = x.1 in omega arith, x.2)
still-past l n first event s (Give_over f h) within a x = lost-kept l (IsPast first) (λ s slot x. x) (slots_in_error l h) s x
still-past l n first event s See_failed within a x = (λ saw. refl, x.1, x.2)
still-past l n first event s change within a x = x

pub lasts_by : (old : CoreView) (event : Event) (new : CoreView) → new.window ≡ old.window → Step old event new → Lasts old new
lasts_by old event new window step =
    let now = world_shard old in
    let p = step-kept (core_layout old) old.shard (IsPast now) event (still-past (core_layout old) old.shard now event) now (world_shard new) step.1
    (λ saw. saw, omega arith, omega arith) in
    record {
      same = step.0;
      window = window;
      failure = p.0;
      tokens = p.1;
      accepted = p.2;
      counts = step-kept (core_layout old) old.shard (λ s. CountsRise now.counts s.counts) event (still-risen (core_layout old) old.shard now.counts event)
          now (world_shard new) step.1 (rise-none now.counts);
    }

pub lasts_same : (old new : CoreView) → new ≡ old → Lasts old new
lasts_same old new same =
    subst (Lasts old) (sym same)
    (record {
      same = (refl, refl);
      window = refl;
      failure = λ saw. saw;
      tokens = omega arith;
      accepted = omega arith;
      counts = rise-none (world_shard old).counts;
    })

pub lasts_still : (core : CoreView) → Lasts core core
lasts_still core = lasts_same core core refl

pub lasts_none : (core : CoreView) → Lasts core core
lasts_none core = record {
  same = (refl, refl);
  window = refl;
  failure = λ saw. saw;
  tokens = omega arith;
  accepted = omega arith;
  counts = rise-none (world_shard core).counts;
}

pub lasts_on : (old mid new : CoreView) → Lasts old mid → Lasts mid new → Lasts old new
lasts_on old mid new x y =
    record {
      same = (y.same.0 ∙ x.same.0, y.same.1 ∙ x.same.1);
      window = y.window ∙ x.window;
      failure = λ saw. y.failure (x.failure saw);
      tokens = omega (arith, x.tokens, y.tokens);
      accepted = omega (arith, x.accepted, y.accepted);
      counts = rise-on (world_shard old).counts (world_shard mid).counts (world_shard new).counts x.counts y.counts;
    }

pub lasts_twice : (old : CoreView) (first : Event) (mid : CoreView) (second : Event) (new : CoreView) → mid.window ≡ old.window
    → new.window ≡ mid.window → Step old first mid → Step mid second new → Lasts old new
lasts_twice old first mid second new window window' x y = lasts_on old mid new (lasts_by old first mid window x) (lasts_by mid second new window' y)

pub lasts_turned : (old : CoreView) (task : Task) (turn : Turn) (new : CoreView) → new.window ≡ old.window → TakesTurn old task turn new
    → Lasts old new
lasts_turned old task turn new window x = let p = turned old task turn new x in lasts_by old p.0 new window p.5

-- ---- requests that are handed in together

-- what the reasons of a refusal stand on, which no step takes back
pub record IsFurther (old new : CoreView) : Type 0 where
  pub same : SameShard old new
  pub failure : (world_shard old).saw_failed ≡ true → (world_shard new).saw_failed ≡ true
  pub tokens : (world_shard old).tokens ≤ (world_shard new).tokens
  pub accepted : (world_shard old).accepted ≤ (world_shard new).accepted

further_by : (old new : CoreView) → Lasts old new → IsFurther old new
further_by old new x = record { same = x.same; failure = x.failure; tokens = x.tokens; accepted = x.accepted }

all-past : (l : Layout) (first : Shard) (ops : List world.Op) (s : Shard) → IsPast first s → IsPast first (entered l s ops)
all-past l first [] s x = x
all-past l first (op ∷ ops) s x = all-past l first ops (after l s (Accept op)) (x.0, x.1, (let more = x.2 in omega (arith, more)))

-- they are accepted
pub further_entered : (old : CoreView) (ops : List Op) (mid : CoreView) → HasTaken old ops mid → IsFurther old mid
further_entered old ops mid x =
    let now = world_shard old in
    let p : IsPast now (world_shard mid) =
    subst (IsPast now) (sym x.state) (all-past (core_layout old) now (map op_of ops) now (λ saw. saw, omega arith, omega arith)) in
    record { same = x.shard; failure = p.0; tokens = p.1; accepted = p.2 }

-- and then what waits starts
pub further_started : (old : CoreView) (ops : List Op) (mid : CoreView) (first : ℕ) (new : CoreView) → HasTaken old ops mid → Step old (Submit_all (map op_of ops) first) new
    → IsFurther mid new
further_started old ops mid first new x step =
    let l = core_layout old in
    let own = entered l (world_shard old) (map op_of ops) in
    let p : IsPast (world_shard mid) (world_shard new) = subst (λ (s : Shard). IsPast s (world_shard new)) (sym x.state)
    (through-scans l old.shard (IsPast own) No_command (still-past l old.shard own No_command) own (world_shard new) step.1.2 (λ saw. saw, omega arith, omega arith)) in
    record { same = (step.0.0 ∙ sym x.shard.0, step.0.1 ∙ sym x.shard.1); failure = p.0; tokens = p.1; accepted = p.2 }

-- ---- what a request has wrong in itself

-- it is of the array and the shard's number alone
abbrev HasOwnFault : Shape → (number : ℕ) → Op → Refusal → Type 0
HasOwnFault shape number o NoSuchBlock = blocks shape ≤ world.block_of (op_of o)
HasOwnFault shape number o WrongShard = layout.shard_of shape (layout.row_of shape (world.block_of (op_of o))) ≢ number
HasOwnFault shape number o WrongLength = length (buffer_of o) ≢ shape.block
HasOwnFault shape number o _ = ⊥

pub none-own : (old new : CoreView) (o : Op) → SameShard old new → HasNone (HasSubmitFault old o) own_faults
    → HasNone (HasSubmitFault new o) own_faults
none-own old new o same x =
    subst (λ (number : ℕ). HasNone (HasOwnFault new.shape number o) own_faults) (sym same.1)
    (subst (λ (shape : Shape). HasNone (HasOwnFault shape old.shard o) own_faults) (sym same.0) x)

first-own : (old new : CoreView) (o : Op) (refusal : Refusal) → SameShard old new
    → IsFirstFault (HasSubmitFault old o) own_faults refusal → IsFirstFault (HasSubmitFault new o) own_faults refusal
first-own old new o refusal same x =
    subst (λ (number : ℕ). IsFirstFault (HasOwnFault new.shape number o) own_faults refusal) (sym same.1)
    (subst (λ (shape : Shape). IsFirstFault (HasOwnFault shape old.shard o) own_faults refusal) (sym same.0) x)

-- ---- what ends the service

ending-on : (old new : CoreView) (o : Op) (refusal : Refusal) → IsFurther old new → IsEnding refusal → HasSubmitFault old o refusal
    → HasSubmitFault new o refusal
ending-on old new o ArrayFailed x ending fault = x.failure fault
ending-on old new o Exhausted x ending fault = elim fault [
  | inl out ↦ inl (omega (arith, out, x.tokens))
  | inr out ↦ inr (omega (arith, out, x.accepted))
]
ending-on old new o refusal x ending fault = absurd ending

-- it ends for every request
ended-for : (core : CoreView) (o other : Op) (refusal : Refusal) → IsEnding refusal → HasSubmitFault core o refusal → HasSubmitFault core other refusal
ended-for core o other ArrayFailed ending fault = fault
ended-for core o other Exhausted ending fault = fault
ended-for core o other refusal ending fault = absurd ending

still-serving : (core : CoreView) (o : Op) (refusal : Refusal) → HasNone (HasSubmitFault core o) ending_faults → IsEnding refusal
    → HasSubmitFault core o refusal → ⊥
still-serving core o ArrayFailed none ending fault = none.0 fault
still-serving core o Exhausted none ending fault = none.1.0 fault
still-serving core o refusal none ending fault = absurd ending

first-holds : (HasFault : Refusal → Type 0) (faults : List Refusal) (refusal : Refusal) → IsFirstFault HasFault faults refusal → HasFault refusal
first-holds HasFault [] refusal x = absurd x
first-holds HasFault (fault ∷ faults) refusal x = elim x [
  | inl here ↦ subst HasFault (sym here.0) here.1
  | inr later ↦ first-holds HasFault faults refusal later.1
]

refused-holds : (core : CoreView) (o : Op) (refusal : Refusal) → IsRefusedFor core o refusal → HasSubmitFault core o refusal
refused-holds core o refusal x = elim x [
  | inl own ↦ first-holds (HasSubmitFault core o) own_faults refusal own
  | inr ended ↦ ended.2
]

-- where a request was refused since the service had ended, no other is right
pub none-later : (core : CoreView) (o later : Op) (refusal : Refusal) → IsRefusedFor core o refusal → IsEnding refusal
    → HasNone (HasSubmitFault core later) ending_faults → ⊥
none-later core o later refusal x ending none =
    still-serving core later refusal none ending (ended-for core o later refusal ending (refused-holds core o refusal x))

-- ---- the reason stays

pub further-refused : (old new : CoreView) (o : Op) (refusal : Refusal) → IsFurther old new → IsRefusedFor old o refusal → IsRefusedFor new o refusal
further-refused old new o refusal x y = elim y [
  | inl own ↦ inl (first-own old new o refusal x.same own)
  | inr ended ↦ inr (none-own old new o x.same ended.0, ended.1, ending-on old new o refusal x ended.1 ended.2)
]

pub still-refused : (old new : CoreView) (o : Op) (refusal : Refusal) → Lasts old new → IsRefusedFor old o refusal → IsRefusedFor new o refusal
still-refused old new o refusal x = further-refused old new o refusal (further_by old new x)

same-back : (old new : CoreView) → SameShard old new → SameShard new old
same-back old new same = (sym same.0, sym same.1)

-- what is right now was right before
pub was-right : (old new : CoreView) (o : Op) → IsFurther old new → HasNone (HasSubmitFault new o) submit_faults
    → HasNone (HasSubmitFault old o) own_faults
was-right old new o x y = none-own new old o (same-back old new x.same) (y.0, (y.1.0, (y.1.1.0, tt)))

pub was-serving : (old new : CoreView) (o : Op) → IsFurther old new → HasNone (HasSubmitFault new o) submit_faults
    → HasNone (HasSubmitFault old o) ending_faults
was-serving old new o x y = (
  λ fault. y.1.1.1.0 (ending-on old new o ArrayFailed x (record {}) fault),
  (λ fault. y.1.1.1.1.0 (ending-on old new o Exhausted x (record {}) fault), tt),
)

-- with less than as many requests open as may be, none is refused for their number
pub refused-so : (core : CoreView) (o : Op) (refusal : Refusal) → core.unanswered < most_unanswered
    → IsFirstFault (HasSubmitFault core o) submit_faults refusal → IsRefusedFor core o refusal
refused-so core o refusal few x = elim x [
  | inl block ↦ inl (inl block)
  | inr b ↦ elim b.1 [
    | inl shard ↦ inl (inr (b.0, inl shard))
    | inr s ↦ elim s.1 [
      | inl long ↦ inl (inr (b.0, inr (s.0, inl long)))
      | inr n ↦ elim n.1 [
        | inl failed ↦ inr ((b.0, (s.0, (n.0, tt))), subst IsEnding (sym failed.0) (record {}), subst (HasSubmitFault core o) (sym failed.0) failed.1)
        | inr f ↦ elim f.1 [
          | inl out ↦ inr ((b.0, (s.0, (n.0, tt))), subst IsEnding (sym out.0) (record {}), subst (HasSubmitFault core o) (sym out.0) out.1)
          | inr e ↦ elim e.1 [
            | inl busy ↦ absurd (let many = busy.1 in omega (arith, few, many))
            | inr none ↦ absurd none.1
          ]
        ]
      ]
    ]
  ]
]
