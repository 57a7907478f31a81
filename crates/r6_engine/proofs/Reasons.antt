-- Why requests were refused, of which each was of its shard.
use Rattle.std.proofs.Common.{◌≡◌, ℕ, zero, suc, List, [], ◌∷◌, length, All, Bool, true, false, inl, inr, refl, sym, ap, subst, ◌∙◌, arith, Option, Some, None, slice_get, option_map, option_and_then, if◌then◌else◌}
use Rattle.std.specs.List.{AllByRecursion, cons_option}
use Rattle.std.proofs.lemmas.Bool.{cases_eq}
use Rattle.r6_layout.specs.Shape.{Shape}
use Rattle.r6_world.specs.PlainArray as world
use Rattle.r6_world.proofs.Tables.{Some-inj}
use Rattle.r6_world.specs.declared.values.Op.{Op}
use Rattle.r6_world.specs.Values.{op_of, buffer_of}
use Rattle.r6_core.specs.declared.refusal.Refusal.{Refusal}
use Rattle.r6_core.specs.declared.refusal.Refusal.TheVariants.{ArrayFailed, Exhausted}
use Rattle.r6_core.specs.Shards.{CoreView}
use Rattle.r6_core.specs.Refusals.{HasSubmitFault, HasNone}
use Rattle.r6_engine.specs.lists.Events.{Event, Request, Bring, Fail, Check, Repair, Wait, Serves, Task, task, task_at, duty_of, is_block_of, waits_before}
use Rattle.r6_engine.proofs.ListLemmas.Sharing.{IsBlockOf, block_of_shard}
use Rattle.r6_shard.specs.declared.ledger.Asked.{Asked}
use Rattle.r6_shard.specs.declared.ledger.Asking.{Asking}
use Rattle.r6_shard.specs.Refusing.{own_faults, IsEnding, IsRefusedFor}
use Rattle.r6_shard.specs.Runs.{AreServed}
use Rattle.r6_engine.specs.runner.Tasks.{request_in, requests_in}
use Rattle.r6_engine.specs.Refusals.{IsReason, HadReason, HadReasons, WasRight, WereRight}

-- ---- each request of a shard is one of the events, for a block of the shard

pub record IsOf (shape : Shape) (shard : ℕ) (events : List Event) (asking : Asking) : Type 0 where
  pub at : slice_get events asking.event ≡ Some (Request asking.op)
  pub block : IsBlockOf shape shard (world.block_of (op_of asking.op))

one-of : (shape : Shape) (shard : ℕ) (events : List Event) (number waits : ℕ) (e : Option Event) (asking : Asking) → slice_get events number ≡ e
    → option_and_then (λ (t : Task). request_in number t.duty) (option_map (task number waits) (option_and_then (duty_of shape shard) e)) ≡ Some asking
    → IsOf shape shard events asking
one-of shape shard events number waits None asking at is = cc
one-of shape shard events number waits (Some (Request o)) asking at is = by-test (is_block_of shape shard (world.block_of (op_of o))) refl is
  where
    by-test : (b : Bool) → is_block_of shape shard (world.block_of (op_of o)) ≡ b
        → option_and_then (λ (t : Task). request_in number t.duty) (option_map (task number waits) (if b then Some (Serves o) else None)) ≡ Some asking
        → IsOf shape shard events asking
    by-test true its is' =
        subst (IsOf shape shard events) (Some-inj (record { event = number; op = o }) asking is')
        (record { at = at; block = block_of_shard shape shard (world.block_of (op_of o)) its })
    by-test false its is' = cc
one-of shape shard events number waits (Some (Bring how slot part)) asking at is = cc
one-of shape shard events number waits (Some (Fail slot)) asking at is = cc
one-of shape shard events number waits (Some Check) asking at is = cc
one-of shape shard events number waits (Some Repair) asking at is = cc
one-of shape shard events number waits (Some Wait) asking at is = cc

one-more : (shape : Shape) (shard : ℕ) (events : List Event) (o : Option Asking) (rest : List Asking)
    → ((asking : Asking) → o ≡ Some asking → IsOf shape shard events asking) → AllByRecursion (IsOf shape shard events) rest
    → AllByRecursion (IsOf shape shard events) (cons_option o rest)
one-more shape shard events None rest one all = all
one-more shape shard events (Some asking) rest one all = (one asking refl, all)

pub each-of : (shape : Shape) (shard : ℕ) (events : List Event) (numbers : List ℕ)
    → AllByRecursion (IsOf shape shard events) (requests_in shape shard events numbers)
each-of shape shard events [] = tt
each-of shape shard events (number ∷ numbers) =
    one-more shape shard events (option_and_then (λ (t : Task). request_in number t.duty) (task_at shape shard events number))
    (requests_in shape shard events numbers)
    (λ asking is. one-of shape shard events number (waits_before events number) (slice_get events number) asking refl is)
    (each-of shape shard events numbers)

-- ---- the reasons

same-length : (core : CoreView) (o : Op) → HasNone (HasSubmitFault core o) own_faults → length (buffer_of o) ≡ core.shape.block
same-length core o right = elim (cases_eq (length (buffer_of o)) core.shape.block) [
  | inl same ↦ same
  | inr other ↦ absurd (right.1.1.0 other)
]

ended : (core : CoreView) (o : Op) (refusal : Refusal) → length (buffer_of o) ≡ core.shape.block → IsEnding refusal → HasSubmitFault core o refusal
    → IsReason core.shape.block core o refusal
ended core o ArrayFailed long ending fault = (long, fault)
ended core o Exhausted long ending fault = (long, fault)
ended core o refusal long ending fault = absurd ending

reason : (core : CoreView) (o : Op) (refusal : Refusal) → IsBlockOf core.shape core.shard (world.block_of (op_of o)) → IsRefusedFor core o refusal
    → IsReason core.shape.block core o refusal
reason core o refusal its x = elim x [
  | inl own ↦ elim own [
    | inl none ↦ absurd (let past = none.1 in let within = its.in_array in omega (arith, past, within))
    | inr one ↦ elim one.1 [
      | inl elsewhere ↦ absurd (elsewhere.1 its.in_shard)
      | inr two ↦ elim two.1 [
        | inl long ↦ subst (IsReason core.shape.block core o) (sym long.0) long.1
        | inr other ↦ absurd other.1
      ]
    ]
  ]
  | inr all ↦ ended core o refusal (same-length core o all.0) all.1 all.2
]

all-cons : {X : Type 0} (P : X → Type 0) (x : X) (xs : List X) → P x → All P xs → All P (x ∷ xs)
all-cons P x xs here rest zero d below = here
all-cons P x xs here rest (suc k) d below = rest k d (omega (arith, below))

all-none : {X : Type 0} (P : X → Type 0) (xs : List X) → xs ≡ [] → All P xs
all-none P xs is = subst (All P) (sym is) (λ k d below. absurd (omega (arith, below)))

abbrev Was : Shape → List Event → CoreView → List Asked → List (ℕ × Refusal) → Type 0
Was shape events core asked refused = HadReasons shape.block events core refused × WereRight shape.block events asked

were : (events : List Event) (core : CoreView) (begun : List Asking) (asked : List Asked) (ops : List world.Op) (refused : List (ℕ × Refusal))
    → AllByRecursion (IsOf core.shape core.shard events) begun → AreServed core begun asked ops refused
    → Was core.shape events core asked refused
were events core [] asked ops refused all x = (
  all-none (HadReason core.shape.block events core) refused x.2,
  all-none (WasRight core.shape.block events) asked x.0,
)
were events core (asking ∷ begun) asked ops refused all x = elim x [
  | inl p ↦
      let r = were events core begun p.1 p.2 refused all.1 p.8 in (
        r.0,
        subst (WereRight core.shape.block events) (sym p.3)
            (all-cons (WasRight core.shape.block events) p.0 p.1
            (asking.op, ap (slice_get events) p.4 ∙ all.0.at, same-length core asking.op p.6, p.7) r.1),
      )
  | inr p ↦
      let r = were events core begun asked ops p.1 all.1 p.5 in (
        subst (HadReasons core.shape.block events core) (sym p.2)
            (all-cons (HadReason core.shape.block events core) (asking.event, p.0) p.1
            (asking.op, all.0.at, reason core asking.op p.0 all.0.block p.3) r.0),
        r.1,
      )
]

pub reasons : (shape : Shape) (shard : ℕ) (events : List Event) (core : CoreView) (begun : List Asking) (asked : List Asked) (ops : List world.Op)
    (refused : List (ℕ × Refusal)) → core.shape ≡ shape → core.shard ≡ shard → AllByRecursion (IsOf shape shard events) begun
    → AreServed core begun asked ops refused
    → HadReasons shape.block events core refused × WereRight shape.block events asked
reasons shape shard events core begun asked ops refused is is' all x =
    subst (λ s. Was s events core asked refused) is
    (were events core begun asked ops refused
    (subst (λ n. AllByRecursion (IsOf core.shape n events) begun) (sym is')
    (subst (λ s. AllByRecursion (IsOf s shard events) begun) (sym is) all)) x)
