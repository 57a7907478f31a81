-- From a shard's course to its ledger.
use Rattle.std.proofs.Common.{◌≡◌, ℕ, List, [], ◌∷◌, ◌++◌, inl, inr, refl, ap}
use Rattle.r6_health.specs.Passes.{view_of}
use Rattle.r6_world.specs.PlainArray as world
use Rattle.r6_world.proofs.Tables.{not_both}
use Rattle.r6_world.specs.Values.{op_of}
use Rattle.r6_core.specs.declared.refusal.Refusal.{Refusal}
use Rattle.r6_core.specs.Shards.{CoreView}
use Rattle.r6_core.specs.Refusals.{HasSubmitFault, HasNone}
use Rattle.r6_course.specs.Courses.{Start, Stand}
use Rattle.r6_course.proofs.Ledger.{order_law}
use Rattle.r6_course.proofs.Ends.{failure_law, idle_law}
use Rattle.r6_shard.specs.declared.ledger.Asked.{Asked}
use Rattle.r6_shard.specs.declared.ledger.Asking.{Asking}
use Rattle.r6_shard.specs.declared.performs.Performs.{Ghosts}
use Rattle.r6_shard.specs.declared.shard.Shard.{Shard}
use Rattle.r6_shard.specs.Courses.{stand_of}
use Rattle.r6_shard.specs.Shards.{CourseOf}
use Rattle.r6_shard.specs.Refusing.{Lasts, own_faults, ending_faults, IsRefusedFor}
use Rattle.r6_shard.specs.Replying.{is_write}
use Rattle.r6_shard.specs.Runs.{AreServed, IsLedger}
use Rattle.r6_shard.proofs.Lasting.{none-own, still-refused, none-later}

pub ledger : {P : Type 0} {g : Ghosts P} (s : Start) (ops : List world.Op) (shard : Shard P g) → CourseOf s ops shard → IsLedger s ops shard
ledger {g = g} s ops shard x =
    let at : Stand =
    record (stand_of shard.core (view_of shard.pass) shard.last.attaches shard.named (g.performer shard.parts).tells x.history)
    { out = x.course.taken } in
    let lawful = x.course.lawful in
    let order = order_law s lawful at x.course.follows in
    record {
      history = x.history;
      told = x.tells;
      explained = record {
        array = order.array;
        leads = order.leads;
        parts = order.parts;
        others = order.others;
        own = order.own;
        well_formed = order.well_formed;
        none_forgotten = order.none_forgotten;
      };
      failure = (failure_law s lawful at x.course.follows).0;
      seen = (failure_law s lawful at x.course.follows).1;
      idle = λ rests live.
          idle_law s lawful at x.course.follows live (λ token c e. absurd (not_both _ c (rests.none_out token) e));
    }

-- ---- the requests

-- what stands refused stays so, and what was right is right
pub served-on : (old new : CoreView) (askings : List Asking) (asked : List Asked) (ops : List world.Op) (refused : List (ℕ × Refusal))
    → Lasts old new → AreServed old askings asked ops refused → AreServed new askings asked ops refused
served-on old new [] asked ops refused lasts x = x
served-on old new (asking ∷ askings) asked ops refused lasts x = elim x [
  | inl p ↦ inl (
    p.0,
    p.1,
    p.2,
    p.3,
    p.4,
    p.5,
    none-own old new asking.op lasts.same p.6,
    p.7,
    served-on old new askings p.1 p.2 refused lasts p.8,
  )
  | inr p ↦ inr (
    p.0,
    p.1,
    p.2,
    still-refused old new asking.op p.0 lasts p.3,
    p.4,
    served-on old new askings asked ops p.1 lasts p.5,
  )
]

pub one-accepted : (core : CoreView) (askings : List Asking) (asking : Asking) (asked : List Asked) (a : Asked) (ops : List world.Op)
    (refused : List (ℕ × Refusal)) → a.event ≡ asking.event → a.writes ≡ is_write (op_of asking.op) → HasNone (HasSubmitFault core asking.op) own_faults
    → HasNone (HasSubmitFault core asking.op) ending_faults → AreServed core askings asked ops refused
    → AreServed core (askings ++ asking ∷ []) (asked ++ a ∷ []) (ops ++ op_of asking.op ∷ []) refused
one-accepted core [] asking asked a ops refused same writes right serving x =
    inl (a, [], [], ap (λ y. y ++ a ∷ []) x.0, same, ap (λ y. y ++ op_of asking.op ∷ []) x.1, right, writes, (refl, refl, x.2))
one-accepted core (first ∷ askings) asking asked a ops refused same writes right serving x = elim x [
  | inl p ↦ inl (
    p.0,
    p.1 ++ a ∷ [],
    p.2 ++ op_of asking.op ∷ [],
    ap (λ y. y ++ a ∷ []) p.3,
    p.4,
    ap (λ y. y ++ op_of asking.op ∷ []) p.5,
    p.6,
    p.7,
    one-accepted core askings asking p.1 a p.2 refused same writes right serving p.8,
  )
  | inr p ↦ inr (
    p.0,
    p.1,
    p.2,
    p.3,
    λ ending. absurd (none-later core first.op asking.op p.0 p.3 ending serving),
    one-accepted core askings asking asked a ops p.1 same writes right serving p.5,
  )
]

pub one-refused : (core : CoreView) (askings : List Asking) (asking : Asking) (asked : List Asked) (ops : List world.Op)
    (refused : List (ℕ × Refusal)) (refusal : Refusal) → IsRefusedFor core asking.op refusal → AreServed core askings asked ops refused
    → AreServed core (askings ++ asking ∷ []) asked ops (refused ++ (asking.event, refusal) ∷ [])
one-refused core [] asking asked ops refused refusal reason x =
    inr (refusal, [], ap (λ y. y ++ (asking.event, refusal) ∷ []) x.2, reason, (λ ending. x.0), (x.0, x.1, refl))
one-refused core (first ∷ askings) asking asked ops refused refusal reason x = elim x [
  | inl p ↦ inl (
    p.0,
    p.1,
    p.2,
    p.3,
    p.4,
    p.5,
    p.6,
    p.7,
    one-refused core askings asking p.1 p.2 refused refusal reason p.8,
  )
  | inr p ↦ inr (
    p.0,
    p.1 ++ (asking.event, refusal) ∷ [],
    ap (λ y. y ++ (asking.event, refusal) ∷ []) p.2,
    p.3,
    p.4,
    one-refused core askings asking asked ops p.1 refusal reason p.5,
  )
]
