-- All requests of a shard, from its start to its end.
use Rattle.std.specs.Prelude.{◌≡◌, ℕ, ◌⊎◌, List, [], ◌∷◌, true, Option}
use Rattle.r6_dev.specs.History.{Telling}
use Rattle.r6_layout.specs.Shape.{Shape}
use Rattle.r6_health.specs.Passes.{view_of}
use Rattle.r6_world.specs.PlainArray as world
use Rattle.r6_world.specs.PlainArray.{ArrayFailed}
use Rattle.r6_world.specs.Geometries.{layout_of}
use Rattle.r6_world.specs.Registers.{Snapshot}
use Rattle.r6_world.specs.ShardStates.{IsLive}
use Rattle.r6_world.specs.Worlds.{Devices}
use Rattle.r6_world.specs.Claims.{IsLawfulStart, IsIdle}
use Rattle.r6_world.specs.Values.{op_of}
use Rattle.r6_core.specs.declared.refusal.Refusal.{Refusal}
use Rattle.r6_core.specs.Shards.{CoreView, world_shard}
use Rattle.r6_core.specs.Refusals.{HasSubmitFault, HasNone}
use Rattle.r6_course.specs.Courses.{Start, Mark, Replied}
use Rattle.r6_course.specs.Ledgers.{IsIn, HasLedger}
use Rattle.r6_shard.specs.declared.ledger.Asked.{Asked}
use Rattle.r6_shard.specs.declared.ledger.Asking.{Asking}
use Rattle.r6_shard.specs.declared.performs.Performs.{Ghosts}
use Rattle.r6_shard.specs.declared.shard.Shard.{Shard}
use Rattle.r6_shard.specs.Beginnings.{Hold, start_of}
use Rattle.r6_shard.specs.Courses.{stand_of, Tells}
use Rattle.r6_shard.specs.Replying.{is_write}
use Rattle.r6_shard.specs.Looked.{seen_by}
use Rattle.r6_shard.specs.Shards.{Rests}
use Rattle.r6_shard.specs.Refusing.{own_faults, IsEnding, IsRefusedFor}

-- each request was accepted, in their order, with its event and what it asks, and had nothing wrong in itself, and
-- whether it writes is noted; or its event stands among the refused, in their order too, with the reason; and once the
-- service had ended none was accepted
abbrev pub AreServed : CoreView → List Asking → List Asked → List world.Op → List (ℕ × Refusal) → Type 0
AreServed core [] asked ops refused = (asked ≡ []) × (ops ≡ []) × (refused ≡ [])
AreServed core (asking ∷ askings) asked ops refused =
    ((first : Asked) × (others : List Asked) × (other_ops : List world.Op)
    × (asked ≡ first ∷ others) × (first.event ≡ asking.event) × (ops ≡ op_of asking.op ∷ other_ops)
    × HasNone (HasSubmitFault core asking.op) own_faults × (first.writes ≡ is_write (op_of asking.op))
    × AreServed core askings others other_ops refused)
    ⊎ ((refusal : Refusal) × (others : List (ℕ × Refusal)) × (refused ≡ (asking.event, refusal) ∷ others)
    × IsRefusedFor core asking.op refusal × (IsEnding refusal → asked ≡ [])
    × AreServed core askings asked ops others)

-- the ledger of a shard in which these ops were handed in, in this order: it is explained by one plain array that the
-- parts hold; only a shard that saw the failure answers so, and it sees so only where its pass did; and with nothing
-- left to do all rows of a live one are idle
pub record IsLedger {P : Type 0} {g : Ghosts P} (s : Start) (ops : List world.Op) (shard : Shard P g) : Type 0 where
  pub history : List Mark
  pub told : Tells shard.asked.items shard.entries.items ops history
  pub explained : HasLedger s
      (stand_of shard.core (view_of shard.pass) shard.last.attaches shard.named (g.performer shard.parts).tells
      history)
  pub failure : (id : ℕ) → IsIn (Replied id ArrayFailed) history → (world_shard shard.core).saw_failed ≡ true
  pub seen : (world_shard shard.core).saw_failed ≡ true → (seen_by (view_of shard.pass)).failed ≡ true
  pub idle : Rests shard → IsLive s.layout (world_shard shard.core) → (row : ℕ) → IsIdle (world_shard shard.core) row

-- whatever lawful start it had whose devices hold what the parts told before
abbrev pub HasLedgerFrom : {P : Type 0} {g : Ghosts P} → Shape → (number : ℕ) → Snapshot
    → (before : ℕ → ℕ → Option Telling) → List world.Op → Shard P g → Type 0
HasLedgerFrom geometry number snapshot before ops shard =
    (device : Devices) (array : world.Array) → IsLawfulStart (layout_of geometry) snapshot device array
    → Hold (start_of geometry number snapshot device array) before
    → IsLedger (start_of geometry number snapshot device array) ops shard
