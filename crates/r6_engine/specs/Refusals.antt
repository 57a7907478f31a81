-- Why a shard of an array that is served refuses a request (this project's own).
use Rattle.std.specs.Prelude.{◌≡◌, ◌≢◌, ℕ, ◌≤◌, ◌⊎◌, List, All, length, slice_get, Some, true}
use Rattle.r6_world.specs.ShardStates.{limit}
use Rattle.r6_world.specs.declared.values.Op.{Op}
use Rattle.r6_world.specs.Values.{buffer_of, op_of}
use Rattle.r6_core.specs.declared.refusal.Refusal.{Refusal}
use Rattle.r6_core.specs.declared.refusal.Refusal.TheVariants.{WrongLength, ArrayFailed, Exhausted}
use Rattle.r6_core.specs.Shards.{CoreView, world_shard}
use Rattle.r6_engine.specs.lists.Events.{Event, Request}
use Rattle.r6_shard.specs.declared.ledger.Asked.{Asked}
use Rattle.r6_shard.specs.Replying.{is_write}

-- its buffer is not one block; or it is, and the shard has seen that the array failed, or has given 2^60 tokens or
-- numbers
abbrev pub IsReason : (block : ℕ) → CoreView → Op → Refusal → Type 0
IsReason block core o WrongLength = length (buffer_of o) ≢ block
IsReason block core o ArrayFailed = (length (buffer_of o) ≡ block) × ((world_shard core).saw_failed ≡ true)
IsReason block core o Exhausted =
    (length (buffer_of o) ≡ block)
    × ((limit ≤ (world_shard core).tokens) ⊎ (limit ≤ (world_shard core).accepted))
-- for no other reason
IsReason block core o refusal = ⊥

-- each request that was refused is one of the events, and had such a reason
abbrev pub HadReason : (block : ℕ) → List Event → CoreView → ℕ × Refusal → Type 0
HadReason block events core r = (o : Op) × (slice_get events r.0 ≡ Some (Request o)) × IsReason block core o r.1

abbrev pub HadReasons : (block : ℕ) → List Event → CoreView → List (ℕ × Refusal) → Type 0
HadReasons block events core refused = All (HadReason block events core) refused

-- each that was accepted is one of the events, with a buffer of one block, and whether it writes is noted
abbrev pub WasRight : (block : ℕ) → List Event → Asked → Type 0
WasRight block events a =
    (o : Op) × (slice_get events a.event ≡ Some (Request o)) × (length (buffer_of o) ≡ block)
    × (a.writes ≡ is_write (op_of o))

-- so it was with each request that was accepted
abbrev pub WereRight : (block : ℕ) → List Event → List Asked → Type 0
WereRight block events asked = All (WasRight block events) asked
