-- That a read is answered by Data and a write by Done (this project's own).
use Rattle.std.specs.Prelude.{◌≡◌, ℕ, Bool, true, false, not, List, All, length, map, Some, slice_index_or}
use Rattle.r6_world.specs.PlainArray.{Op, Read, Write, block_of}
use Rattle.r6_world.specs.ShardStates.{Request}
use Rattle.r6_world.specs.Values.{buffer_back}
use Rattle.r6_world.specs.declared.values.Reply.{Reply}
use Rattle.r6_world.specs.declared.values.Reply.TheVariants.{Data, Done, ArrayFailed}
use Rattle.r6_core.specs.Shards.{CoreView, world_shard}
use Rattle.r6_shard.specs.declared.ledger.Asked.{Asked as Accepted}
use Rattle.r6_shard.specs.declared.ledger.Entry.{Entry}

-- whether a request writes its block
abbrev pub is_write : Op → Bool
is_write (Read block) = false
is_write (Write block new_data) = true

-- what is noted of a request of an event that was handed in once so many replies were taken
abbrev pub noted_of : (event : ℕ) → Op → (answered : ℕ) → Accepted
noted_of event op answered =
    record { event = event; block = block_of op; writes = is_write op; answered = answered }

-- Data answers a read and Done a write; ArrayFailed answers both
abbrev pub is_for : (writes : Bool) → Reply → Bool
is_for writes (Data buffer) = not writes
is_for writes (Done buffer) = writes
is_for writes (ArrayFailed buffer) = true

-- whether the request of this number writes
abbrev pub writes_at : List Accepted → (number : ℕ) → Bool
writes_at accepted number = slice_index_or (map (λ a. a.writes) accepted) number false

-- each request that the core has is noted as what it is, and each entry has a reply for what was noted, with one block
pub record AreOfKind (core : CoreView) (accepted : List Accepted) (entries : List Entry) : Type 0 where
  pub asked : (number : ℕ) (request : Request) → (world_shard core).request number ≡ Some request
      → writes_at accepted number ≡ is_write request.op
  pub replied : All
      (λ e. (is_for (writes_at accepted e.id.0) e.reply ≡ true) × (length (buffer_back e.reply) ≡ core.shape.block))
      entries
