-- The ledger of a shard, as its thread left it (this project's own).
use Rattle.std.specs.Prelude.{◌≡◌, ℕ, ◌≤◌, ◌+◌, List, [], ◌++◌, length, vec_capacity, Option, Some, option_map, filter_map, IsPermutation}
use Rattle.std.specs.List.{range_with_len}
use Rattle.r6_dev.specs.History.{Blocks, Telling}
use Rattle.r6_world.specs.ShardStates.{Shard}
use Rattle.r6_core.specs.Shards.{CoreView, synced, world_shard}
use Rattle.r6_engine.specs.declared.runner.runner.Runner.{Runner}
use Rattle.r6_engine.specs.Replies.{ledger_entries}
use Rattle.r6_engine.specs.declared.joining.back.Back.{Back}
use Rattle.r6_engine.specs.declared.handback.Page.{Page}
use Rattle.r6_engine.specs.declared.handback.PageRoom.{PageRoom}
use Rattle.r6_engine.specs.declared.ledger.Ledger.{Ledger}
use Rattle.r6_engine.specs.declared.part.ShardParts.{ShardParts}
use Rattle.r6_shard.specs.declared.performs.Performs.{Ghosts}
use Rattle.r6_shard.specs.Parts.{labels_of, part_in}
use Rattle.r6_shard.specs.Performing.{HasPart, IsHere}

-- a slot that the shard has in sync, with the generation of its device, of two that of the first; nothing where the
-- slot is out
abbrev pub synced_at : Shard → (slot : ℕ) → Option (ℕ × ℕ)
synced_at s slot = option_map (λ generation. (slot, generation)) (synced (s.slot slot))

-- the slots that the shard has in sync, among so many from slot 0 on, in order
abbrev pub synced_in : (slots : ℕ) → Shard → List (ℕ × ℕ)
synced_in slots s = filter_map (synced_at s) (range_with_len 0 slots)

-- those that a core has
abbrev pub in_sync_at : CoreView → (slot : ℕ) → Option (ℕ × ℕ)
in_sync_at core = synced_at (world_shard core)

abbrev pub in_sync_in : CoreView → List (ℕ × ℕ)
in_sync_in core = synced_in core.shape.slots (world_shard core)

-- it tells what the shard did, and how it is
pub record IsLedgerOf {P D : Type 0} {g : Ghosts P} (r : Runner P D g) (ledger : Ledger) : Type 0 where
  pub requests : ledger.requests.items ≡ r.shard.asked.items
  pub entries : ledger.entries.items ≡ ledger_entries r.shard.entries.items
  pub in_sync : ledger.in_sync.items ≡ in_sync_in r.shard.core
  pub named : ledger.named ≡ r.shard.named
  pub saw_failed : ledger.saw_failed ≡ (world_shard r.shard.core).saw_failed
  pub saw_out : ledger.saw_out ≡ r.shard.saw_out
  pub tokens : ledger.tokens ≡ (world_shard r.shard.core).tokens
  pub last_look : ledger.last_look ≡ r.shard.last

-- The shard's parts, as it gives them back: all are there again, in whatever order; of each slot and generation of
-- which one was taken up, and no other, one is among those that the shard used; and it tells its blocks wherever the
-- shard knew them
pub record AreBack {P D : Type 0} {g : Ghosts P} (told : D → Telling) (r : Runner P D g) (back : ShardParts D)
    : Type 0 where
  pub labels : IsPermutation ((g.performer r.shard.parts).labels ++ labels_of r.others.items)
      (labels_of back.parts.items ++ labels_of back.others.items)
  pub here : (slot generation : ℕ) → IsHere (g.performer r.shard.parts).labels slot generation
      → IsHere (labels_of back.parts.items) slot generation
  pub there : (slot generation : ℕ) → HasPart (part_in told back.parts.items) slot generation
      → HasPart (g.performer r.shard.parts).tells slot generation
  pub tells : (slot generation : ℕ) (blocks : Blocks)
      → (g.performer r.shard.parts).tells slot generation ≡ Some (Some blocks)
      → part_in told back.parts.items slot generation ≡ Some (Some blocks)

-- ---- while they are handed back

-- nothing has come back, and there is room for so many parts of either kind
pub record IsEmpty {D : Type 0} (room : ℕ) (back : Back D) : Type 0 where
  pub no_part : back.parts.items ≡ []
  pub no_other : back.others.items ≡ []
  pub parts_room : room ≤ vec_capacity back.parts
  pub others_room : room ≤ vec_capacity back.others

-- a page that is empty, with this room
pub record IsPage {D : Type 0} (room : PageRoom) (page : Page D) : Type 0 where
  pub no_entry : page.entries.items ≡ []
  pub no_slot : page.in_sync.items ≡ []
  pub no_worker : page.workers.items ≡ []
  pub entries_room : room.entries ≤ vec_capacity page.entries
  pub slots_room : room.slots ≤ vec_capacity page.in_sync
  pub workers_room : room.workers ≤ vec_capacity page.workers
  pub back : IsEmpty room.parts page.back

-- a shard needs no more room
pub record FitsPage {P D : Type 0} {g : Ghosts P} (room : PageRoom) (r : Runner P D g) : Type 0 where
  pub told : length r.shard.entries.items ≤ room.entries
  pub shape : room.slots ≡ r.shard.core.shape.slots
  pub parts : (g.performer r.shard.parts).part_room ≤ room.parts
  pub all : length (g.performer r.shard.parts).labels + length r.others.items ≤ room.parts
