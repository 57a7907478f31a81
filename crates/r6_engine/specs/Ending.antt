-- How an array ends that was served: as after a wait (md(4): a resync goes on until it is done).
use Rattle.std.specs.Prelude.{◌≡◌, ℕ, ◌<◌, List, All, Option, None, Some, false}
use Rattle.r6_world.specs.Registers.{Snapshot, Status, InSync, Lost, Rebuilding, Replacing, status_of}
use Rattle.r6_world.specs.ShardStates.{limit}
use Rattle.r6_core.specs.Shards.{CoreView, synced, world_shard}
use Rattle.r6_engine.specs.declared.runner.runner.Runner.{Runner}
use Rattle.r6_shard.specs.declared.performs.Performs.{Ghosts}
use Rattle.r6_shard.specs.New.{IsNew}

-- no slot is being rebuilt or replaced
abbrev pub NoneIsBuilt : Snapshot → Type 0
NoneIsBuilt snapshot = (slot generation : ℕ) → slot < 32 → IsNew (status_of snapshot slot) generation → ⊥

-- no shard has given 2^60 tokens
abbrev pub HaveTokens : (tokens : List ℕ) → Type 0
HaveTokens tokens = All (λ given. given < limit) tokens

-- unless the array has failed, or a shard has given 2^60 tokens, no slot is being rebuilt or replaced
abbrev pub IsRebuilt : Snapshot → (tokens : List ℕ) → Type 0
IsRebuilt snapshot tokens = snapshot.failed ≡ false → HaveTokens tokens → NoneIsBuilt snapshot

-- how many tokens a shard has given
abbrev pub tokens_of : {P D : Type 0} {g : Ghosts P} → Runner P D g → ℕ
tokens_of runner = (world_shard runner.shard.core).tokens

-- the generation of the device in sync: while a slot is replaced the old one's
abbrev pub current_of : Status → Option ℕ
current_of (InSync current) = Some current
current_of Lost = None
current_of (Rebuilding new reported) = None
current_of (Replacing old new reported) = Some old

-- a core has the slot in sync as the snapshot has it, if that does
abbrev pub IsKept : (slot : ℕ) → Snapshot → CoreView → Type 0
IsKept slot snapshot core =
    (generation : ℕ) → current_of (status_of snapshot slot) ≡ Some generation
    → synced ((world_shard core).slot slot) ≡ Some generation

abbrev pub HasInSync : (slots : ℕ) → Snapshot → CoreView → Type 0
HasInSync slots snapshot core = (slot : ℕ) → slot < slots → IsKept slot snapshot core

-- each core has, unless the array has failed
abbrev pub HaveInSync : {P D : Type 0} {g : Ghosts P} → (slots : ℕ) → Snapshot → List (Runner P D g) → Type 0
HaveInSync slots snapshot runners =
    snapshot.failed ≡ false → All (λ runner. HasInSync slots snapshot runner.shard.core) runners
