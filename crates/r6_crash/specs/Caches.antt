-- Devices with volatile caches, which a crash may cost any of the writes that they performed since they were last
-- synced (this project's own; the NBD protocol, `NBD_CMD_FLUSH`: which writes a flush keeps).
use Rattle.std.specs.Prelude.{◌≡◌, ℕ, ◌<◌, ◌⊎◌, List, [], ◌∷◌, ◌++◌, Some}
use Rattle.r6_layout.specs.PlainArray.{Block}
use Rattle.r6_world.specs.PlainArray.{Write, Plain}
use Rattle.r6_world.specs.Layouts.{Layout}
use Rattle.r6_world.specs.Registers.{Snapshot}
use Rattle.r6_world.specs.ShardStates.{Stage}
use Rattle.r6_world.specs.Worlds.{World, Moment, next}
use Rattle.r6_world.specs.Claims.{IsLawfulStart, IsOpen}
use Rattle.r6_world.specs.Laws.{OfEveryRun, AtEach, at_start}
use Rattle.r6_world.specs.Witness.{after_all}
use Rattle.r6_crash.specs.Crashes.{Remains, IsWhole, IsRegisterOf, none_lost}
use Rattle.r6_crash.specs.Crashes.{as_first, list_on, resynced, plain_after_all}

-- a block stood on the slot's device at some moment of a run. A cache writes back at any time and in any order: of each
-- row a crash leaves a block that stood there since the device was last synced
abbrev pub StoodThere : Layout → (device_of : ℕ → ℕ) → World → List Moment → (slot row : ℕ) → Block → Type 0
StoodThere l device_of w [] slot row b = b ≡ w.device slot (device_of slot) row
StoodThere l device_of w (m ∷ moments) slot row b =
    (b ≡ w.device slot (device_of slot) row) ⊎ StoodThere l device_of (next l w m) moments slot row b

-- a write of this block with this data was accepted and isn't answered
pub record IsOpenWrite (w : World) (block : ℕ) (b : Block) : Type 0 where
  pub shard : ℕ
  pub id : ℕ
  pub stage : Stage
  pub accepted : (w.shard shard).request id ≡ Some (record { op = Write block b; stage = stage })
  pub open_yet : IsOpen stage

-- it was so at some moment of a run
abbrev pub WasOpenWrite : Layout → World → List Moment → (block : ℕ) → Block → Type 0
WasOpenWrite l w [] block b = ⊥
WasOpenWrite l w (m ∷ moments) block b = IsOpenWrite w block b ⊎ WasOpenWrite l (next l w m) moments block b

-- a resync leaves a lawful start of what the data devices hold: of each block what the plain array had at the sync, or
-- what a write has that was open since
pub record StartsSince (l : Layout) (r : Snapshot) (w : World) (plain : Plain) (since : List Moment) (left : Remains) :
    Type 0 where
  pub lawful : IsLawfulStart l r (as_first (resynced l left)) (list_on l left)
  pub blocks : (block : ℕ) → block < l.blocks
      → (list_on l left block ≡ plain.array block) ⊎ WasOpenWrite l w since block (list_on l left block)

-- A run up to a moment from which on each device was synced, and on from there with no slot lost at any moment:
-- whatever the devices have lost of what they performed since, block by block, a resync leaves such a start. So a write
-- that was answered before a flush began, with no other write of its block open since, is kept
abbrev pub CacheLaw : Type 0
CacheLaw =
    OfEveryRun (λ l array start moments.
    (before since : List Moment) → moments ≡ before ++ since
    → let w = after_all l start before in
    (device_of : ℕ → ℕ) → AtEach l (IsWhole l device_of) w since
    → (left : Remains)
    → ((slot row : ℕ) → slot < l.slots → row < l.rows → StoodThere l device_of w since slot row (left slot row))
    → (r : Snapshot) → IsRegisterOf l none_lost r
    → StartsSince l r w (plain_after_all l start (at_start array) before) since left)
