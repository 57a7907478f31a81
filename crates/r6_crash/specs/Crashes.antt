-- A crash: a run ends, wherever it is. What the devices hold then, whichever commands were out, and what makes it a
-- lawful start again where no slot is lost: P and Q of each row, made anew from its data (md(4), "UNCLEAN SHUTDOWN": md
-- resyncs the array; "BITMAP WRITE-INTENT LOGGING": only the parts that may have been written to).
use Rattle.std.specs.Prelude.{◌≡◌, ℕ, ◌<◌, ◌≤◌, List, [], ◌∷◌, length, Bool, false, nat_lt, if◌then◌else◌}
use Rattle.r6_layout.specs.PlainArray.{Block}
use Rattle.r6_world.specs.Tables.{count_below}
use Rattle.r6_world.specs.PlainArray.{Array, Plain}
use Rattle.r6_world.specs.Layouts.{Layout, slot_of, content}
use Rattle.r6_world.specs.Registers.{Snapshot, InSync, status_of}
use Rattle.r6_world.specs.ShardStates.{Shard, IsLive, IsFirstFor, IsPassedOn}
use Rattle.r6_world.specs.Worlds.{World, Devices, Moment, next}
use Rattle.r6_world.specs.Claims.{IsLawfulStart, IsUnwritten}
use Rattle.r6_world.specs.ActingPoints.{plain_next}
use Rattle.r6_world.specs.Laws.{OfEveryRun, at_start, lost_if}
use Rattle.r6_world.specs.Witness.{after_all}

-- the plain array at the end of a run: each write that had acted is in it, so each that was answered
abbrev pub plain_after_all : Layout → World → Plain → List Moment → Plain
plain_after_all l w plain [] = plain
plain_after_all l w plain (m ∷ moments) = plain_after_all l (next l w m) (plain_next l w m plain) moments

-- ---- which devices a start takes

-- reads of the row go to this device of the slot, of two to the old one, and no loss under a write to both has left it
-- unknown which block stands there
abbrev pub IsReadFrom : Layout → Shard → (row slot generation : ℕ) → Type 0
IsReadFrom l s row slot generation = IsFirstFor (s.slot slot) row generation × (IsPassedOn l s row slot → ⊥)

-- each shard is live, and each slot that isn't lost is read from this device of it, in every row
pub record IsServed (l : Layout) (lost : ℕ → Bool) (device_of : ℕ → ℕ) (w : World) : Type 0 where
  pub live : (n : ℕ) → n < l.shards → IsLive l (w.shard n)
  pub read_from : (row slot : ℕ) → row < l.rows → slot < l.slots → lost slot ≡ false
      → IsReadFrom l (w.shard (l.shard_of row)) row slot (device_of slot)

-- the slots that are lost, where none is
abbrev pub none_lost : ℕ → Bool
none_lost slot = false

-- no slot is lost, and each is read from this device of it
abbrev pub IsWhole : Layout → (device_of : ℕ → ℕ) → World → Type 0
IsWhole l device_of w = IsServed l none_lost device_of w

-- the register of a start in which these slots are lost, at most two, and nothing was attached yet
pub record IsRegisterOf (l : Layout) (lost : ℕ → Bool) (r : Snapshot) : Type 0 where
  pub many_slots : length r.slots ≡ 32
  pub status : (slot : ℕ) → slot < l.slots → status_of r slot ≡ lost_if (lost slot)
  pub no_others : (slot : ℕ) → l.slots ≤ slot → status_of r slot ≡ InSync 0
  pub few : count_below lost l.slots ≤ 2
  pub no_attach : r.attaches ≡ 0
  pub not_failed : r.failed ≡ false

-- ---- what they hold

-- what is left after a crash: the block of each row on the one device that a slot goes on with
abbrev pub Remains : Type 0
Remains = (slot row : ℕ) → Block

-- what stood on these devices when the run ended
abbrev pub held_by : (device_of : ℕ → ℕ) → Devices → Remains
held_by device_of device slot row = device slot (device_of slot) row

-- as the next start has them: each is the first device of its slot
abbrev pub as_first : Remains → Devices
as_first left slot generation row = left slot row

-- the array's blocks, as the devices of their slots have them
abbrev pub list_on : Layout → Remains → Array
list_on l left block = left (slot_of l block) (l.row_of block)

-- a resync: the data blocks of each row stay, and its P and Q are made anew from them
abbrev pub resynced : Layout → Remains → Remains
resynced l left slot row =
    if nat_lt (l.position row slot) l.data_slots then left slot row else content l (list_on l left) row slot

-- a resync of the rows that are marked, and of no others
abbrev pub resynced_in : Layout → (marked : ℕ → Bool) → Remains → Remains
resynced_in l marked left slot row = if marked row then resynced l left slot row else left slot row

-- ---- the laws

-- Wherever a run ends with no slot lost, a resync leaves a lawful start of the plain array of that very moment: of the
-- writes that weren't answered those are in it that had acted, as each does when its data device performs it
abbrev pub CrashLaw : Type 0
CrashLaw =
    OfEveryRun (λ l array start moments.
    let w = after_all l start moments in
    (device_of : ℕ → ℕ) → IsWhole l device_of w
    → (r : Snapshot) → IsRegisterOf l none_lost r
    → IsLawfulStart l r (as_first (resynced l (held_by device_of w.device)))
    (plain_after_all l start (at_start array) moments).array)

-- It is enough to resync the rows that a write holds when the run ends
abbrev pub BitmapLaw : Type 0
BitmapLaw =
    OfEveryRun (λ l array start moments.
    let w = after_all l start moments in
    (device_of : ℕ → ℕ) → IsWhole l device_of w
    → (marked : ℕ → Bool)
    → ((row : ℕ) → row < l.rows → marked row ≡ false → IsUnwritten (w.shard (l.shard_of row)) row)
    → (r : Snapshot) → IsRegisterOf l none_lost r
    → IsLawfulStart l r (as_first (resynced_in l marked (held_by device_of w.device)))
    (plain_after_all l start (at_start array) moments).array)
