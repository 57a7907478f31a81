-- What a look makes of a slot, and what the loss of a device does (this project's own).
use Rattle.std.specs.Prelude.{◌≡◌, ◌≢◌, ◌⊎◌, ℕ, Bool, true, false}
use Rattle.r6_stripe.specs.Holds.{Standing}
use Rattle.r6_world.specs.Registers.{Status, InSync, Lost, Rebuilding, Replacing, ShardSet}
use Rattle.r6_world.specs.ShardStates.{SlotState, Synced, Missing, Building, Doubled, Paired, InSyncFor, has_device, standing_of}
use Rattle.r6_world.specs.Changes.{Some_rows, part_of, adopted, differs, without}

-- no row is in sync on a device by a look
abbrev pub LookBringsNothing : Type 0
LookBringsNothing =
    (now : SlotState) (status : Status) (row generation : ℕ) → InSyncFor (adopted now status) row generation
    → InSyncFor now row generation

-- nor by a loss
abbrev pub LossBringsNothing : Type 0
LossBringsNothing =
    (now : SlotState) (lost row generation : ℕ) → InSyncFor (without now lost) row generation
    → InSyncFor now row generation

-- a look that finds the slot as it is leaves it so
abbrev pub SameIsLeft : Type 0
SameIsLeft = (now : SlotState) (status : Status) → differs now status ≡ false → adopted now status ≡ now

-- the devices that the register has in a slot
abbrev pub IsDeviceOf : Status → (generation : ℕ) → Type 0
IsDeviceOf (InSync current) generation = current ≡ generation
IsDeviceOf Lost generation = ⊥
IsDeviceOf (Rebuilding current reported) generation = current ≡ generation
IsDeviceOf (Replacing old new reported) generation = (old ≡ generation) ⊎ (new ≡ generation)

-- after a look the shard has no device in the slot that the register has not
abbrev pub LookKeepsNoOther : Type 0
LookKeepsNoOther =
    (now : SlotState) (status : Status) (generation : ℕ) → has_device (adopted now status) generation ≡ true
    → IsDeviceOf status generation

-- the register has this device as the old one of two, and the shard has only some of its rows
abbrev pub IsOldInPart : SlotState → Status → (generation : ℕ) → Type 0
IsOldInPart now (Replacing old new reported) generation =
    (old ≡ generation) × (old ≢ new) × (built : ℕ → Bool) × (part_of now generation ≡ Some_rows built)
IsOldInPart now status generation = ⊥

-- a look keeps what is in sync on a device that the register has, unless it is so an old one in part
abbrev pub LookKeepsRows : Type 0
LookKeepsRows =
    (now : SlotState) (status : Status) (row generation : ℕ) → InSyncFor now row generation
    → IsDeviceOf status generation
    → InSyncFor (adopted now status) row generation ⊎ IsOldInPart now status generation

-- Taking out the first of two devices, by an error or by a look, leaves each row in sync that was built on the second
abbrev pub MoveLosesNothing : Type 0
MoveLosesNothing =
    (old new row : ℕ) (built : ℕ → Bool) (reported : ShardSet) → old ≢ new → built row ≡ true
    → (standing_of (without (Doubled old new built) old) row ≡ Standing.InSync)
    × (standing_of (without (Paired old new) old) row ≡ Standing.InSync)
    × (standing_of (adopted (Doubled old new built) (Rebuilding new reported)) row ≡ Standing.InSync)
    × (standing_of (adopted (Paired old new) (InSync new)) row ≡ Standing.InSync)

-- and without the second one the slot is in sync as before
abbrev pub DropLosesNothing : Type 0
DropLosesNothing =
    (old new : ℕ) (built : ℕ → Bool) (reported : ShardSet) → old ≢ new
    → (without (Doubled old new built) new ≡ Synced old) × (without (Paired old new) new ≡ Synced old)
    × (adopted (Doubled old new built) (InSync old) ≡ Synced old)
    × (adopted (Paired old new) (InSync old) ≡ Synced old)

-- the looks of a replacement, one after another
pub record LookExamples (reported : ShardSet) (built : ℕ → Bool) : Type 0 where
  -- it begins
  pub begins : adopted (Synced 0) (Replacing 0 1 reported) ≡ Doubled 0 1 (λ row. false)
  pub goes_on : adopted (Doubled 0 1 built) (Replacing 0 1 reported) ≡ Doubled 0 1 built
  pub waits : adopted (Paired 0 1) (Replacing 0 1 reported) ≡ Paired 0 1
  -- it is complete
  pub changes_over : adopted (Paired 0 1) (InSync 1) ≡ Synced 1
  -- the new device was lost elsewhere, and another one came
  pub keeps : adopted (Doubled 0 1 built) (InSync 0) ≡ Synced 0
  pub another : adopted (Doubled 0 1 built) (Replacing 0 2 reported) ≡ Doubled 0 2 (λ row. false)
  pub another_when_built : adopted (Paired 0 1) (Replacing 0 2 reported) ≡ Doubled 0 2 (λ row. false)
  -- it is complete, and the next one has begun since
  pub next : adopted (Paired 0 1) (Replacing 1 2 reported) ≡ Doubled 1 2 (λ row. false)
  -- the old device was lost elsewhere
  pub rebuilds : adopted (Doubled 0 1 built) (Rebuilding 1 reported) ≡ Building 1 built
  pub is_rebuilt : adopted (Paired 0 1) (Rebuilding 1 reported) ≡ Synced 1
  -- here too
  pub stays : adopted (Building 1 built) (Rebuilding 1 reported) ≡ Building 1 built
  pub stays_rebuilt : adopted (Synced 1) (InSync 1) ≡ Synced 1
  -- both were
  pub is_lost : adopted (Paired 0 1) Lost ≡ Missing
  pub anew : adopted (Doubled 0 1 built) (Rebuilding 2 reported) ≡ Building 2 (λ row. false)
  -- one that the shard never had in sync
  pub behind : adopted Missing (Replacing 0 1 reported) ≡ Building 1 (λ row. false)

abbrev pub LooksOfAReplacement : Type 0
LooksOfAReplacement = (reported : ShardSet) (built : ℕ → Bool) → LookExamples reported built
