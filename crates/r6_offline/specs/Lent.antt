-- What a pass leaves of the parts that it was lent, and of which of them it may tell a fault (the promises are those of
-- a device in `r6_dev`).
use Rattle.std.specs.Prelude.{◌≡◌, ◌≢◌, ◌⊎◌, ℕ, ◌<◌, List, Option, Some, None, is_some, IfSome, option_map, slice_index_or, slice_get}
use Rattle.r6_dev.specs.Promises.{Promise, Covers, FailsNone, MayAnswer}
use Rattle.r6_layout.specs.Shape.{Shape}
use Rattle.r6_layout.specs.Layout.{OwnsRow, shard_of}
use Rattle.r6_offline.specs.Parts.{Parts, TellsRows, part_number}
use Rattle.r6_offline.specs.declared.report.RowFault.{RowFault}
use Rattle.r6_offline.specs.declared.row.SlotFault.{SlotFault}

-- what each part promises, by its number; none for one that isn't there
abbrev pub Promises : Type 0
Promises = ℕ → Option Promise

abbrev pub promises_of : {D : Type 0} → (D → Promise) → List (Option D) → Promises
promises_of promised parts number = option_map promised (slice_index_or parts number None)

-- what each new part of a slot promises, by its shard
abbrev pub target_promises : {D : Type 0} → (D → Promise) → List D → Promises
target_promises promised targets shard = option_map promised (slice_get targets shard)

-- the same parts are there, and each promises what it promised
abbrev pub KeepPromises : (old new : Promises) → Type 0
KeepPromises old new = (number : ℕ) → new number ≡ old number

-- no command to a row of this shard, with a block, is failed
abbrev pub FailsNoRow : Shape → (shard : ℕ) → Promise → Type 0
FailsNoRow shape shard promise = FailsNone promise (OwnsRow shape shard) shape.block

-- each part that is there promises to fail no command to the rows of its shard
abbrev pub AllPromise : Shape → Promises → Type 0
AllPromise shape promises =
    (shard slot : ℕ) → shard < shape.shards → slot < shape.slots
    → IfSome (promises (part_number shape shard slot)) (FailsNoRow shape shard)

-- a part tells what it told
abbrev pub TellsStill : (old new : Parts) → (number : ℕ) → Type 0
TellsStill old new number =
    (first end : ℕ) (blocks : _) → TellsRows first end blocks (old number) → TellsRows first end blocks (new number)

-- the same parts are there, and each but those that failed tells what it told
pub record OnlyReadBut (HasFailed : ℕ → Type 0) (old new : Parts) : Type 0 where
  pub tells : (number : ℕ) → ¬ HasFailed number → TellsStill old new number
  pub there : (number : ℕ) → is_some (new number) ≡ is_some (old number)

-- the part that a fault names
abbrev pub failed_part : Shape → RowFault → ℕ
failed_part shape fault = part_number shape (shard_of shape fault.row) fault.slot

abbrev pub IsNamed : Shape → Option RowFault → (number : ℕ) → Type 0
IsNamed shape None number = ⊥
IsNamed shape (Some fault) number = number ≡ failed_part shape fault

-- the part that a fault names, if it is there, does not promise the rows of its shard
abbrev pub IsUnpromised : Shape → Promises → RowFault → Type 0
IsUnpromised shape promises fault =
    IfSome (promises (failed_part shape fault)) (λ promise. ¬ FailsNoRow shape (shard_of shape fault.row) promise)

-- the part that a fault names, if it is there, may answer that fault to a command of its row
abbrev pub IsOfPart : Shape → Promises → RowFault → Type 0
IsOfPart shape promises fault =
    IfSome (promises (failed_part shape fault)) (λ promise. MayAnswer promise fault.row fault.fault)

-- no fault is made up: none is told of a part that promises, none that the part never answers, and none at all if all
-- promise
pub record IsSound (shape : Shape) (promises : Promises) (fault : Option RowFault) : Type 0 where
  pub named : IfSome fault (IsUnpromised shape promises)
  pub kind : IfSome fault (IsOfPart shape promises)
  pub all : AllPromise shape promises → fault ≡ None

-- a part of a shard before that of the fault, or another part of that shard; any part where there is no fault
abbrev pub MetNoFault : Shape → Option RowFault → (shard slot : ℕ) → Type 0
MetNoFault shape fault shard slot =
    IfSome fault (λ fault. (shard < shard_of shape fault.row)
    ⊎ ((shard ≡ shard_of shape fault.row) × (slot ≢ fault.slot)))

-- What a check of the shards, each in a thread of its own, leaves. Threads of shards after that of the fault may have
-- met faults that are not told, but none of a part that promises
pub record AreLeft (shape : Shape) (promises : Promises) (fault : Option RowFault) (old new : Parts) : Type 0 where
  pub promising : (shard slot : ℕ) → shard < shape.shards → slot < shape.slots
      → IfSome (promises (part_number shape shard slot)) (FailsNoRow shape shard)
      → TellsStill old new (part_number shape shard slot)
  pub unfailed : (shard slot : ℕ) → shard < shape.shards → slot < shape.slots → MetNoFault shape fault shard slot
      → TellsStill old new (part_number shape shard slot)
  pub there : (number : ℕ) → is_some (new number) ≡ is_some (old number)

-- the part of a slot answered a fault to the read of a row: it had not promised that row, may answer this fault, and
-- each other part tells what it told
pub record FailsAlone (shape : Shape) (promises : Promises) (old new : Parts) (row : ℕ) (fault : SlotFault) : Type 0
  where
    pub kept : OnlyReadBut (λ number. number ≡ part_number shape (shard_of shape row) fault.slot) old new
    pub unpromised : IfSome (promises (part_number shape (shard_of shape row) fault.slot))
        (λ promise. ¬ Covers promise row shape.block)
    pub kind : IfSome (promises (part_number shape (shard_of shape row) fault.slot))
        (λ promise. MayAnswer promise row fault.fault)
