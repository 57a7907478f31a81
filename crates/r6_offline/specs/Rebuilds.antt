-- What a rebuild of a slot leaves.
use Rattle.std.specs.Prelude.{◌≡◌, ◌≢◌, ◌⊎◌, ℕ, ◌-◌, ◌*◌, ◌<◌, ◌≤◌, true, false, List, Option, Some, None, is_some, IfSome, option_map, slice_get}
use Rattle.r6_dev.specs.History.{Block, Blocks, Telling, put}
use Rattle.r6_kernels.specs.Blocks.{piece}
use Rattle.r6_layout.specs.Shape.{Shape, data_slots}
use Rattle.r6_layout.specs.Layout.{OwnsRow, shard_of, slot_at, position_at}
use Rattle.r6_recover.specs.Rows.{block_at, IsFullRow}
use Rattle.r6_dev.specs.declared.fault.Fault.{Fault}
use Rattle.r6_dev.specs.declared.fault.Fault.TheVariants.{ReadFault, WriteFault, Gone}
use Rattle.r6_dev.specs.Promises.{Covers, MayAnswer}
use Rattle.r6_offline.specs.Lent.{AllPromise, FailsNoRow, IsOfPart, IsUnpromised, OnlyReadBut, Promises}
use Rattle.r6_offline.specs.Parts.{Parts, Devices, AllTell, OnlyRead, part_number}
use Rattle.r6_offline.specs.Reports.{IsRowFault, rows_before}
use Rattle.r6_offline.specs.Rows.{Fits}
use Rattle.r6_offline.specs.Stretches.{FitsLongRow}
use Rattle.r6_offline.specs.declared.long_row.LongRow.{LongRow}
use Rattle.r6_offline.specs.declared.rebuild.Rebuilt.{Rebuilt}
use Rattle.r6_offline.specs.declared.rebuild.Room.{Room}
use Rattle.r6_offline.specs.declared.report.RowFault.{RowFault}
use Rattle.r6_offline.specs.declared.row.SlotFault.{SlotFault}

-- the new parts of the target, by shard
abbrev pub targets_of : {D : Type 0} → (D → Telling) → List D → Parts
targets_of told targets shard = option_map told (slice_get targets shard)

-- an array whose rows are full, and the blocks that its devices then have
abbrev pub AreFullRows : Shape → (ℕ → List Block) → Type 0
AreFullRows shape full = (row : ℕ) → row < shape.rows → IsFullRow (data_slots shape) shape.block (full row)

abbrev pub devices_of : Shape → (ℕ → List Block) → Devices
devices_of shape full slot row = block_at (full row) (position_at shape row slot)

-- each new part tells its blocks
abbrev pub AreTelling : Shape → Parts → Type 0
AreTelling shape targets =
    (shard : ℕ) → shard < shape.shards → (blocks : Blocks) × (targets shard ≡ Some (Some blocks))

-- the new part of a shard holds these blocks, in the rows below the end
abbrev pub HoldsBelow : Shape → Parts → (shard end : ℕ) → (ℕ → Block) → Type 0
HoldsBelow shape targets shard end column =
    (blocks : Blocks) × (targets shard ≡ Some (Some blocks))
    × ((row : ℕ) → OwnsRow shape shard row → row < end → blocks row ≡ column row)

-- the blocks of a row are those of the one full row with which the parts agree
abbrev pub IsRestoredRow : Shape → Parts → ℕ → List Block → Type 0
IsRestoredRow shape parts row blocks =
    (device : Devices) (full : List Block) → AllTell shape parts device → IsFullRow (data_slots shape) shape.block full
    → ((position : ℕ) → position < shape.slots → device (slot_at shape row position) row ≡ block_at full position)
    → blocks ≡ full

-- a long row has the target's blocks, put together, of rows that were restored
abbrev pub HasRestored : Shape → (target : ℕ) → (full : ℕ → List Block) → LongRow → Type 0
HasRestored shape target full long =
    (row : ℕ) → long.first_row ≤ row → row < long.end
    → piece ((row - long.first_row) * shape.block) shape.block long.block ≡ devices_of shape full target row

-- rows that are restored are of the array of full rows that the parts tell, where those before were
abbrev pub AreRestored : Shape → Parts → (target : ℕ) → (before after : LongRow) → Type 0
AreRestored shape parts target before after =
    (full : ℕ → List Block) → AreFullRows shape full → AllTell shape parts (devices_of shape full)
    → HasRestored shape target full before → HasRestored shape target full after

-- and so is the block of this row
abbrev pub IsRestoredBlock : Shape → Parts → (target row : ℕ) → (before : LongRow) → Block → Type 0
IsRestoredBlock shape parts target row before block =
    (full : ℕ → List Block) → AreFullRows shape full → AllTell shape parts (devices_of shape full)
    → HasRestored shape target full before → block ≡ devices_of shape full target row

-- a block was written to a row of one new part
pub record PartWritten (old new : Parts) (shard row : ℕ) (block : Block) : Type 0 where
  pub others : (other : ℕ) → other ≢ shard → new other ≡ old other
  pub written : (blocks : Blocks) → old shard ≡ Some (Some blocks) → new shard ≡ Some (Some (put blocks row block))

-- the target's block of a row was written, from the array of full rows that the parts tell
pub record RowRebuilt (shape : Shape) (target row : ℕ) (parts parts' targets targets' : Parts) (before after : LongRow)
    : Type 0 where
  pub only_read : OnlyRead parts parts'
  pub block : Block
  pub restored : IsRestoredBlock shape parts target row before block
  pub written : PartWritten targets targets' (shard_of shape row) row block
  pub ahead : AreRestored shape parts target before after

-- room for one row of the array, and for those of a stretch
pub record FitsRoom (shape : Shape) (room : Room) : Type 0 where
  pub reader : Fits shape room.reader
  pub long : FitsLongRow shape room.long

-- a row was not rebuilt: the part of another slot answered a fault to its read, or the target answered one to its
-- write, or too few parts of the row are there, which is a fault of the target
pub record RebuildFails (shape : Shape) (target row : ℕ) (old new : Parts) (fault : SlotFault) : Type 0 where
  pub within : fault.slot < shape.slots
  pub of_source : fault.slot ≢ target → fault.fault ≢ WriteFault
  pub of_target : fault.slot ≡ target → fault.fault ≢ ReadFault
  pub kept : OnlyReadBut (λ number. number ≡ part_number shape (shard_of shape row) fault.slot) old new

-- in a shard at most two slots have no part
pub record MissesTwoAtMost (shape : Shape) (parts : Parts) (shard : ℕ) : Type 0 where
  pub first : ℕ
  pub second : ℕ
  pub others : (slot : ℕ) → slot < shape.slots → is_some (parts (part_number shape shard slot)) ≡ false
      → (slot ≡ first) ⊎ (slot ≡ second)

-- a fault of the target is one that its new part may answer, or it is `Gone` and too few parts of the row are there
abbrev pub IsOfTarget : Shape → Parts → (targets : Promises) → (row : ℕ) → Fault → Type 0
IsOfTarget shape parts targets row fault =
    IfSome (targets (shard_of shape row)) (λ promise. MayAnswer promise row fault)
    ⊎ ((fault ≡ Gone) × ¬ MissesTwoAtMost shape parts (shard_of shape row))

-- The fault that a row's rebuild met has a cause: the part that it names had not promised the row, and may answer it;
-- or, if it is the target's, the same of its new part, or too few parts of the row are there
pub record HasCause (shape : Shape) (target : ℕ) (parts : Parts) (promises targets : Promises) (row : ℕ)
    (fault : SlotFault) : Type 0 where
  pub there : fault.slot ≢ target → is_some (promises (part_number shape (shard_of shape row) fault.slot)) ≡ true
  pub of_source : fault.slot ≢ target → IfSome (promises (part_number shape (shard_of shape row) fault.slot))
      (λ promise. ¬ Covers promise row shape.block)
  pub of_target : fault.slot ≡ target → MissesTwoAtMost shape parts (shard_of shape row)
      → IfSome (targets (shard_of shape row)) (λ promise. ¬ Covers promise row shape.block)
  pub source_kind : fault.slot ≢ target → IfSome (promises (part_number shape (shard_of shape row) fault.slot))
      (λ promise. MayAnswer promise row fault.fault)
  pub target_kind : fault.slot ≡ target → IsOfTarget shape parts targets row fault.fault

-- each new part promises to fail no command to the rows of its shard
abbrev pub TargetsPromise : Shape → (targets : Promises) → Type 0
TargetsPromise shape targets =
    (shard : ℕ) → shard < shape.shards → IfSome (targets shard) (FailsNoRow shape shard)

-- no fault is made up: none is told of a part that promises, none of the target whose new part promises where enough
-- parts are there, none that the part which it names never answers (but `Gone` of the target where too few parts are
-- there), and none at all if all promise and enough are there
pub record IsSoundRebuild (shape : Shape) (target : ℕ) (parts : Parts) (promises targets : Promises)
    (fault : Option RowFault) : Type 0 where
  pub of_source : IfSome fault (λ fault. fault.slot ≢ target → IsUnpromised shape promises fault)
  pub of_target : IfSome fault (λ fault. fault.slot ≡ target → MissesTwoAtMost shape parts (shard_of shape fault.row)
      → IfSome (targets (shard_of shape fault.row)) (λ promise. ¬ FailsNoRow shape (shard_of shape fault.row) promise))
  pub source_kind : IfSome fault (λ fault. fault.slot ≢ target → IsOfPart shape promises fault)
  pub target_kind : IfSome fault (λ fault. fault.slot ≡ target
      → IsOfTarget shape parts targets fault.row fault.fault)
  pub all : AllPromise shape promises → TargetsPromise shape targets
      → ((shard : ℕ) → shard < shape.shards → MissesTwoAtMost shape parts shard)
      → fault ≡ None

-- the target's new part of the shard isn't the one that failed
abbrev pub IsSpared : Shape → (target shard row slot : ℕ) → Type 0
IsSpared shape target shard row slot = (slot ≢ target) ⊎ (shard ≢ shard_of shape row)

pub record IsRebuildFault (shape : Shape) (target : ℕ) (fault : RowFault) : Type 0 where
  pub of_row : IsRowFault shape fault
  pub of_source : fault.slot ≢ target → fault.fault ≢ WriteFault
  pub of_target : fault.slot ≡ target → fault.fault ≢ ReadFault

-- the rows below the end were rebuilt: those before the first fault, or all. Each new part that did not fail holds of
-- them the blocks of every array of full rows that the parts tell
pub record IsRebuilt (shape : Shape) (target : ℕ) (parts targets targets' : Parts) (rebuilt : Rebuilt) : Type 0 where
  pub rows : rebuilt.rows ≡ rows_before shape rebuilt.fault
  pub fault : IfSome rebuilt.fault (IsRebuildFault shape target)
  pub holds :
      (full : ℕ → List Block) → AreFullRows shape full → AllTell shape parts (devices_of shape full)
      → AreTelling shape targets
      → (shard : ℕ) → shard < shape.shards
      → IfSome rebuilt.fault (λ fault. IsSpared shape target shard fault.row fault.slot)
      → HoldsBelow shape targets' shard rebuilt.rows (devices_of shape full target)
