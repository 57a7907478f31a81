-- The parts that are opened on files.
use Rattle.std.specs.Prelude.{◌≡◌, ℕ, ◌+◌, ◌<◌, false, List, [], length, Option, Some, None, if◌then◌else◌, slice_get, slice_index_or}
use Rattle.r6_dev.specs.FilePart.{FilePart, is_writable}
use Rattle.r6_dev.specs.declared.file.Access.{Access}
use Rattle.r6_layout.specs.Shape.{Shape}
use Rattle.r6_layout.specs.Layout.{first_row}
use Rattle.r6_offline.specs.Parts.{is_lost, part_number}

-- a path, as its bytes
abbrev pub Path : Type 0
Path = List ℕ

-- the part of a device that serves the rows of a shard, opened at this path with this access
abbrev pub part_at : Shape → (shard : ℕ) → Path → Access → FilePart
part_at shape shard path access = record {
  path = path;
  writable = is_writable access;
  first = first_row shape shard;
  end = first_row shape (shard + 1);
  block = shape.block;
}

-- the part of a shard and a slot: none where the slot is lost, else one at the slot's path
abbrev pub opened_part : Shape → (paths : List Path) → (lost : List ℕ) → Access → (shard slot : ℕ) → Option FilePart
opened_part shape paths lost access shard slot =
    if is_lost lost slot then None else Some (part_at shape shard (slice_index_or paths slot []) access)

-- the parts of an array, opened at the paths of its slots. Each slot that isn't lost has one
pub record AreOpened (shape : Shape) (paths : List Path) (lost : List ℕ) (access : Access)
    (parts : List (Option FilePart)) : Type 0 where
  pub each : (shard slot : ℕ) → shard < shape.shards → slot < shape.slots
      → slice_index_or parts (part_number shape shard slot) None ≡ opened_part shape paths lost access shard slot
  pub have_path : (slot : ℕ) → slot < shape.slots → is_lost lost slot ≡ false → slot < length paths

-- the parts of one slot's device, opened at its path, for each shard in order
abbrev pub IsSlotOpened : Shape → Path → Access → (parts : List FilePart) → Type 0
IsSlotOpened shape path access parts =
    (shard : ℕ) → shard < shape.shards → slice_get parts shard ≡ Some (part_at shape shard path access)
