use Rattle.std.proofs.Common.{◌≡◌, ℕ, ◌<◌, true, is_some}
use Rattle.r6_layout.specs.Layout.{shard_of}
use Rattle.r6_offline.specs.Parts.{part_number, parts_of}
use Rattle.r6_offline.proofs.row_check.has_absent.Given as goal

abbrev pub invariant-loop-slot : goal.invariant-loop-slot
invariant-loop-slot g l =
    (k : ℕ) → k < l.slot → is_some (parts_of g.D.BlockDevice.told l.parts (part_number l.geometry (shard_of l.geometry l.row) k)) ≡ true
