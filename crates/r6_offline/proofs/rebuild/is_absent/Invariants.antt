use Rattle.std.proofs.Common.{◌≡◌, ℕ, ◌<◌, false, is_some}
use Rattle.r6_offline.specs.Parts.{part_number, parts_of}
use Rattle.r6_offline.proofs.rebuild.is_absent.Given as goal

abbrev pub invariant-loop-shard : goal.invariant-loop-shard
invariant-loop-shard g l =
    (k : ℕ) → k < l.shard → is_some (parts_of g.D.BlockDevice.told l.parts (part_number l.geometry k l.slot)) ≡ false
