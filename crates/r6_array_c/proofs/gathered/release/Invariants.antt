use Rattle.std.proofs.Common.{◌≡◌, length}
use Rattle.r6_array_c.specs.Blocks.{KeepsLengths, all_kept}
use Rattle.r6_array_c.proofs.gathered.release.Given as goal

abbrev pub invariant-loop-op : goal.invariant-loop-op
invariant-loop-op l =
    record {
      lengths : KeepsLengths l.fn.blocks l.blocks;
      kept : all_kept l.blocks l.list ≡ all_kept l.fn.blocks l.fn.list;
    }

abbrev pub decreases-loop-op : goal.decreases-loop-op
decreases-loop-op l = length l.list
