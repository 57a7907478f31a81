use Rattle.std.proofs.Common.{◌≡◌, get_or, take}
use Rattle.r6_kernels.specs.Blocks.{q_of}
use Rattle.r6_recover.specs.Rows.{block_length}
use Rattle.r6_recover.proofs.difference.q_difference_at.Given as goal

abbrev pub invariant-loop-i : goal.invariant-loop-i
invariant-loop-i l = l.q ≡ get_or (q_of (block_length l.blocks) (take l.i l.data_blocks)) l.at 0
