use Rattle.std.proofs.Common.{◌≡◌, get_or, take}
use Rattle.r6_kernels.specs.Blocks.{p_of}
use Rattle.r6_recover.specs.Rows.{block_length}
use Rattle.r6_recover.proofs.difference.p_difference_at.Given as goal

abbrev pub invariant-loop-block : goal.invariant-loop-block
invariant-loop-block l = l.p ≡ get_or (p_of (block_length l.blocks) (take l.block-index l.data_blocks)) l.at 0
