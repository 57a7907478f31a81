use Rattle.std.proofs.Common.{set}
use Rattle.r6_recover.proofs.row.RowBuf.set_block.Goals as goal

pub returns : goal.returns
returns c = λ i. set (c.self.view_is i) c.args.position (c.copy_from_slice.ensures.copied i)
