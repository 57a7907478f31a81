use Rattle.r6_recover.proofs.row.RowBuf.new.Goals as goal

pub returns : goal.returns
returns c = c.in_ok-blocks.ensures
