use Rattle.r6_waiters.proofs.Words.{part-from}
use Rattle.r6_waiters.proofs.positions.part_from.Goals as goal

pub returns-then-index-from : goal.returns-then-index-from
returns-then-index-from c i within = part-from c.args.word c.args.index c.args.from i c.if-index-from.true within
