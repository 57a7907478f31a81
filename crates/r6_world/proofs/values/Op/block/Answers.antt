use Rattle.std.proofs.Common.{ap, sym}
use Rattle.r6_world.specs.PlainArray.{block_of}
use Rattle.r6_world.specs.Values.{op_of}
use Rattle.r6_world.proofs.values.Op.block.Goals as goal

pub returns-in-Write : goal.returns-in-Write
returns-in-Write c = ap (λ op. block_of (op_of op)) (sym c.in-Write.is)
