use Rattle.std.proofs.Common.{ap, sym}
use Rattle.r6_core.specs.Order.{reply_to}
use Rattle.r6_core.proofs.state.answer_to.Goals as goal

pub returns-in-Read : goal.returns-in-Read
returns-in-Read c = ap reply_to (sym c.in-Read.is)
