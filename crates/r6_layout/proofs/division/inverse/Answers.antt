use Rattle.r6_layout.proofs.Quotients.{inverse_at}
use Rattle.r6_layout.proofs.division.inverse.Goals as goal

pub returns : goal.returns
returns c = inverse_at c.args.divisor c.requires.some c.requires.most
