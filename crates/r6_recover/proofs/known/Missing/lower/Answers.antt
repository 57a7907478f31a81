use Rattle.std.proofs.Common.{sym, ap}
use Rattle.r6_recover.specs.Known.{lower_of}
use Rattle.r6_recover.proofs.known.Missing.lower.Goals as goal

pub returns-in-Two : goal.returns-in-Two
returns-in-Two c = ap lower_of (sym c.in-Two.is)
