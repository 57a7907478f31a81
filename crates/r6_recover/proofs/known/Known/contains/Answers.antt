use Rattle.std.proofs.Common.{Bool, false, List, get_or, ap}
use Rattle.r6_recover.proofs.known.Known.contains.Goals as goal

pub returns : goal.returns
returns c = ap (λ (known : List Bool). get_or known c.args.position false) c.self.view_is
