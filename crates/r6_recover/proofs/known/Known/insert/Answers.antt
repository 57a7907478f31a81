use Rattle.std.proofs.Common.{Bool, true, List, set, ap}
use Rattle.r6_recover.proofs.known.Known.insert.Goals as goal

pub returns : goal.returns
returns c = ap (λ (known : List Bool). set known c.args.position true) c.self.view_is
