use Rattle.std.proofs.Common.{refl}
use Rattle.r6_recover.proofs.known.Known.none.Goals as goal

pub returns : goal.returns
returns c = refl
