use Rattle.std.proofs.Common.{refl, arith}
use Rattle.r6_offline.proofs.files.create_file.Goals as goal

pub returns : goal.returns
returns g c = (omega arith, refl)
