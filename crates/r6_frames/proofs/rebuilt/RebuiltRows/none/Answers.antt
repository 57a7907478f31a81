use Rattle.std.proofs.Common.{refl}
use Rattle.r6_frames.proofs.rebuilt.RebuiltRows.none.Goals as goal

pub returns : goal.returns
returns c = refl
