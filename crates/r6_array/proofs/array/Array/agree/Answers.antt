use Rattle.std.proofs.Common.{refl}
use Rattle.r6_array.proofs.array.Array.agree.Goals as goal

pub make-requires : goal.make-requires
make-requires c = c.if-not-asks_for.ensures.yes refl
