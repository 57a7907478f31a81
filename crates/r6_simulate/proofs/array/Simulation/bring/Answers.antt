use Rattle.std.proofs.Common.{refl, rules}
use Rattle.r6_simulate.proofs.array.Simulation.bring.Goals as goal

pub returns : goal.returns
returns c = (
  refl,
  record {
    printed = record { printed = search rules; shards = refl; geometry = refl; blocks = refl };
    devices = c.in_ok-attach.ensures.added;
  },
)
