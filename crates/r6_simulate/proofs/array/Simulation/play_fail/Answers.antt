use Rattle.std.proofs.Common.{refl, rules}
use Rattle.r6_simulate.proofs.array.Simulation.play_fail.Goals as goal

pub returns : goal.returns
returns g c =
    record {
      answer = c.fail-answer.result;
      told = c.fail-answer.ensures;
      printed = record { printed = search rules; shards = refl; geometry = refl; blocks = refl };
      devices = refl;
    }
