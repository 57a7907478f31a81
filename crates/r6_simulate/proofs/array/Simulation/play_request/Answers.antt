use Rattle.std.proofs.Common.{refl, rules, sym}
use Rattle.r6_simulate.proofs.Passing.{on_ok}
use Rattle.r6_simulate.proofs.array.Simulation.play_request.Goals as goal

pub returns : goal.returns
returns c =
    on_ok c.report.result _ _
    (λ reports. record {
      shard = rw (sym c.shard_of_block-number.ensures.value) (record {
        before = c.index_mut-shard.result.now;
        there = (search rules, c.index_mut-shard.ensures.value);
        outcome = c.submit-outcome.result;
        middle = c.submit-outcome.new.self;
        happens = c.submit-outcome.ensures;
        after = c.report.new.self;
        reports = reports;
        others = refl;
        geometry = refl;
        blocks = refl;
      });
      register = refl;
      devices = refl;
    })
    c.report.ensures
