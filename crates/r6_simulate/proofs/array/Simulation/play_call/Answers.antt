use Rattle.std.proofs.Common.{inl, refl, rules}
use Rattle.r6_simulate.proofs.Passing.{on_ok}
use Rattle.r6_simulate.proofs.array.Simulation.play_call.Goals as goal

pub returns : goal.returns
returns g c =
    on_ok c.report.result _ _
    (λ reports. inl (record {
      shard = record {
        before = c.index_mut-shard.result.now;
        there = (search rules, c.index_mut-shard.ensures.value);
        outcome = c.in_ok-outcome.outcome;
        middle = c.make.new.self;
        happens = c.in_ok-outcome.ensures.outcome;
        after = c.report.new.self;
        reports = reports;
        others = refl;
        geometry = refl;
        blocks = refl;
      };
    }))
    c.report.ensures
