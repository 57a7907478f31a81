use Rattle.r6_core_runs.proofs.rebuilds.rebuild_both.Goals as goal

pub returns : goal.returns
returns c =
    record {
      restored = c.in_ok-restored.ensures.restored;
      rebuilt = record {
        here = c.rebuild_row.new.core;
        there = c.rebuild_row-2.new.core;
        one_rebuilt = c.in_ok-restored.ensures.rebuilt;
        two_rebuilt = c.in_ok-rebuild_row.ensures.rebuilt;
        half = c.in_ok-half.half;
        half_is = c.in_ok-half.ensures;
        rebuilt_is = c.in_ok-rebuilt.ensures;
        looked = c.in_ok-look_both.ensures;
      };
    }
