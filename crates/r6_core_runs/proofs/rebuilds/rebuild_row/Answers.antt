use Rattle.std.proofs.Common.{refl}
use Rattle.r6_core_runs.proofs.rebuilds.rebuild_row.Goals as goal

pub returns : goal.returns
returns c =
    record {
      restored = refl;
      rebuilt = record {
        held = c.take_up.new.core;
        turned = c.in_ok-take_up.ensures;
        half = c.answer_read.new.core;
        first = c.in_ok-answer_read.ensures;
        whole = c.answer_read-2.new.core;
        second = c.in_ok-answer_read-2.ensures;
        written = c.confirm_write.new.core;
        write = c.in_ok-confirm_write.ensures;
        report = c.in_ok-report.ensures;
      };
    }
