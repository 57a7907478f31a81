use Rattle.r6_core.proofs.Callers.{if_some}
use Rattle.r6_core_runs.proofs.replacements.restore_row.Goals as goal

pub returns : goal.returns
returns c =
    if_some c.confirm_write.result _ _
    (λ done write. record {
      held = c.take_up.new.core;
      turned = c.in_ok-take_up.ensures;
      without_old = c.fail_read.new.core;
      failed = c.in_ok-fail_read.ensures;
      half = c.answer_read.new.core;
      first = c.in_ok-answer_read.ensures;
      whole = c.answer_read-2.new.core;
      second = c.in_ok-answer_read-2.ensures;
      write = write;
    }) c.confirm_write.ensures
