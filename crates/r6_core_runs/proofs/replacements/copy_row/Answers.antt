use Rattle.r6_core.proofs.Callers.{if_some}
use Rattle.r6_core_runs.proofs.replacements.copy_row.Goals as goal

pub returns : goal.returns
returns c =
    if_some c.confirm_write.result _ _
    (λ done write. record {
      held = c.take_up.new.core;
      turned = c.in_ok-take_up.ensures;
      half = c.answer_read.new.core;
      read = c.in_ok-answer_read.ensures;
      write = write;
    }) c.confirm_write.ensures
