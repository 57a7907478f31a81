use Rattle.r6_core.proofs.Callers.{if_some}
use Rattle.r6_core_runs.proofs.replacements.lose_new.Goals as goal

pub returns : goal.returns
returns c =
    if_some c.keep_old.result _ _
    (λ done declared. record {
      held = c.take_up.new.core;
      turned = c.in_ok-take_up.ensures;
      half = c.answer_read.new.core;
      read = c.in_ok-answer_read.ensures;
      without_new = c.fail_write.new.core;
      failed = c.in_ok-fail_write.ensures;
      declared = declared;
    }) c.keep_old.ensures
