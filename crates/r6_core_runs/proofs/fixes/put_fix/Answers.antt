use Rattle.r6_core.proofs.Callers.{if_some}
use Rattle.r6_core_runs.proofs.fixes.put_fix.Goals as goal

pub returns : goal.returns
returns c =
    if_some c.confirm_write.result _ _
    (λ done fix. record {
      half = c.answer_read.new.core;
      first = c.in_ok-answer_read.ensures;
      whole = c.answer_read-2.new.core;
      second = c.in_ok-answer_read-2.ensures;
      fix = fix;
    }) c.confirm_write.ensures
