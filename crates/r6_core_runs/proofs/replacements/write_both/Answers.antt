use Rattle.r6_core.proofs.Callers.{if_some}
use Rattle.r6_core_runs.proofs.replacements.write_both.Goals as goal

pub returns : goal.returns
returns c =
    if_some c.confirm_write-4.result _ _
    (λ done of_q. record {
      asking = c.submit_write.new.core;
      asked = c.in_ok-submit_write.ensures;
      knowing = c.answer_read.new.core;
      other = c.in_ok-answer_read.ensures;
      one = c.confirm_write.new.core;
      first = c.in_ok-confirm_write.ensures;
      two = c.confirm_write-2.new.core;
      second = c.in_ok-confirm_write-2.ensures;
      three = c.confirm_write-3.new.core;
      of_p = c.in_ok-confirm_write-3.ensures;
      of_q = of_q;
    }) c.confirm_write-4.ensures
