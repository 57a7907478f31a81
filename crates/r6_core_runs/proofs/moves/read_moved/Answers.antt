use Rattle.r6_core.proofs.Callers.{if_some}
use Rattle.r6_core_runs.proofs.moves.read_moved.Goals as goal

pub returns : goal.returns
returns c =
    if_some c.answer_read-2.result _ _
    (λ done moved. record {
      without_other = c.fail_read.new.core;
      other = c.in_ok-fail_read.ensures;
      without_p = c.fail_read-2.new.core;
      of_p = c.in_ok-fail_read-2.ensures;
      with_q = c.answer_read.new.core;
      of_q = c.in_ok-answer_read.ensures;
      moved = moved;
    }) c.answer_read-2.ensures
