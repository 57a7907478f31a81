use Rattle.r6_core.proofs.Callers.{if_some}
use Rattle.r6_core_runs.proofs.fixes.meet_errors.Goals as goal

pub returns : goal.returns
returns c =
    if_some c.fail_read-2.result _ _
    (λ done again. record {
      asking = c.submit_read.new.core;
      asked = c.in_ok-submit_read.ensures;
      held = c.fail_read.new.core;
      direct = c.in_ok-fail_read.ensures;
      again = again;
    }) c.fail_read-2.ensures
