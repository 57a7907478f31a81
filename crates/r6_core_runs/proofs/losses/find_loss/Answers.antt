use Rattle.r6_core.proofs.Callers.{if_some}
use Rattle.r6_core_runs.proofs.losses.find_loss.Goals as goal

pub returns : goal.returns
returns c =
    if_some c.declare_loss.result _ _
    (λ done declared. record {
      asking = c.submit_read.new.core;
      asked = c.in_ok-submit_read.ensures;
      failing = c.fail_read.new.core;
      failed = c.in_ok-fail_read.ensures;
      declared = declared;
    }) c.declare_loss.ensures
