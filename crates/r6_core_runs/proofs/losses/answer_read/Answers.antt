use Rattle.r6_core.proofs.Callers.{if_some}
use Rattle.r6_core_runs.proofs.losses.answer_read.Goals as goal

pub returns : goal.returns
returns c =
    if_some c.complete.result _ _
    (λ done delivered. record {
      token = c.in_ok-command.command.token;
      middle = c.take_read.new.core;
      took = c.in_ok-command.ensures;
      delivered = delivered;
    }) c.complete.ensures
