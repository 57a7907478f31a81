use Rattle.r6_core.proofs.Callers.{if_some}
use Rattle.r6_core_runs.proofs.fixes.declare_three.Goals as goal

pub returns : goal.returns
returns c =
    if_some c.declare_loss-3.result _ _
    (λ done third. record {
      one = c.declare_loss.new.core;
      first = c.in_ok-declare_loss.ensures;
      two = c.declare_loss-2.new.core;
      second = c.in_ok-declare_loss-2.ensures;
      third = third;
    }) c.declare_loss-3.ensures
