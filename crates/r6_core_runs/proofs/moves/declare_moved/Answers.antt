use Rattle.r6_core.proofs.Callers.{if_some}
use Rattle.r6_core_runs.proofs.moves.declare_moved.Goals as goal

pub returns : goal.returns
returns c =
    if_some c.declare_old.result _ _
    (λ done of_old. record {
      one = c.declare_loss.new.core;
      other = c.in_ok-declare_loss.ensures;
      two = c.declare_loss-2.new.core;
      of_p = c.in_ok-declare_loss-2.ensures;
      of_old = of_old;
    }) c.declare_old.ensures
