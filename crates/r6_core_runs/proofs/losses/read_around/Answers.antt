use Rattle.std.proofs.Common.{◌∙◌, sym}
use Rattle.r6_core.specs.Effects.{LooksAt}
use Rattle.r6_core.proofs.Callers.{if_some}
use Rattle.r6_core_runs.proofs.LossRuns.{of_ok}
use Rattle.r6_core_runs.proofs.losses.read_around.Goals as goal

pub returns : goal.returns
returns c =
    if_some c.restore.result _ _
    (λ block restored. record {
      looking = c.look.new.self;
      saw = (of_ok c.look.result (λ done. LooksAt c.args.core.now c.args.register.now c.look.new.self) c.in_ok-ok.field-0
          (sym c.ok.ensures.value ∙ c.in_ok-ok.was) c.look.ensures.looked).step;
      asking = c.submit_read.new.core;
      asked = c.in_ok-submit_read.ensures;
      restored = restored;
    }) c.restore.ensures
