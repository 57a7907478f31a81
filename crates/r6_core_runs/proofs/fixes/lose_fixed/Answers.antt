use Rattle.std.proofs.Common.{◌∙◌, sym}
use Rattle.r6_core.specs.Effects.{LooksAt}
use Rattle.r6_core.proofs.Callers.{if_some}
use Rattle.r6_core_runs.proofs.LossRuns.{of_ok}
use Rattle.r6_core_runs.proofs.fixes.lose_fixed.Goals as goal

pub returns : goal.returns
returns c =
    if_some c.take_block.result _ _
    (λ block replied. record {
      missing = c.fail_read.new.core;
      again = c.in_ok-fail_read.ensures;
      lost = c.declare_loss.new.core;
      declared = c.in_ok-declare_loss.ensures;
      seeing = c.look.new.self;
      looked = (of_ok c.look.result (λ done. LooksAt c.declare_loss.new.core c.args.register.now c.look.new.self) c.in_ok-ok.field-0
          (sym c.ok.ensures.value ∙ c.in_ok-ok.was) c.look.ensures.looked).step;
      replied = replied;
    }) c.take_block.ensures
