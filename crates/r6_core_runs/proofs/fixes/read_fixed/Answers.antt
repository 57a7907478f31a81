use Rattle.std.proofs.Common.{◌∙◌, sym}
use Rattle.r6_core.specs.Effects.{LooksAt}
use Rattle.r6_core.proofs.Callers.{if_some}
use Rattle.r6_core_runs.proofs.LossRuns.{of_ok}
use Rattle.r6_core_runs.proofs.fixes.read_fixed.Goals as goal

pub returns : goal.returns
returns c =
    if_some c.take_block.result _ _
    (λ block replied. record {
      known = c.answer_read.new.core;
      again = c.in_ok-answer_read.ensures;
      seeing = c.look.new.self;
      looked = (of_ok c.look.result (λ done. LooksAt c.answer_read.new.core c.args.register.now c.look.new.self) c.in_ok-ok.field-0
          (sym c.ok.ensures.value ∙ c.in_ok-ok.was) c.look.ensures.looked).step;
      replied = replied;
    }) c.take_block.ensures
