use Rattle.std.proofs.Common.{◌∙◌, sym}
use Rattle.r6_core.specs.Effects.{LooksAt}
use Rattle.r6_core.proofs.Callers.{if_some}
use Rattle.r6_core_runs.proofs.LossRuns.{of_ok}
use Rattle.r6_core_runs.proofs.replacements.read_old.Goals as goal

pub returns : goal.returns
returns c =
    if_some c.take_block.result _ _
    (λ back replied. record {
      knowing = c.look.new.self;
      saw = (of_ok c.look.result (λ done. LooksAt c.args.core.now c.args.register.now c.look.new.self) c.in_ok-ok.field-0
          (sym c.ok.ensures.value ∙ c.in_ok-ok.was) c.look.ensures.looked).step;
      asking = c.submit_read.new.core;
      asked = c.in_ok-submit_read.ensures;
      reading = c.answer_read.new.core;
      read = c.in_ok-answer_read.ensures;
      seeing = c.look-2.new.self;
      looked = (of_ok c.look-2.result (λ done. LooksAt c.answer_read.new.core c.args.register.now c.look-2.new.self) c.in_ok-ok-2.field-0
          (sym c.ok-2.ensures.value ∙ c.in_ok-ok-2.was) c.look-2.ensures.looked).step;
      replied = replied;
    }) c.take_block.ensures
