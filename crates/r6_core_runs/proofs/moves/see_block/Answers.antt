use Rattle.std.proofs.Common.{◌∙◌, sym}
use Rattle.r6_core.specs.Effects.{LooksAt}
use Rattle.r6_core.proofs.Callers.{if_some}
use Rattle.r6_core_runs.proofs.LossRuns.{of_ok}
use Rattle.r6_core_runs.proofs.moves.see_block.Goals as goal

pub returns : goal.returns
returns c =
    if_some c.take_block.result _ _
    (λ back replied. record {
      seeing = c.look.new.self;
      looked = (of_ok c.look.result (λ done. LooksAt c.args.core.now c.args.register.now c.look.new.self) c.in_ok-ok.field-0
          (sym c.ok.ensures.value ∙ c.in_ok-ok.was) c.look.ensures.looked).step;
      replied = replied;
    }) c.take_block.ensures
