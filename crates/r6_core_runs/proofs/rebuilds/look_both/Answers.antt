use Rattle.std.proofs.Common.{◌∙◌, sym}
use Rattle.r6_core.specs.Effects.{LooksAt}
use Rattle.r6_core_runs.proofs.LossRuns.{of_ok}
use Rattle.r6_core_runs.proofs.rebuilds.look_both.Goals as goal

pub returns : goal.returns
returns c =
    record {
      here = (of_ok c.look.result (λ done. LooksAt c.args.first.now c.args.register.now c.look.new.self) c.in_ok-ok.field-0
          (sym c.ok.ensures.value ∙ c.in_ok-ok.was) c.look.ensures.looked).step;
      there = (of_ok c.look-2.result (λ done. LooksAt c.args.second.now c.args.register.now c.look-2.new.self) c.in_ok-ok-2.field-0
          (sym c.ok-2.ensures.value ∙ c.in_ok-ok-2.was) c.look-2.ensures.looked).step;
    }
