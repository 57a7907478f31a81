use Rattle.std.proofs.Common.{◌∙◌, sym}
use Rattle.r6_core.specs.Effects.{LooksAt}
use Rattle.r6_core_runs.proofs.LossRuns.{of_ok}
use Rattle.r6_core_runs.proofs.replacements.look_beside.Goals as goal

pub returns : goal.returns
returns c =
    record {
      replacing_is = c.in_ok-replacing.ensures;
      looked = (of_ok c.look.result (λ done. LooksAt c.args.core.now c.in_ok-replacing.replacing c.look.new.self) c.in_ok-ok.field-0
          (sym c.ok.ensures.value ∙ c.in_ok-ok.was) c.look.ensures.looked).step;
    }
