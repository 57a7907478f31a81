use Rattle.std.proofs.Common.{◌∙◌, sym, subst}
use Rattle.r6_world.specs.Steps.{Deliver}
use Rattle.r6_world.specs.Values.{completion_of, receipt_of}
use Rattle.r6_core.specs.Shards.{Step}
use Rattle.r6_core_runs.proofs.LossRuns.{received}
use Rattle.r6_core_runs.proofs.losses.complete.Goals as goal

pub returns-in-Taken : goal.returns-in-Taken
returns-in-Taken c =
    subst (λ receipt. Step c.args.core.now (Deliver c.args.token (completion_of c.args.completion) (receipt_of receipt)) c.deliver.new.self) c.in-Taken.is
    (received c.args.completion c.deliver.result c.in_ok-ok.field-0 c.args.core.now c.deliver.new.self c.args.token
    (sym c.ok.ensures.value ∙ c.in_ok-ok.was) c.deliver.ensures.received)
