use Rattle.std.proofs.Common.{◌∙◌, sym}
use Rattle.r6_core.specs.declared.turn.Task.TheVariants as task
use Rattle.r6_core.specs.Effects.{Turns}
use Rattle.r6_core_runs.proofs.LossRuns.{of_ok}
use Rattle.r6_core_runs.proofs.rebuilds.take_up.Goals as goal

pub returns-in-Started : goal.returns-in-Started
returns-in-Started c =
    let turns = of_ok c.turn.result (λ turn. Turns c.args.core.now task.Rebuild turn c.turn.new.self) c.in_ok-ok.field-0
    (sym c.ok.ensures.value ∙ c.in_ok-ok.was) c.turn.ensures.turned in
    let next = turns.taken.1 in
    let starts = next.4 in
    record {
      slot = next.0;
      generation = next.1;
      started = (starts.0, (starts.1, starts.2, next.2, starts.3, starts.4, starts.5));
    }
