use Rattle.std.proofs.Common.{◌≡◌, ◌∙◌, ap}
use Rattle.r6_health.specs.Registers.{starting, without}
use Rattle.r6_world.specs.Registers.{Snapshot}
use Rattle.r6_core_runs.proofs.LossRuns.{by_one}
use Rattle.r6_core_runs.proofs.losses.read_through_a_loss.Goals as goal

pub returns : goal.returns
returns c =
    let made = c.in_ok-core.ensures in
    let lost : c.lose.result ≡ without (starting 0) 1 = c.lose.ensures ∙ ap (λ (r : Snapshot). without r 1) made.register_is in
    record {
      run = by_one c.in_ok-core.core c.find_loss.new.core c.restore.new.core c.args.other c.args.parity c.in_ok-block.block
          c.in_ok-core.register c.lose.result made lost c.in_ok-find_loss.ensures c.in_ok-block.ensures;
    }
