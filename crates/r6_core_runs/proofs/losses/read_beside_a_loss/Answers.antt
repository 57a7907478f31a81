use Rattle.std.proofs.Common.{◌≡◌, ◌∙◌, ap}
use Rattle.r6_health.specs.Registers.{starting, without}
use Rattle.r6_world.specs.Registers.{Snapshot}
use Rattle.r6_core_runs.proofs.LossRuns.{by_both}
use Rattle.r6_core_runs.proofs.losses.read_beside_a_loss.Goals as goal

pub returns : goal.returns
returns c =
    let made = c.in_ok-first.ensures in
    let lost : c.lose.result ≡ without (starting 0) 1 = c.lose.ensures ∙ ap (λ (r : Snapshot). without r 1) made.register_is in
    record {
      run = by_both c.in_ok-first.first c.find_loss.new.core c.in_ok-first.second c.read_around.new.core c.args.other c.args.parity c.in_ok-block.block
          c.in_ok-first.register c.lose.result made lost c.in_ok-find_loss.ensures c.in_ok-block.ensures;
    }
