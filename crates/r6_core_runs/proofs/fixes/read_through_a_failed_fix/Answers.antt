use Rattle.std.proofs.Common.{◌≡◌, ◌∙◌, ap}
use Rattle.r6_health.specs.Registers.{starting, without}
use Rattle.r6_world.specs.Registers.{Snapshot}
use Rattle.r6_core_runs.proofs.FixRuns.{by_failed_fix}
use Rattle.r6_core_runs.proofs.fixes.read_through_a_failed_fix.Goals as goal

pub returns : goal.returns
returns c =
    let made = c.in_ok-core.ensures in
    let lost : c.lose.result ≡ without (starting 0) 1 = c.lose.ensures ∙ ap (λ (r : Snapshot). without r 1) made.register_is in
    record {
      run = by_failed_fix c.in_ok-core.core c.meet_errors.new.core c.put_fix.new.core c.lose_fixed.new.core c.args.blocks c.in_ok-block.block
          c.in_ok-core.register c.lose.result made lost c.in_ok-meet_errors.ensures c.in_ok-put_fix.ensures c.in_ok-block.ensures;
    }
