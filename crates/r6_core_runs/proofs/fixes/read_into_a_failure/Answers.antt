use Rattle.std.proofs.Common.{◌≡◌, ◌∙◌, ap}
use Rattle.r6_health.specs.Registers.{without}
use Rattle.r6_world.specs.Registers.{Snapshot}
use Rattle.r6_core_runs.specs.Fixes.{three_lost}
use Rattle.r6_core_runs.proofs.FixRuns.{by_failure}
use Rattle.r6_core_runs.proofs.fixes.read_into_a_failure.Goals as goal

pub returns : goal.returns
returns c =
    let made = c.in_ok-core.ensures in
    let lost : c.lose-failed.result ≡ three_lost =
    c.lose-failed.ensures
    ∙ ap (λ (r : Snapshot). without r 2) (c.lose-2.ensures ∙ ap (λ (r : Snapshot). without r 1) (c.lose.ensures ∙ ap (λ (r : Snapshot). without r 3) made.register_is)) in
    record {
      run = by_failure c.in_ok-core.core c.meet_errors.new.core c.meet_failure.new.core c.declare_three.new.core c.see_failure.new.core
          c.in_ok-core.register c.lose-failed.result made lost c.in_ok-meet_errors.ensures c.in_ok-meet_failure.ensures c.in_ok-declare_three.ensures c.in_ok-back.ensures;
    }
