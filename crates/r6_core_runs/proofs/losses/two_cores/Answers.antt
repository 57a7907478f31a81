use Rattle.std.proofs.Common.{◌≡◌, ◌∙◌, sym, subst}
use Rattle.r6_layout.specs.Shape.{Shape, IsShape}
use Rattle.r6_core_runs.specs.Losses.{two_shards}
use Rattle.r6_core.specs.Effects.{IsMade}
use Rattle.r6_core_runs.proofs.LossRuns.{of_ok, made_at}
use Rattle.r6_core_runs.proofs.losses.two_cores.Goals as goal

pub returns : goal.returns
returns c =
    let geometry = c.in_ok-geometry.geometry in
    let of_new = sym c.ok.ensures.value ∙ c.in_ok-geometry.was in
    let is : geometry ≡ two_shards = of_ok c.new.result (λ (shape : Shape). shape ≡ two_shards) geometry of_new c.new.ensures.made in
    let register = c.start-register.result in
    let first = c.in_ok-first.first in
    let second = c.in_ok-second.second in
    record {
      limits = subst IsShape is (of_ok c.new.result IsShape geometry of_new c.new.ensures.limits);
      register_is = c.start-register.ensures;
      here = made_at geometry two_shards register 0 first is c.start-register.ensures
          (of_ok c.new-2.result (IsMade geometry register 0) first (sym c.ok-2.ensures.value ∙ c.in_ok-first.was) c.new-2.ensures.made);
      there = made_at geometry two_shards register 1 second is c.start-register.ensures
          (of_ok c.new-3.result (IsMade geometry register 1) second (sym c.ok-3.ensures.value ∙ c.in_ok-second.was) c.new-3.ensures.made);
    }
