use Rattle.std.proofs.Common.{◌≡◌, ◌∙◌, sym, subst}
use Rattle.r6_layout.specs.Shape.{Shape, IsShape}
use Rattle.r6_world.specs.Witness.{smallest}
use Rattle.r6_core.specs.Effects.{IsMade}
use Rattle.r6_core_runs.proofs.LossRuns.{of_ok, made_at}
use Rattle.r6_core_runs.proofs.losses.one_core.Goals as goal

pub returns : goal.returns
returns c =
    let geometry = c.in_ok-geometry.geometry in
    let of_new = sym c.ok.ensures.value ∙ c.in_ok-geometry.was in
    let is : geometry ≡ smallest = of_ok c.new.result (λ (shape : Shape). shape ≡ smallest) geometry of_new c.new.ensures.made in
    let register = c.start-register.result in
    let core = c.in_ok-core.core in
    record {
      limits = subst IsShape is (of_ok c.new.result IsShape geometry of_new c.new.ensures.limits);
      register_is = c.start-register.ensures;
      here = made_at geometry smallest register 0 core is c.start-register.ensures
          (of_ok c.new-2.result (IsMade geometry register 0) core (sym c.ok-2.ensures.value ∙ c.in_ok-core.was) c.new-2.ensures.made);
    }
