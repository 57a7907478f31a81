use Rattle.std.proofs.Common.{refl, sym, subst}
use Rattle.r6_health.specs.Passes.{view_of}
use Rattle.r6_health.specs.Views.{Replaced}
use Rattle.r6_simulate.specs.declared.register.OwnRegister.{OwnRegister}
use Rattle.r6_simulate.proofs.Bringing.{brings_beside}
use Rattle.r6_simulate.proofs.Passing.{on_ok}
use Rattle.r6_simulate.proofs.array.Simulation.play_replace.Goals as goal

pub returns : goal.returns
returns g c =
    let before = c.args.self.now in
    on_ok c.bring.result _ _
    (λ brought. record {
      answer = c.replace-answer.result;
      told = subst (λ (r : OwnRegister). Replaced (view_of before.register.pass) c.args.slot c.replace-answer.result (view_of r.pass))
          (sym brought.0) c.replace-answer.ensures;
      brings = brings_beside c.args.slot c.replace-answer.result before _ _ _ _ refl refl refl refl brought.1;
    })
    c.bring.ensures
