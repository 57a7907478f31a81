use Rattle.std.proofs.Common.{ap, subst, IfOk, IfErr}
use Rattle.r6_core.specs.Shards.{CoreView, core_with}
use Rattle.r6_core.specs.Effects.{Hears, RefusesAnswer}
use Rattle.r6_core.proofs.Callers.{hears, refuses_answer, if_err}
use Rattle.r6_core.proofs.shard_core.Core.told.Goals as goal

pub returns-clause-heard : goal.returns-clause-heard
returns-clause-heard c =
    subst (λ old. IfOk c.told.result (λ _. Hears old c.args.call c.args.answer (core_with c.self.inside.window c.told.new.self))) c.self.view_is
    (hears c.self.inside.window c.told.result c.self.inside.state c.told.new.self c.args.call c.args.answer c.told.ensures.step c.told.ensures.known)

pub returns-clause-refused : goal.returns-clause-refused
returns-clause-refused c =
    subst (λ old. IfErr c.told.result (λ refusal. RefusesAnswer old c.args.call refusal (core_with c.self.inside.window c.told.new.self))) c.self.view_is
    (if_err c.told.result _ _ (refuses_answer c.self.inside.window c.self.inside.state c.told.new.self c.args.call) c.told.ensures.refused)

pub returns-clause-window : goal.returns-clause-window
returns-clause-window c = ap (λ (core : CoreView). core.window) c.self.view_is
