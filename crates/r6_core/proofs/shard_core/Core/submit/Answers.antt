use Rattle.std.proofs.Common.{ap, subst, IfOk, IfErr}
use Rattle.r6_core.specs.Shards.{CoreView, core_with}
use Rattle.r6_core.specs.Effects.{Accepts, RefusesOp}
use Rattle.r6_core.proofs.Callers.{accepts, if_err}
use Rattle.r6_core.proofs.shard_core.Core.submit.Goals as goal

pub returns-clause-accepted : goal.returns-clause-accepted
returns-clause-accepted c =
    let done = c.submit.ensures in
    subst (λ old. IfOk c.submit.result (λ id. Accepts old c.args.op id.0 (core_with c.self.inside.window c.submit.new.self))) c.self.view_is
    (accepts c.self.inside.window (λ id. id.0) c.submit.result c.self.inside.state c.submit.new.self c.args.op done.step done.right done.order done.unanswered done.turns)

pub returns-clause-refused : goal.returns-clause-refused
returns-clause-refused c =
    subst (λ old. IfErr c.submit.result (λ r. RefusesOp old c.args.op r.refusal r.back (core_with c.self.inside.window c.submit.new.self))) c.self.view_is
    (if_err c.submit.result _ _ (λ r is. record { same = ap (core_with c.self.inside.window) is.0; back_is = is.1; fault = is.2 }) c.submit.ensures.refused)

pub returns-clause-window : goal.returns-clause-window
returns-clause-window c = ap (λ (core : CoreView). core.window) c.self.view_is
