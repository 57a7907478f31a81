use Rattle.std.proofs.Common.{ap, subst, IfOk, IfErr}
use Rattle.r6_core.specs.Shards.{CoreView, core_with}
use Rattle.r6_core.specs.Effects.{Receives, RefusesCompletion}
use Rattle.r6_core.proofs.Callers.{receives, first_fault, if_err}
use Rattle.r6_core.proofs.shard_core.Core.deliver.Goals as goal

pub returns-clause-received : goal.returns-clause-received
returns-clause-received c =
    let done = c.deliver.ensures in
    subst (λ old. IfOk c.deliver.result (λ receipt. Receives old c.args.token c.args.completion receipt (core_with c.self.inside.window c.deliver.new.self))) c.self.view_is
    (receives c.self.inside.window c.deliver.result c.self.inside.state c.deliver.new.self c.args.token c.args.completion done.step done.right done.order done.unanswered done.turns)

pub returns-clause-refused : goal.returns-clause-refused
returns-clause-refused c =
    let s = c.self.inside.state in
    subst (λ old. IfErr c.deliver.result (λ r. RefusesCompletion old c.args.token c.args.completion r.refusal r.back (core_with c.self.inside.window c.deliver.new.self))) c.self.view_is
    (if_err c.deliver.result _ _
    (λ r is. record { same = ap (core_with c.self.inside.window) is.0; back_is = is.1; fault = first_fault s c.args.token c.args.completion r.refusal is.2 }) c.deliver.ensures.refused)

pub returns-clause-window : goal.returns-clause-window
returns-clause-window c = ap (λ (core : CoreView). core.window) c.self.view_is
