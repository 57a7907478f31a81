use Rattle.std.proofs.Common.{ap, subst, IfOk, IfErr}
use Rattle.r6_core.specs.Shards.{CoreView, core_with}
use Rattle.r6_core.specs.Effects.{LooksAt, RefusesLook}
use Rattle.r6_core.proofs.Callers.{looks_at, refuses_look, if_err}
use Rattle.r6_core.proofs.shard_core.Core.look.Goals as goal

pub returns-clause-looked : goal.returns-clause-looked
returns-clause-looked c =
    let done = c.look.ensures in
    subst (λ old. IfOk c.look.result (λ _. LooksAt old c.args.snapshot.now (core_with c.self.inside.window c.look.new.self))) c.self.view_is
    (looks_at c.self.inside.window c.look.result c.self.inside.state c.look.new.self c.args.snapshot.now done.step done.told done.one done.order done.unanswered done.turns)

pub returns-clause-refused : goal.returns-clause-refused
returns-clause-refused c =
    subst (λ old. IfErr c.look.result (λ refusal. RefusesLook old c.args.snapshot.now refusal (core_with c.self.inside.window c.look.new.self))) c.self.view_is
    (if_err c.look.result _ _ (refuses_look c.self.inside.window c.self.inside.state c.look.new.self c.args.snapshot.now) c.look.ensures.refused)

pub returns-clause-window : goal.returns-clause-window
returns-clause-window c = ap (λ (core : CoreView). core.window) c.self.view_is
