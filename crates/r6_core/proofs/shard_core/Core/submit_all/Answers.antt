use Rattle.std.proofs.Common.{ap, subst}
use Rattle.r6_core.specs.Shards.{CoreView, core_with}
use Rattle.r6_core.specs.Together.{SubmitsAll}
use Rattle.r6_core.proofs.shard_core.Core.submit_all.Goals as goal

pub returns-clause-submitted : goal.returns-clause-submitted
returns-clause-submitted c =
    let done = c.submit_all.new in
    subst (λ (old : CoreView). SubmitsAll old c.args.ops.now.items done.ops.items c.submit_all.result (core_with c.self.inside.window done.self)) c.self.view_is
    (c.submit_all.ensures.submits c.self.inside.window)

pub returns-clause-window : goal.returns-clause-window
returns-clause-window c = ap (λ (core : CoreView). core.window) c.self.view_is
