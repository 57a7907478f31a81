use Rattle.std.proofs.Common.{ap, MatchOption, subst}
use Rattle.r6_world.specs.Steps.{No_call}
use Rattle.r6_core.specs.Shards.{CoreView, Step, core_with}
use Rattle.r6_core.specs.Effects.{HandsCall}
use Rattle.r6_core.proofs.shard_core.Core.take_call.Goals as goal

pub returns-clause-step : goal.returns-clause-step
returns-clause-step c =
    let new = core_with c.self.inside.window c.take_call.new.self in
    subst (λ old. MatchOption c.take_call.result (Step old No_call new) (λ call. HandsCall old call new)) c.self.view_is c.take_call.ensures.step

pub returns-clause-window : goal.returns-clause-window
returns-clause-window c = ap (λ (core : CoreView). core.window) c.self.view_is
