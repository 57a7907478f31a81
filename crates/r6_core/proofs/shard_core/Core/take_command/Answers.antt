use Rattle.std.proofs.Common.{ap, MatchOption, IfSome, subst}
use Rattle.r6_world.specs.Steps.{No_command}
use Rattle.r6_core.specs.Shards.{CoreView, Step, core_with}
use Rattle.r6_core.specs.Effects.{HandsCommand, IsCommandOf, IsOldestUntaken}
use Rattle.r6_core.proofs.Callers.{if_some, is_command, oldest_of_result}
use Rattle.r6_core.proofs.shard_core.Core.take_command.Goals as goal

pub returns-clause-step : goal.returns-clause-step
returns-clause-step c =
    let new = core_with c.self.inside.window c.take_command.new.self in
    subst (λ old. MatchOption c.take_command.result (Step old No_command new) (λ r. HandsCommand old r new)) c.self.view_is c.take_command.ensures.step

pub returns-clause-oldest : goal.returns-clause-oldest
returns-clause-oldest c =
    subst (λ old. IfSome c.take_command.result (λ command. IsOldestUntaken old command.token)) c.self.view_is
    (oldest_of_result c.self.inside.state c.take_command.new.self c.take_command.result c.take_command.ensures.step)

pub returns-clause-there : goal.returns-clause-there
returns-clause-there c =
    subst (λ old. IfSome c.take_command.result (IsCommandOf old)) c.self.view_is
    (if_some c.take_command.result _ _ (is_command c.self.inside.window c.self.inside.state) c.take_command.ensures.there)

pub returns-clause-window : goal.returns-clause-window
returns-clause-window c = ap (λ (core : CoreView). core.window) c.self.view_is
