use Rattle.std.proofs.Common.{ap, subst, IfOk, IfErr}
use Rattle.r6_core.specs.declared.turn.Task.TheVariants as task
use Rattle.r6_core.specs.Shards.{core_with}
use Rattle.r6_core.specs.Effects.{RefusesTurn, Turns}
use Rattle.r6_core.proofs.Callers.{checks, if_err, rebuilds, repairs}
use Rattle.r6_core.proofs.shard_core.Core.turn.Goals as goal

pub returns-in-Rebuild-clause-turned : goal.returns-in-Rebuild-clause-turned
returns-in-Rebuild-clause-turned c =
    let done = c.rebuild.ensures in
    let window = c.self.inside.window in
    rw c.in-Rebuild.is (subst (λ old. IfOk c.rebuild.result (λ turn. Turns old task.Rebuild turn (core_with window c.rebuild.new.self))) c.self.view_is
    (rebuilds window c.rebuild.result c.self.inside.state c.rebuild.new.self done.started done.right done.kept done.unanswered))

pub returns-in-Rebuild-clause-refused : goal.returns-in-Rebuild-clause-refused
returns-in-Rebuild-clause-refused c =
    let window = c.self.inside.window in
    rw c.in-Rebuild.is (subst (λ old. IfErr c.rebuild.result (λ refusal. RefusesTurn old task.Rebuild refusal (core_with window c.rebuild.new.self))) c.self.view_is
    (if_err c.rebuild.result _ _ (λ refusal is. record { same = ap (core_with window) is.0; fault = is.1 }) c.rebuild.ensures.refused))

pub returns-in-Check-clause-turned : goal.returns-in-Check-clause-turned
returns-in-Check-clause-turned c =
    let done = c.turn.ensures in
    let window = c.self.inside.window in
    rw c.in-Check.is (subst (λ old. IfOk c.turn.result (λ turn. Turns old task.Check turn (core_with window c.turn.new.self))) c.self.view_is
    (checks window c.turn.result c.self.inside.state c.turn.new.self done.step done.right done.kept done.unanswered))

pub returns-in-Check-clause-refused : goal.returns-in-Check-clause-refused
returns-in-Check-clause-refused c =
    let window = c.self.inside.window in
    rw c.in-Check.is (subst (λ old. IfErr c.turn.result (λ refusal. RefusesTurn old task.Check refusal (core_with window c.turn.new.self))) c.self.view_is
    (if_err c.turn.result _ _ (λ refusal is. record { same = ap (core_with window) is.0; fault = is.1 }) c.turn.ensures.refused))

pub returns-in-Repair-clause-turned : goal.returns-in-Repair-clause-turned
returns-in-Repair-clause-turned c =
    let done = c.turn-in-Repair.ensures in
    let window = c.self.inside.window in
    rw c.in-Repair.is (subst (λ old. IfOk c.turn-in-Repair.result (λ turn. Turns old task.Repair turn (core_with window c.turn-in-Repair.new.self))) c.self.view_is
    (repairs window c.turn-in-Repair.result c.self.inside.state c.turn-in-Repair.new.self done.step done.right done.kept done.unanswered))

pub returns-in-Repair-clause-refused : goal.returns-in-Repair-clause-refused
returns-in-Repair-clause-refused c =
    let window = c.self.inside.window in
    rw c.in-Repair.is (subst (λ old. IfErr c.turn-in-Repair.result (λ refusal. RefusesTurn old task.Repair refusal (core_with window c.turn-in-Repair.new.self))) c.self.view_is
    (if_err c.turn-in-Repair.result _ _ (λ refusal is. record { same = ap (core_with window) is.0; fault = is.1 }) c.turn-in-Repair.ensures.refused))
