use Rattle.std.proofs.Common.{◌≤◌, arith, length, subst}
use Rattle.std.specs.List.{AllZip}
use Rattle.std.proofs.lemmas.List.{take_all}
use Rattle.r6_run.specs.Runs.{IsAsked}
use Rattle.r6_run.proofs.Given.{next_more}
use Rattle.r6_run.proofs.events.events_of.Goals as goal

pub loop-entry-preserved : goal.loop-entry-preserved
loop-entry-preserved g c =
    next_more (IsAsked c.args.geometry.now) c.args.script.now _ _ _ c.loop-entry.entry-index _ c.loop-entry-test.true c.loop-entry.invariant
    c.in_ok-event_of.ensures.ok c.in_ok-push.ensures.items

pub returns-clause-ok : goal.returns-clause-ok
returns-clause-ok g c =
    let end : length c.args.script.now ≤ c.loop-entry.entry-index = omega arith in
    subst (λ these. AllZip (IsAsked c.args.geometry.now) these c.loop-entry.events.items) (take_all c.loop-entry.entry-index c.args.script.now end)
    c.loop-entry.invariant
