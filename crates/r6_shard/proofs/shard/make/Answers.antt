use Rattle.std.proofs.Common.{◌≡◌, ◌++◌, sym, subst}
use Rattle.r6_health.specs.Passes.{view_of}
use Rattle.r6_health.specs.Views.{Answered, made_by}
use Rattle.r6_world.specs.Worlds.{as_made}
use Rattle.r6_core.specs.Shards.{call_of}
use Rattle.r6_shard.proofs.shard.make.Goals as goal

pub returns-in-ReportRebuilt-clause-answered : goal.returns-in-ReportRebuilt-clause-answered
returns-in-ReportRebuilt-clause-answered g c =
    let old = view_of c.args.pass.now in
    let new = view_of c.report_rebuilt.new.pass in
    subst (λ call. Answered old (as_made c.args.number (call_of call)) c.report_rebuilt.result new)
    (sym c.in-ReportRebuilt.is) c.report_rebuilt.ensures.answered

pub returns-in-ReportRebuilt-clause-own : goal.returns-in-ReportRebuilt-clause-own
returns-in-ReportRebuilt-clause-own g c =
    let old = view_of c.args.pass.now in
    let new = view_of c.report_rebuilt.new.pass in
    subst (λ call. new.mine ≡ old.mine ++ made_by (as_made c.args.number (call_of call)) c.report_rebuilt.result)
    (sym c.in-ReportRebuilt.is) c.report_rebuilt.ensures.own
