use Rattle.std.proofs.Common.{◌+◌, ◌<◌, ◌^◌, drop, map, sym, ap, subst, ◌∙◌}
use Rattle.r6_offline.specs.PartReports.{joined_all}
use Rattle.r6_offline.specs.Reports.{total}
use Rattle.r6_offline.specs.ShardChecks.{report_of}
use Rattle.r6_offline.proofs.PartLaws.{next_fits}
use Rattle.r6_offline.proofs.ShardLaws.{left_to_join}
use Rattle.r6_offline.proofs.check.join_reports.Goals as goal

pub join-requires : goal.join-requires
join-requires g c =
    let checks = c.args.checks.now in
    let report = c.loop-check.report in
    let check = c.check-item.result in
    let rest = map report_of (drop (c.loop-check.check-index + 1) checks) in
    let left = left_to_join checks c.loop-check.check-index check c.loop-check-test.true c.check-item.is in
    let same = sym (ap (joined_all report) left) ∙ c.loop-check.invariant in
    next_fits report check.report rest (2 ^ 64) (subst (λ r. total r.counts < 2 ^ 64) (sym same) c.requires)
