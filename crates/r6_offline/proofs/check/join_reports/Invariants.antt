use Rattle.std.proofs.Common.{◌≡◌, drop, map}
use Rattle.r6_offline.specs.PartReports.{joined_all}
use Rattle.r6_offline.specs.Reports.{no_report}
use Rattle.r6_offline.specs.ShardChecks.{report_of}
use Rattle.r6_offline.proofs.check.join_reports.Given as goal

abbrev pub invariant-loop-check : goal.invariant-loop-check
invariant-loop-check g l = joined_all l.report (map report_of (drop l.check-index l.checks)) ≡ joined_all no_report (map report_of l.checks)
