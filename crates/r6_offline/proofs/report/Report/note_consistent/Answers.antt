use Rattle.std.proofs.Common.{◌-◌, sym}
use Rattle.r6_offline.proofs.PartLaws.{noted_consistent}
use Rattle.r6_offline.proofs.report.Report.note_consistent.Goals as goal

pub returns : goal.returns
returns c = sym (noted_consistent c.args.self.now c.args.row (c.args.next - c.args.row))
