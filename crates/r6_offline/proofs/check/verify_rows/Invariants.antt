use Rattle.std.proofs.Common.{◌≡◌, ◌+◌, ◌-◌, ◌<◌, ◌≤◌, None}
use Rattle.std.specs.Prelude.{IfSome}
use Rattle.r6_offline.specs.Lent.{FailsAlone, KeepPromises, promises_of}
use Rattle.r6_offline.specs.Parts.{OnlyRead, parts_of}
use Rattle.r6_offline.specs.Rows.{ReadFails}
use Rattle.r6_offline.specs.RowChecks.{HasRoom}
use Rattle.r6_offline.proofs.CheckLaws.{IsInFront}
use Rattle.r6_offline.proofs.ReportLaws.{Checked}
use Rattle.r6_offline.proofs.check.verify_rows.Given as goal

abbrev pub invariant-loop-row : goal.invariant-loop-row
invariant-loop-row g l =
    let shape = l.geometry in
    let started = parts_of g.D.BlockDevice.told l.fn.parts in
    let end = l.row + l.read.rows in
    record {
      within : end ≤ shape.rows;
      goes_on : l.row < shape.rows → l.read.fault ≡ None → 0 < l.read.rows;
      front : IsInFront shape started l.row l.read.rows l.front.items;
      behind : HasRoom shape l.behind.items;
      fails : IfSome l.read.fault (λ fault. (end < shape.rows) × ReadFails shape started end fault);
      only_read : l.read.fault ≡ None → OnlyRead started (parts_of g.D.BlockDevice.told l.parts);
      alone : IfSome l.read.fault (FailsAlone shape (promises_of g.D.BlockDevice.promised l.fn.parts) started
          (parts_of g.D.BlockDevice.told l.parts) end);
      promised : KeepPromises (promises_of g.D.BlockDevice.promised l.fn.parts) (promises_of g.D.BlockDevice.promised l.parts);
      checked : Checked shape started l.row l.report;
    }

abbrev pub decreases-loop-row : goal.decreases-loop-row
decreases-loop-row g l = l.geometry.rows - l.row

abbrev pub invariant-loop-index : goal.invariant-loop-index
invariant-loop-index g l = Checked l.geometry (parts_of g.D.BlockDevice.told l.fn.parts) (l.row + l.index) l.report
