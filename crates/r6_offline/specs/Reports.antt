-- What a check of an array finds.
use Rattle.std.specs.Prelude.{◌≡◌, ◌≢◌, ℕ, ◌+◌, ◌<◌, Bool, true, false, List, [], length, Option, Some, None, is_some, count_by, slice_index_or, IfSome}
use Rattle.r6_layout.specs.Shape.{Shape}
use Rattle.r6_layout.specs.Layout.{shard_of}
use Rattle.r6_recover.specs.Classes.{HasClass}
use Rattle.r6_recover.specs.declared.class.RowClass.{RowClass}
use Rattle.r6_recover.specs.declared.class.RowClass.TheVariants.{Consistent, WrongP, WrongQ, WrongData, Many}
use Rattle.r6_dev.specs.History.{Block}
use Rattle.r6_dev.specs.declared.fault.Fault.TheVariants.{WriteFault}
use Rattle.r6_offline.specs.Parts.{Parts, Devices, AllTell, part_number}
use Rattle.r6_offline.specs.Rows.{IsRow, HasAbsent, AreThere}
use Rattle.r6_offline.specs.declared.report.ClassCounts.{ClassCounts}
use Rattle.r6_offline.specs.declared.report.Report.{Report}
use Rattle.r6_offline.specs.declared.report.RowFault.{RowFault}
use Rattle.r6_offline.specs.declared.report.WrongRow.{WrongRow}

-- what a check makes of a row: its class, or none where it skips the row
abbrev pub Finding : Type 0
Finding = Option RowClass

-- a row is skipped exactly if some part of it isn't there; else its class is that of the blocks that its devices have
abbrev pub IsFinding : Shape → Parts → ℕ → Finding → Type 0
IsFinding shape parts row None = HasAbsent shape parts row
IsFinding shape parts row (Some class) =
    AreThere shape parts row
    × ((device : Devices) → AllTell shape parts device
    → (blocks : List Block) × IsRow shape device row blocks × HasClass blocks class)

-- ---- counts by class

abbrev pub is_consistent : Finding → Bool
is_consistent (Some Consistent) = true
is_consistent _ = false

abbrev pub is_wrong_p : Finding → Bool
is_wrong_p (Some WrongP) = true
is_wrong_p _ = false

abbrev pub is_wrong_q : Finding → Bool
is_wrong_q (Some WrongQ) = true
is_wrong_q _ = false

abbrev pub is_wrong_data : Finding → Bool
is_wrong_data (Some (WrongData z)) = true
is_wrong_data _ = false

abbrev pub is_many : Finding → Bool
is_many (Some Many) = true
is_many _ = false

abbrev pub is_skipped : Finding → Bool
is_skipped None = true
is_skipped _ = false

abbrev pub counts_of : List Finding → ClassCounts
counts_of findings = record {
  consistent = count_by is_consistent findings;
  wrong_p = count_by is_wrong_p findings;
  wrong_q = count_by is_wrong_q findings;
  wrong_data = count_by is_wrong_data findings;
  many = count_by is_many findings;
  skipped = count_by is_skipped findings;
}

abbrev pub total : ClassCounts → ℕ
total counts = counts.consistent + counts.wrong_p + counts.wrong_q + counts.wrong_data + counts.many + counts.skipped

-- one row more
abbrev pub with_finding : ClassCounts → Finding → ClassCounts
with_finding counts None = record counts { skipped = counts.skipped + 1 }
with_finding counts (Some Consistent) = record counts { consistent = counts.consistent + 1 }
with_finding counts (Some WrongP) = record counts { wrong_p = counts.wrong_p + 1 }
with_finding counts (Some WrongQ) = record counts { wrong_q = counts.wrong_q + 1 }
with_finding counts (Some (WrongData z)) = record counts { wrong_data = counts.wrong_data + 1 }
with_finding counts (Some Many) = record counts { many = counts.many + 1 }

-- ---- the first row of another class than `Consistent`

abbrev pub finding_at : List Finding → ℕ → Finding
finding_at findings row = slice_index_or findings row None

abbrev pub is_wrong : Finding → Bool
is_wrong None = false
is_wrong (Some Consistent) = false
is_wrong (Some WrongP) = true
is_wrong (Some WrongQ) = true
is_wrong (Some (WrongData z)) = true
is_wrong (Some Many) = true

abbrev pub NoneIsWrong : List Finding → ℕ → Type 0
NoneIsWrong findings end = (row : ℕ) → row < end → is_wrong (finding_at findings row) ≡ false

pub record IsFirst (findings : List Finding) (found : WrongRow) : Type 0 where
  pub within : found.row < length findings
  pub class : finding_at findings found.row ≡ Some found.class
  pub wrong : is_wrong (Some found.class) ≡ true
  pub none_before : NoneIsWrong findings found.row

abbrev pub IsFirstWrong : List Finding → Option WrongRow → Type 0
IsFirstWrong findings None = NoneIsWrong findings (length findings)
IsFirstWrong findings (Some found) = IsFirst findings found

-- the first wrong row, with one row more
abbrev pub with_row : Option WrongRow → ℕ → Finding → Option WrongRow
with_row (Some found) row finding = Some found
with_row None row None = None
with_row None row (Some Consistent) = None
with_row None row (Some WrongP) = Some (record { row = row; class = WrongP })
with_row None row (Some WrongQ) = Some (record { row = row; class = WrongQ })
with_row None row (Some (WrongData z)) = Some (record { row = row; class = WrongData z })
with_row None row (Some Many) = Some (record { row = row; class = Many })

-- ---- reports that are added to

-- of no row
abbrev pub no_report : Report
no_report = record { counts = counts_of []; first_wrong = None; fault = None }

-- with what is found of one row more
abbrev pub noted : Report → (row : ℕ) → Finding → Report
noted report row finding = record report {
  counts = with_finding report.counts finding;
  first_wrong = with_row report.first_wrong row finding;
}

abbrev pub with_counts : (counts more : ClassCounts) → ClassCounts
with_counts counts more = record {
  consistent = counts.consistent + more.consistent;
  wrong_p = counts.wrong_p + more.wrong_p;
  wrong_q = counts.wrong_q + more.wrong_q;
  wrong_data = counts.wrong_data + more.wrong_data;
  many = counts.many + more.many;
  skipped = counts.skipped + more.skipped;
}

abbrev pub earlier : (first next : Option WrongRow) → Option WrongRow
earlier (Some found) next = Some found
earlier None next = next

-- with the report of the rows that come next
abbrev pub joined : (report next : Report) → Report
joined report next = record {
  counts = with_counts report.counts next.counts;
  first_wrong = earlier report.first_wrong next.first_wrong;
  fault = next.fault;
}

-- ---- the report

-- the rows that a pass went over before it ended: all, or those before the row of the fault
abbrev pub rows_before : Shape → Option RowFault → ℕ
rows_before shape None = shape.rows
rows_before shape (Some fault) = fault.row

abbrev pub IsRowFault : Shape → RowFault → Type 0
IsRowFault shape fault = (fault.row < shape.rows) × (fault.slot < shape.slots)

-- the fault of a read: that of a part that is there
pub record IsReadFault (shape : Shape) (parts : Parts) (fault : RowFault) : Type 0 where
  pub of_row : IsRowFault shape fault
  pub is_there : is_some (parts (part_number shape (shard_of shape fault.row) fault.slot)) ≡ true
  pub of_read : fault.fault ≢ WriteFault

-- the rows up to the end, each once, with what is found of it
pub record AreFindings (shape : Shape) (parts : Parts) (end : ℕ) (findings : List Finding) : Type 0 where
  pub count : length findings ≡ end
  pub each : (row : ℕ) → row < end → IsFinding shape parts row (finding_at findings row)

-- the report is that of the rows as they stand, each once: all, or those before the first fault
pub record IsReport (shape : Shape) (parts : Parts) (report : Report) : Type 0 where
  pub findings : List Finding
  pub are : AreFindings shape parts (rows_before shape report.fault) findings
  pub counts : report.counts ≡ counts_of findings
  pub first : IsFirstWrong findings report.first_wrong
  pub each_once : total report.counts ≡ rows_before shape report.fault
  pub fault : IfSome report.fault (IsReadFault shape parts)
