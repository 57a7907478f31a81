-- What a check of some rows finds, and the reports of all shards together.
use Rattle.std.specs.Prelude.{◌≡◌, ℕ, ◌+◌, ◌<◌, List, [], ◌∷◌, length, Option, Some, None, is_some, IfSome, if◌then◌else◌, ⊤}
use Rattle.r6_layout.specs.Shape.{Shape}
use Rattle.r6_offline.specs.Parts.{Parts}
use Rattle.r6_offline.specs.Rows.{ReadFails}
use Rattle.r6_offline.specs.Reports.{Finding, IsFinding, joined, no_report, noted}
use Rattle.r6_offline.specs.declared.report.Report.{Report}
use Rattle.r6_offline.specs.declared.report.RowFault.{RowFault}

-- what is found of the rows from this one on
abbrev pub AreFound : Shape → Parts → (row : ℕ) → List Finding → Type 0
AreFound shape parts row [] = ⊤
AreFound shape parts row (finding ∷ findings) =
    IsFinding shape parts row finding × AreFound shape parts (row + 1) findings

-- a report with what is found of these rows
abbrev pub noted_all : Report → (row : ℕ) → List Finding → Report
noted_all report row [] = report
noted_all report row (finding ∷ findings) = noted_all (noted report row finding) (row + 1) findings

-- the row at which a check ends that was to end here
abbrev pub end_at : (end : ℕ) → Option RowFault → ℕ
end_at end None = end
end_at end (Some fault) = fault.row

-- the report is that of the rows from the first on, up to the end or to the first fault
pub record IsPartReport (shape : Shape) (parts : Parts) (first end : ℕ) (report : Report) : Type 0 where
  pub findings : List Finding
  pub are_found : AreFound shape parts first findings
  pub count : first + length findings ≡ end_at end report.fault
  pub is : report ≡ record (noted_all no_report first findings) { fault = report.fault }
  pub fault : IfSome report.fault (λ fault. (fault.row < end)
      × ReadFails shape parts fault.row (record { slot = fault.slot; fault = fault.fault }))

-- the reports of the shards, from the first on, up to the first fault
abbrev pub joined_all : Report → (reports : List Report) → Report
joined_all report [] = report
joined_all report (next ∷ rest) =
    if is_some next.fault then joined report next
    else joined_all (joined report next) rest
