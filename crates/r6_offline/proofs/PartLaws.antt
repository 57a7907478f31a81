-- Reports of some rows, and the reports of all shards together.
use Rattle.std.proofs.Common.{◌≡◌, ℕ, zero, suc, ◌+◌, ◌-◌, ◌<◌, ◌≤◌, ◌^◌, Bool, true, false, List, [], ◌∷◌, ◌++◌, length, replicate, is_some, Option, Some, None, refl, sym, ap, subst, ◌∙◌, arith, add_assoc, add-zero, lit<}
use Rattle.std.specs.Prelude.{IfSome, if◌then◌else◌, ⊤}
use Rattle.std.proofs.lemmas.List.{length-append, length-replicate}
use Rattle.r6_layout.specs.Shape.{Shape, IsShape}
use Rattle.r6_layout.specs.Layout.{first_row}
use Rattle.r6_layout.proofs.Shards.{first_row_grows, first_row_last}
use Rattle.r6_recover.specs.declared.class.RowClass.TheVariants.{Consistent, WrongP, WrongQ, WrongData, Many}
use Rattle.r6_offline.specs.Parts.{Parts}
use Rattle.r6_offline.specs.Rows.{ReadFails}
use Rattle.r6_offline.specs.Reports.{Finding, IsFinding, IsReadFault, IsReport, rows_before, earlier, joined, no_report, noted, total, with_counts, with_finding, with_row}
use Rattle.r6_offline.specs.PartReports.{AreFound, IsPartReport, end_at, joined_all, noted_all}
use Rattle.r6_offline.specs.declared.report.ClassCounts.{ClassCounts}
use Rattle.r6_offline.specs.declared.report.Report.{Report}
use Rattle.r6_offline.specs.declared.report.RowFault.{RowFault}
use Rattle.r6_offline.specs.declared.report.WrongRow.{WrongRow}
use Rattle.r6_offline.specs.declared.row.SlotFault.{SlotFault}
use Rattle.r6_offline.proofs.ReportLaws.{Checked, alike, checked_next, report_at_end, report_at_fault, total_with}

-- ---- rows, noted one after another

found_push : (shape : Shape) (parts : Parts) (row : ℕ) (findings : List Finding) (finding : Finding)
    → AreFound shape parts row findings → IsFinding shape parts (row + length findings) finding
    → AreFound shape parts row (findings ++ finding ∷ [])
found_push shape parts row [] finding are is = (subst (λ (r : ℕ). IsFinding shape parts r finding) (add-zero row) is, tt)
found_push shape parts row (first ∷ findings) finding are is = (
  are.0,
  found_push shape parts (row + 1) findings finding are.1
      (subst (λ (r : ℕ). IsFinding shape parts r finding) (omega arith) is),
)

noted_push : (report : Report) (row : ℕ) (findings : List Finding) (finding : Finding)
    → noted_all report row (findings ++ finding ∷ []) ≡ noted (noted_all report row findings) (row + length findings) finding
noted_push report row [] finding = ap (λ r. noted report r finding) (sym (add-zero row))
noted_push report row (first ∷ findings) finding =
    let after : Report = noted report row first in
    let place : row + 1 + length findings ≡ row + length (first ∷ findings) = omega arith in
    noted_push after (row + 1) findings finding ∙ ap (λ r. noted (noted_all after (row + 1) findings) r finding) place

fault_stays : (report : Report) (row : ℕ) (findings : List Finding) → (noted_all report row findings).fault ≡ report.fault
fault_stays report row [] = refl
fault_stays report row (first ∷ findings) = fault_stays (noted report row first) (row + 1) findings

-- the rows from the first on, before this one, were gone over without a fault
pub record Noted (shape : Shape) (parts : Parts) (first row : ℕ) (report : Report) : Type 0 where
  pub findings : List Finding
  pub are_found : AreFound shape parts first findings
  pub count : first + length findings ≡ row
  pub is : report ≡ noted_all no_report first findings
  pub each_once : first + total report.counts ≡ row

pub none_noted : (shape : Shape) (parts : Parts) (first : ℕ) (report : Report) → report ≡ no_report → Noted shape parts first first report
none_noted shape parts first report is = record {
  findings = [];
  are_found = tt;
  count = add-zero first;
  is = is;
  each_once = ap (λ (r : Report). first + total r.counts) is ∙ add-zero first;
}

pub noted_next : (shape : Shape) (parts : Parts) (first row : ℕ) (report : Report) (finding : Finding)
    → Noted shape parts first row report → IsFinding shape parts row finding
    → Noted shape parts first (row + 1) (noted report row finding)
noted_next shape parts first row report finding so_far is =
    let one = total_with report.counts finding in
    let once = so_far.each_once in
    let count = so_far.count in
    record {
      findings = so_far.findings ++ finding ∷ [];
      are_found = found_push shape parts first so_far.findings finding so_far.are_found
          (subst (λ (r : ℕ). IsFinding shape parts r finding) (sym count) is);
      count = omega (arith, count, length-append so_far.findings (finding ∷ []));
      is = ap (λ r. noted r row finding) so_far.is
          ∙ ap (λ r. noted (noted_all no_report first so_far.findings) r finding) (sym count)
          ∙ sym (noted_push no_report first so_far.findings finding);
      each_once = omega (arith, one, once);
    }

-- ---- rows with one finding, noted together

first_stays : (first : Option WrongRow) (row : ℕ) → with_row first row (Some Consistent) ≡ first
first_stays None row = refl
first_stays (Some found) row = refl

pub noted_consistent : (report : Report) (row count : ℕ)
    → noted_all report row (replicate count (Some Consistent)) ≡ record report { counts = record report.counts { consistent = report.counts.consistent + count } }
noted_consistent report row zero =
    ap (λ n. let it : Report = record report { counts = record report.counts { consistent = n } } in it) (sym (add-zero report.counts.consistent))
noted_consistent report row (suc n) =
    let more : report.counts.consistent + 1 + n ≡ report.counts.consistent + suc n = omega arith in
    noted_consistent (noted report row (Some Consistent)) (row + 1) n
    ∙ ap (λ k. let it : Report = record report { counts = record report.counts { consistent = k }; first_wrong = with_row report.first_wrong row (Some Consistent) } in it) more
    ∙ ap (λ first. let it : Report = record report { counts = record report.counts { consistent = report.counts.consistent + suc n }; first_wrong = first } in it)
    (first_stays report.first_wrong row)

found_alike : (shape : Shape) (parts : Parts) (row count : ℕ) (finding : Finding)
    → ((at : ℕ) → row ≤ at → at < row + count → IsFinding shape parts at finding) → AreFound shape parts row (replicate count finding)
found_alike shape parts row zero finding each = tt
found_alike shape parts row (suc n) finding each = (
  each row (omega arith) (omega arith),
  found_alike shape parts (row + 1) n finding (λ at from below. each at (omega (arith, from)) (omega (arith, below))),
)

noted_more : (shape : Shape) (parts : Parts) (first row : ℕ) (report : Report) (findings : List Finding)
    → Noted shape parts first row report → AreFound shape parts row findings
    → Noted shape parts first (row + length findings) (noted_all report row findings)
noted_more shape parts first row report [] so_far are = subst (λ (r : ℕ). Noted shape parts first r report) (sym (add-zero row)) so_far
noted_more shape parts first row report (finding ∷ findings) so_far are =
    subst (λ (r : ℕ). Noted shape parts first r (noted_all (noted report row finding) (row + 1) findings)) (omega arith)
    (noted_more shape parts first (row + 1) (noted report row finding) findings (noted_next shape parts first row report finding so_far are.0) are.1)

pub noted_to : (shape : Shape) (parts : Parts) (first row next : ℕ) (report : Report) (finding : Finding) → row ≤ next
    → Noted shape parts first row report → ((at : ℕ) → row ≤ at → at < next → IsFinding shape parts at finding)
    → Noted shape parts first next (noted_all report row (replicate (next - row) finding))
noted_to shape parts first row next report finding order so_far each =
    let long = length-replicate (next - row) finding in
    let ends : row + length (replicate (next - row) finding) ≡ next = omega (arith, long, order) in
    subst (λ (r : ℕ). Noted shape parts first r (noted_all report row (replicate (next - row) finding))) ends
    (noted_more shape parts first row report (replicate (next - row) finding) so_far
    (found_alike shape parts row (next - row) finding (λ at from below. each at from (omega (arith, below, order)))))

pub no_fault_noted : (shape : Shape) (parts : Parts) (first row : ℕ) (report : Report) → Noted shape parts first row report → report.fault ≡ None
no_fault_noted shape parts first row report so_far =
    ap (λ (r : Report). r.fault) so_far.is ∙ fault_stays no_report first so_far.findings

pub part_at_end : (shape : Shape) (parts : Parts) (first end : ℕ) (report : Report)
    → Noted shape parts first end report → IsPartReport shape parts first end report
part_at_end shape parts first end report so_far =
    let none = no_fault_noted shape parts first end report so_far in
    record {
      findings = so_far.findings;
      are_found = so_far.are_found;
      count = so_far.count ∙ sym (ap (end_at end) none);
      is = ap (λ (r : Report). record r { fault = report.fault }) so_far.is;
      fault = subst (λ fault. IfSome fault (λ it. (it.row < end) × ReadFails shape parts it.row (record { slot = it.slot; fault = it.fault }))) (sym none) tt;
    }

pub part_at_fault : (shape : Shape) (parts : Parts) (first end row : ℕ) (fault : SlotFault) (report : Report)
    → Noted shape parts first row report → row < end → ReadFails shape parts row fault
    → IsPartReport shape parts first end (record report { fault = Some (record { row = row; slot = fault.slot; fault = fault.fault }) })
part_at_fault shape parts first end row fault report so_far within fails = record {
  findings = so_far.findings;
  are_found = so_far.are_found;
  count = so_far.count;
  is = ap (λ (r : Report). record r { fault = Some (record { row = row; slot = fault.slot; fault = fault.fault }) }) so_far.is;
  fault = (within, fails);
}

-- ---- reports, joined

with_none : (counts : ClassCounts) → with_counts counts no_report.counts ≡ counts
with_none counts =
    alike _ _ _ _ _ _ _ _ _ _ _ _ (add-zero counts.consistent) (add-zero counts.wrong_p) (add-zero counts.wrong_q)
    (add-zero counts.wrong_data) (add-zero counts.many) (add-zero counts.skipped)

with_one_more : (counts more : ClassCounts) (finding : Finding)
    → with_counts counts (with_finding more finding) ≡ with_finding (with_counts counts more) finding
with_one_more counts more None =
    alike _ _ _ _ _ _ _ _ _ _ _ _ refl refl refl refl refl (sym (add_assoc counts.skipped more.skipped 1))
with_one_more counts more (Some Consistent) =
    alike _ _ _ _ _ _ _ _ _ _ _ _ (sym (add_assoc counts.consistent more.consistent 1)) refl refl refl refl refl
with_one_more counts more (Some WrongP) =
    alike _ _ _ _ _ _ _ _ _ _ _ _ refl (sym (add_assoc counts.wrong_p more.wrong_p 1)) refl refl refl refl
with_one_more counts more (Some WrongQ) =
    alike _ _ _ _ _ _ _ _ _ _ _ _ refl refl (sym (add_assoc counts.wrong_q more.wrong_q 1)) refl refl refl
with_one_more counts more (Some (WrongData z)) =
    alike _ _ _ _ _ _ _ _ _ _ _ _ refl refl refl (sym (add_assoc counts.wrong_data more.wrong_data 1)) refl refl
with_one_more counts more (Some Many) =
    alike _ _ _ _ _ _ _ _ _ _ _ _ refl refl refl refl (sym (add_assoc counts.many more.many 1)) refl

first_none : (first : Option WrongRow) → earlier first None ≡ first
first_none None = refl
first_none (Some found) = refl

first_next : (first next : Option WrongRow) (row : ℕ) (finding : Finding)
    → earlier first (with_row next row finding) ≡ with_row (earlier first next) row finding
first_next None next row finding = refl
first_next (Some found) next row finding = refl

made_of : (counts counts' : ClassCounts) (first first' : Option WrongRow) (fault : Option RowFault) → counts ≡ counts' → first ≡ first'
    → let Was : Report = record { counts = counts; first_wrong = first; fault = fault } in
    let Is : Report = record { counts = counts'; first_wrong = first'; fault = fault } in
    Was ≡ Is
made_of counts counts' first first' fault same_counts same_first =
    let at : ClassCounts → Option WrongRow → Report = λ c f. record { counts = c; first_wrong = f; fault = fault } in
    ap (λ c. at c first) same_counts ∙ ap (λ f. at counts' f) same_first

joined_none : (report : Report) → report.fault ≡ None → joined report no_report ≡ report
joined_none report none =
    made_of _ _ _ _ _ (with_none report.counts) (first_none report.first_wrong)
    ∙ ap (λ fault. let it : Report = record report { fault = fault } in it) (sym none)

joined_next : (report next : Report) (row : ℕ) (finding : Finding)
    → joined report (noted next row finding) ≡ noted (joined report next) row finding
joined_next report next row finding =
    made_of _ _ _ _ _ (with_one_more report.counts next.counts finding) (first_next report.first_wrong next.first_wrong row finding)

joined_noted : (report next : Report) (row : ℕ) (findings : List Finding)
    → joined report (noted_all next row findings) ≡ noted_all (joined report next) row findings
joined_noted report next row [] = refl
joined_noted report next row (first ∷ findings) =
    joined_noted report (noted next row first) (row + 1) findings
    ∙ ap (λ r. noted_all r (row + 1) findings) (joined_next report next row first)

checked_all : (shape : Shape) (parts : Parts) (row : ℕ) (report : Report) (findings : List Finding)
    → Checked shape parts row report → AreFound shape parts row findings
    → Checked shape parts (row + length findings) (noted_all report row findings)
checked_all shape parts row report [] checked are = subst (λ (r : ℕ). Checked shape parts r report) (sym (add-zero row)) checked
checked_all shape parts row report (first ∷ findings) checked are =
    subst (λ (r : ℕ). Checked shape parts r (noted_all (noted report row first) (row + 1) findings)) (omega arith)
    (checked_all shape parts (row + 1) (noted report row first) findings (checked_next shape parts row report first checked are.0) are.1)

-- the rows before, and then those of a report, its fault aside
checked_part : (shape : Shape) (parts : Parts) (first end : ℕ) (report next : Report)
    → Checked shape parts first report → IsPartReport shape parts first end next
    → Checked shape parts (end_at end next.fault) (record (joined report next) { fault = None })
checked_part shape parts first end report next checked part =
    let noted' : Report = noted_all no_report first part.findings in
    let same : joined report noted' ≡ noted_all report first part.findings =
    joined_noted report no_report first part.findings
    ∙ ap (λ r. noted_all r first part.findings) (joined_none report checked.no_fault) in
    let whole : Checked shape parts (end_at end next.fault) (joined report noted') =
    subst (Checked shape parts (end_at end next.fault)) (sym same)
    (subst (λ (r : ℕ). Checked shape parts r (noted_all report first part.findings)) part.count
    (checked_all shape parts first report part.findings checked part.are_found)) in
    let clear : joined report noted' ≡ record (joined report noted') { fault = None } =
    ap (λ fault. let it : Report = record (joined report noted') { fault = fault } in it) whole.no_fault in
    subst (Checked shape parts (end_at end next.fault))
    (clear ∙ ap (λ (n : Report). let it : Report = record (joined report n) { fault = None } in it) (sym part.is)) whole

joined_fault : (shape : Shape) (parts : Parts) (first end : ℕ) (report next : Report) (fault : Option RowFault) → next.fault ≡ fault
    → end ≤ shape.rows → Checked shape parts first report → IsPartReport shape parts first end next
    → is_some fault ≡ true → IsReport shape parts (joined report next)
joined_fault shape parts first end report next None is within checked part none = absurd (cc none)
joined_fault shape parts first end report next (Some fault) is within checked part some =
    let met = subst (λ it. IfSome it (λ met. (met.row < end) × ReadFails shape parts met.row (record { slot = met.slot; fault = met.fault }))) is part.fault in
    let before = subst (λ it. Checked shape parts (end_at end it) (record (joined report next) { fault = None })) is (checked_part shape parts first end report next checked part) in
    let below : fault.row < end = met.0 in
    subst (λ it. IsReport shape parts (record (joined report next) { fault = it })) (sym is)
    (report_at_fault shape parts fault.row (record { slot = fault.slot; fault = fault.fault }) (record (joined report next) { fault = None })
    before (omega (arith, below, within)) met.1)

joined_clear : (shape : Shape) (parts : Parts) (first end : ℕ) (report next : Report)
    → Checked shape parts first report → IsPartReport shape parts first end next
    → next.fault ≡ None → Checked shape parts end (joined report next)
joined_clear shape parts first end report next checked part none =
    subst (λ it. Checked shape parts end (record (joined report next) { fault = it })) (sym none)
    (subst (λ it. Checked shape parts (end_at end it) (record (joined report next) { fault = None })) none
    (checked_part shape parts first end report next checked part))

-- ---- the reports of all shards

pub total_of_two : (counts more : ClassCounts) → total (with_counts counts more) ≡ total counts + total more
total_of_two counts more = omega arith

-- the reports, up to the first fault, by whether the next one has it
abbrev pub joined_by : (report next : Report) (rest : List Report) (met : Bool) → Report
joined_by report next rest met = if met then joined report next else joined_all (joined report next) rest

total_by : (report next : Report) (rest : List Report) (met : Bool)
    → total (joined report next).counts ≤ total (joined_all (joined report next) rest).counts
    → total (joined report next).counts ≤ total (joined_by report next rest met).counts
total_by report next rest true more = omega arith
total_by report next rest false more = more

pub total_grows : (report : Report) (reports : List Report) → total report.counts ≤ total (joined_all report reports).counts
total_grows report [] = omega arith
total_grows report (next ∷ rest) =
    let two = total_of_two report.counts next.counts in
    let more = total_by report next rest (is_some next.fault) (total_grows (joined report next) rest) in
    omega (arith, two, more)

-- the next one can be counted too
pub next_fits : (report next : Report) (rest : List Report) (all : ℕ)
    → total (joined_all report (next ∷ rest)).counts < all → total report.counts + total next.counts < all
next_fits report next rest all below =
    let two = total_of_two report.counts next.counts in
    let more = total_by report next rest (is_some next.fault) (total_grows (joined report next) rest) in
    omega (arith, two, more, below)

pub joined_met : (report next : Report) (rest : List Report) → is_some next.fault ≡ true → joined_all report (next ∷ rest) ≡ joined report next
joined_met report next rest met = ap (joined_by report next rest) met

pub joined_on : (report next : Report) (rest : List Report) → is_some next.fault ≡ false → joined_all report (next ∷ rest) ≡ joined_all (joined report next) rest
joined_on report next rest clear = ap (joined_by report next rest) clear

-- each report is that of a shard's rows, from this shard on
abbrev pub AreReports : Shape → Parts → (shard : ℕ) → List Report → Type 0
AreReports shape parts shard [] = ⊤
AreReports shape parts shard (report ∷ reports) =
    IsPartReport shape parts (first_row shape shard) (first_row shape (shard + 1)) report × AreReports shape parts (shard + 1) reports

joined_case : (shape : Shape) (parts : Parts) (shard : ℕ) (report next : Report) (rest : List Report) (fault : Option RowFault) → next.fault ≡ fault
    → (is_some fault ≡ true → IsReport shape parts (joined report next))
    → (fault ≡ None → IsReport shape parts (joined_all (joined report next) rest))
    → IsReport shape parts (joined_all report (next ∷ rest))
joined_case shape parts shard report next rest None is met clear =
    subst (IsReport shape parts) (sym (joined_on report next rest (ap is_some is))) (clear refl)
joined_case shape parts shard report next rest (Some fault) is met clear =
    subst (IsReport shape parts) (sym (joined_met report next rest (ap is_some is))) (met refl)

pub are_joined : (shape : Shape) (parts : Parts) (shard : ℕ) (report : Report) (reports : List Report) → IsShape shape
    → shard + length reports ≡ shape.shards → Checked shape parts (first_row shape shard) report → AreReports shape parts shard reports
    → IsReport shape parts (joined_all report reports)
are_joined shape parts shard report [] is count checked are =
    let last : shard ≡ shape.shards = sym (add-zero shard) ∙ count in
    report_at_end shape parts report
    (subst (λ (r : ℕ). Checked shape parts r report) (ap (first_row shape) last ∙ first_row_last shape is) checked)
are_joined shape parts shard report (next ∷ rest) is count checked are =
    let first = first_row shape shard in
    let end = first_row shape (shard + 1) in
    let grows = first_row_grows shape (shard + 1) shape.shards is (omega (arith, count)) in
    let within : end ≤ shape.rows = subst (λ (r : ℕ). end ≤ r) (first_row_last shape is) grows in
    joined_case shape parts shard report next rest next.fault refl
    (λ met. joined_fault shape parts first end report next next.fault refl within checked are.0 met)
    (λ clear. are_joined shape parts (shard + 1) (joined report next) rest is (omega (arith, count))
    (joined_clear shape parts first end report next checked are.0 clear) are.1)

total_within : (shape : Shape) (parts : Parts) (fault : Option RowFault) → IfSome fault (IsReadFault shape parts) → rows_before shape fault ≤ shape.rows
total_within shape parts None is = omega arith
total_within shape parts (Some fault) is =
    let below : fault.row < shape.rows = is.of_row.0 in
    omega (arith, below)

pub total_fits : (shape : Shape) (parts : Parts) (report : Report) → IsShape shape → IsReport shape parts report → total report.counts < 2 ^ 64
total_fits shape parts report limits is =
    let once = is.each_once in
    let within = total_within shape parts report.fault is.fault in
    let few : shape.rows ≤ 16777216 = limits.rows_allowed.1 in
    let top : 16777216 < 2 ^ 64 = lit< tt in
    omega (arith, once, within, few, top)
