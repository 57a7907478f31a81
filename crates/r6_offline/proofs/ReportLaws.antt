-- What a check has found, row by row.
use Rattle.std.proofs.Common.{◌≡◌, ℕ, ◌+◌, ◌<◌, ◌≤◌, Bool, true, false, cond, List, [], ◌∷◌, ◌++◌, length, Option, Some, None, refl, sym, ap, subst, ◌∙◌, arith, ⊎_elim}
use Rattle.std.specs.Prelude.{count_by, IfSome}
use Rattle.std.proofs.lemmas.Bool.{cases_lt}
use Rattle.std.proofs.lemmas.List.{length-append, get_or_append_left}
use Rattle.std.proofs.lemmas.List.Sums.{sum_by_push}
use Rattle.std.proofs.Math.Seq.{get_or-append_seam}
use Rattle.r6_layout.specs.Shape.{Shape}
use Rattle.r6_layout.specs.Layout.{shard_of}
use Rattle.r6_recover.specs.declared.class.RowClass.{RowClass}
use Rattle.r6_recover.specs.declared.class.RowClass.TheVariants.{Consistent, WrongP, WrongQ, WrongData, Many}
use Rattle.r6_offline.specs.Parts.{Parts, OnlyRead, part_number}
use Rattle.r6_offline.specs.Reports.{Finding, IsFinding, is_consistent, is_wrong_p, is_wrong_q, is_wrong_data, is_many, is_skipped, counts_of, total, with_finding, finding_at, is_wrong, NoneIsWrong, IsFirst, IsFirstWrong, with_row, rows_before, IsReadFault, AreFindings, IsReport, no_report, noted}
use Rattle.r6_offline.specs.Rows.{ReadFails}
use Rattle.r6_offline.specs.declared.row.SlotFault.{SlotFault}
use Rattle.r6_offline.specs.declared.report.ClassCounts.{ClassCounts}
use Rattle.r6_offline.specs.declared.report.Report.{Report}
use Rattle.r6_offline.specs.declared.report.WrongRow.{WrongRow}
use Rattle.r6_offline.proofs.RowLaws.{all_tell_still}

-- ---- counts

more : (is : Finding → Bool) (findings : List Finding) (finding : Finding) → is finding ≡ true → count_by is (findings ++ finding ∷ []) ≡ count_by is findings + 1
more is findings finding yes' =
    let pushed = sum_by_push (λ x. cond (is x) 1 0) findings finding in
    pushed ∙ ap (λ (b : Bool). count_by is findings + cond b 1 0) yes'

same : (is : Finding → Bool) (findings : List Finding) (finding : Finding) → is finding ≡ false → count_by is (findings ++ finding ∷ []) ≡ count_by is findings
same is findings finding no' =
    let pushed : count_by is (findings ++ finding ∷ []) ≡ count_by is findings + 0 = sum_by_push (λ x. cond (is x) 1 0) findings finding ∙ ap (λ (b : Bool). count_by is findings + cond b 1 0) no' in
    omega (arith, pushed)

pub alike : (a a' b b' c c' d d' e e' f f' : ℕ) → a ≡ a' → b ≡ b' → c ≡ c' → d ≡ d' → e ≡ e' → f ≡ f'
    → let Was : ClassCounts = record { consistent = a; wrong_p = b; wrong_q = c; wrong_data = d; many = e; skipped = f } in
    let Is : ClassCounts = record { consistent = a'; wrong_p = b'; wrong_q = c'; wrong_data = d'; many = e'; skipped = f' } in
    Was ≡ Is
alike a a' b b' c c' d d' e e' f f' ea eb ec ed ee ef =
    let at : ℕ → ℕ → ℕ → ℕ → ℕ → ℕ → ClassCounts = λ u v w x y z. record { consistent = u; wrong_p = v; wrong_q = w; wrong_data = x; many = y; skipped = z } in
    ap (λ u. at u b c d e f) ea ∙ ap (λ v. at a' v c d e f) eb ∙ ap (λ w. at a' b' w d e f) ec ∙ ap (λ x. at a' b' c' x e f) ed ∙ ap (λ y. at a' b' c' d' y f) ee ∙ ap (λ z. at a' b' c' d' e' z) ef

pub counts_push : (findings : List Finding) (finding : Finding) → counts_of (findings ++ finding ∷ []) ≡ with_finding (counts_of findings) finding
counts_push findings None =
    alike _ _ _ _ _ _ _ _ _ _ _ _ (same is_consistent findings None refl) (same is_wrong_p findings None refl) (same is_wrong_q findings None refl) (same is_wrong_data findings None refl) (same is_many findings None refl) (more is_skipped findings None refl)
counts_push findings (Some Consistent) =
    let f : Finding = Some Consistent in
    alike _ _ _ _ _ _ _ _ _ _ _ _ (more is_consistent findings f refl) (same is_wrong_p findings f refl) (same is_wrong_q findings f refl) (same is_wrong_data findings f refl) (same is_many findings f refl) (same is_skipped findings f refl)
counts_push findings (Some WrongP) =
    let f : Finding = Some WrongP in
    alike _ _ _ _ _ _ _ _ _ _ _ _ (same is_consistent findings f refl) (more is_wrong_p findings f refl) (same is_wrong_q findings f refl) (same is_wrong_data findings f refl) (same is_many findings f refl) (same is_skipped findings f refl)
counts_push findings (Some WrongQ) =
    let f : Finding = Some WrongQ in
    alike _ _ _ _ _ _ _ _ _ _ _ _ (same is_consistent findings f refl) (same is_wrong_p findings f refl) (more is_wrong_q findings f refl) (same is_wrong_data findings f refl) (same is_many findings f refl) (same is_skipped findings f refl)
counts_push findings (Some (WrongData z)) =
    let f : Finding = Some (WrongData z) in
    alike _ _ _ _ _ _ _ _ _ _ _ _ (same is_consistent findings f refl) (same is_wrong_p findings f refl) (same is_wrong_q findings f refl) (more is_wrong_data findings f refl) (same is_many findings f refl) (same is_skipped findings f refl)
counts_push findings (Some Many) =
    let f : Finding = Some Many in
    alike _ _ _ _ _ _ _ _ _ _ _ _ (same is_consistent findings f refl) (same is_wrong_p findings f refl) (same is_wrong_q findings f refl) (same is_wrong_data findings f refl) (more is_many findings f refl) (same is_skipped findings f refl)

pub total_with : (counts : ClassCounts) (finding : Finding) → total (with_finding counts finding) ≡ total counts + 1
total_with counts None = omega arith
total_with counts (Some Consistent) = omega arith
total_with counts (Some WrongP) = omega arith
total_with counts (Some WrongQ) = omega arith
total_with counts (Some (WrongData z)) = omega arith
total_with counts (Some Many) = omega arith

-- ---- the first wrong row

none_left : (findings : List Finding) (finding : Finding) (end : ℕ) → end ≤ length findings → NoneIsWrong findings end → NoneIsWrong (findings ++ finding ∷ []) end
none_left findings finding end within quiet =
    λ row below. ap is_wrong (get_or_append_left findings (finding ∷ []) None row (omega (arith, within, below))) ∙ quiet row below

quiet_push : (findings : List Finding) (finding : Finding) → is_wrong finding ≡ false → NoneIsWrong findings (length findings) → NoneIsWrong (findings ++ finding ∷ []) (length (findings ++ finding ∷ []))
quiet_push findings finding right quiet =
    λ row below.
    let long = length-append findings (finding ∷ []) in
    ⊎_elim
    (λ (before : row < length findings). none_left findings finding (length findings) (omega arith) quiet row before)
    (λ (past : length findings ≤ row).
    let last : row ≡ length findings = omega (arith, below, past, long) in
    ap (λ r. is_wrong (finding_at (findings ++ finding ∷ []) r)) last ∙ ap is_wrong (get_or-append_seam findings finding [] None) ∙ right)
    (cases_lt row (length findings))

wrong_push : (findings : List Finding) (class : RowClass) → is_wrong (Some class) ≡ true → NoneIsWrong findings (length findings) → IsFirst (findings ++ Some class ∷ []) (record { row = length findings; class = class })
wrong_push findings class wrong quiet =
    let long = length-append findings (Some class ∷ []) in
    record {
      within = omega (arith, long);
      class = get_or-append_seam findings (Some class) [] None;
      wrong = wrong;
      none_before = none_left findings (Some class) (length findings) (omega arith) quiet;
    }

pub first_push : (findings : List Finding) (first : Option WrongRow) (finding : Finding) → IsFirstWrong findings first → IsFirstWrong (findings ++ finding ∷ []) (with_row first (length findings) finding)
first_push findings (Some found) finding is =
    let long = length-append findings (finding ∷ []) in
    let within : found.row < length findings = is.within in
    record {
      within = omega (arith, long, within);
      class = get_or_append_left findings (finding ∷ []) None found.row within ∙ is.class;
      wrong = is.wrong;
      none_before = none_left findings finding found.row (omega (arith, within)) is.none_before;
    }
first_push findings None None is = quiet_push findings None refl is
first_push findings None (Some Consistent) is = quiet_push findings (Some Consistent) refl is
first_push findings None (Some WrongP) is = wrong_push findings WrongP refl is
first_push findings None (Some WrongQ) is = wrong_push findings WrongQ refl is
first_push findings None (Some (WrongData z)) is = wrong_push findings (WrongData z) refl is
first_push findings None (Some Many) is = wrong_push findings Many refl is

-- ---- the rows so far

pub finding_since : (shape : Shape) (begin' now : Parts) (row : ℕ) (finding : Finding) → OnlyRead begin' now → IsFinding shape now row finding → IsFinding shape begin' row finding
finding_since shape begin' now row None read is = (is.0, is.1, sym (read.there (part_number shape (shard_of shape row) is.0)) ∙ is.2)
finding_since shape begin' now row (Some class) read is = (
  λ slot within. sym (read.there (part_number shape (shard_of shape row) slot)) ∙ is.0 slot within,
  λ device tell. is.1 device (all_tell_still shape begin' now device read tell),
)

are_push : (shape : Shape) (parts : Parts) (row : ℕ) (findings : List Finding) (finding : Finding) → AreFindings shape parts row findings → IsFinding shape parts row finding → AreFindings shape parts (row + 1) (findings ++ finding ∷ [])
are_push shape parts row findings finding are is =
    let count : length findings ≡ row = are.count in
    let long = length-append findings (finding ∷ []) in
    record {
      count = omega (arith, long, count);
      each = λ at below.
          ⊎_elim
          (λ (before : at < row). subst (IsFinding shape parts at) (sym (get_or_append_left findings (finding ∷ []) None at (omega (arith, count, before)))) (are.each at before))
          (λ (past : row ≤ at).
          let last : length findings ≡ at = omega (arith, below, past, count) in
          let here : at ≡ row = omega (arith, below, past) in
          subst (IsFinding shape parts at) (sym (subst (λ (r : ℕ). finding_at (findings ++ finding ∷ []) r ≡ finding) last (get_or-append_seam findings finding [] None)))
          (subst (λ (r : ℕ). IsFinding shape parts r finding) (sym here) is))
          (cases_lt at row);
    }

-- the rows below this one were gone over, without a fault
pub record Checked (shape : Shape) (parts : Parts) (row : ℕ) (report : Report) : Type 0 where
  pub findings : List Finding
  pub are : AreFindings shape parts row findings
  pub counts : report.counts ≡ counts_of findings
  pub first : IsFirstWrong findings report.first_wrong
  pub each_once : total report.counts ≡ row
  pub no_fault : report.fault ≡ None

pub none_checked : (shape : Shape) (parts : Parts) → Checked shape parts 0 no_report
none_checked shape parts = record {
  findings = [];
  are = record { count = refl; each = λ row below. absurd (omega (arith, below)) };
  counts = refl;
  first = λ row below. absurd (omega (arith, below));
  each_once = refl;
  no_fault = refl;
}

pub checked_next : (shape : Shape) (parts : Parts) (row : ℕ) (report : Report) (finding : Finding)
    → Checked shape parts row report → IsFinding shape parts row finding
    → Checked shape parts (row + 1) (noted report row finding)
checked_next shape parts row report finding checked is =
    let total' : total report.counts ≡ row = checked.each_once in
    let one = total_with report.counts finding in
    record {
      findings = checked.findings ++ finding ∷ [];
      are = are_push shape parts row checked.findings finding checked.are is;
      counts = ap (λ c. with_finding c finding) checked.counts ∙ sym (counts_push checked.findings finding);
      first = subst (λ (r : ℕ). IsFirstWrong (checked.findings ++ finding ∷ []) (with_row report.first_wrong r finding)) checked.are.count (first_push checked.findings report.first_wrong finding checked.first);
      each_once = omega (arith, total', one);
      no_fault = checked.no_fault;
    }

pub report_at_end : (shape : Shape) (parts : Parts) (report : Report) → Checked shape parts shape.rows report → IsReport shape parts report
report_at_end shape parts report checked =
    let end : rows_before shape report.fault ≡ shape.rows = ap (rows_before shape) checked.no_fault in
    record {
      findings = checked.findings;
      are = subst (λ (r : ℕ). AreFindings shape parts r checked.findings) (sym end) checked.are;
      counts = checked.counts;
      first = checked.first;
      each_once = checked.each_once ∙ sym end;
      fault = subst (λ fault. IfSome fault (IsReadFault shape parts)) (sym checked.no_fault) tt;
    }

pub report_at_fault : (shape : Shape) (parts : Parts) (row : ℕ) (fault : SlotFault) (report : Report)
    → Checked shape parts row report → row < shape.rows → ReadFails shape parts row fault
    → IsReport shape parts (record report { fault = Some (record { row = row; slot = fault.slot; fault = fault.fault }) })
report_at_fault shape parts row fault report checked within fails =
    record {
      findings = checked.findings;
      are = checked.are;
      counts = checked.counts;
      first = checked.first;
      each_once = checked.each_once;
      fault = record { of_row = (within, fails.within); is_there = fails.is_there; of_read = fails.of_read };
    }
