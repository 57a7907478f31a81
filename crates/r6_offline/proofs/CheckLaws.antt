-- Rows that are read and classified.
use Rattle.std.proofs.Common.{◌≡◌, ◌≢◌, ℕ, ◌+◌, ◌<◌, ◌≤◌, Bool, true, false, List, ◌++◌, length, get_or, set, take, is_some, Option, Some, None, refl, sym, ap, subst, ◌∙◌, arith, ⊎_elim}
use Rattle.std.specs.Prelude.{IfSome}
use Rattle.std.proofs.lemmas.Bool.{cases_eq, false≢true}
use Rattle.std.proofs.lemmas.List.{get_or-set_same, get_or-set_other, length-set}
use Rattle.std.proofs.Math.Seq.{take-append_seam}
use Rattle.r6_layout.specs.Shape.{Shape}
use Rattle.r6_layout.specs.Layout.{shard_of}
use Rattle.r6_offline.specs.Parts.{Parts, OnlyRead, part_number}
use Rattle.r6_offline.specs.Reports.{IsFinding, noted}
use Rattle.r6_offline.specs.declared.report.Report.{Report}
use Rattle.r6_offline.specs.Rows.{AreThere, Fits, HasAbsent, ReadFails, RowRead}
use Rattle.r6_offline.specs.RowChecks.{AllFit, AreClassified, AreRead, HasRoom, IsBatchRead, IsClassified, IsRead}
use Rattle.r6_offline.specs.declared.batch.BatchRead.{BatchRead}
use Rattle.r6_offline.specs.declared.row.SlotFault.{SlotFault}
use Rattle.r6_offline.specs.declared.row_check.RowCheck.{RowCheck}
use Rattle.r6_offline.proofs.RowLaws.{all_tell_still, read_fails_since, whole_row}
use Rattle.r6_offline.proofs.ReportLaws.{Checked, checked_next, finding_since}

pub is_read_since : (shape : Shape) (old now : Parts) (row : ℕ) (check : RowCheck) → OnlyRead old now → IsRead shape now row check → IsRead shape old row check
is_read_since shape old now row check read is =
    let same : (slot : ℕ) → is_some (old (part_number shape (shard_of shape row) slot)) ≡ is_some (now (part_number shape (shard_of shape row) slot)) =
    λ slot. sym (read.there (part_number shape (shard_of shape row) slot)) in
    record {
      there = λ whole slot within. same slot ∙ is.there whole slot within;
      absent = λ part. let away = is.absent part in (away.0, away.1, same away.0 ∙ away.2);
      gives = λ whole device tell. is.gives whole device (all_tell_still shape old now device read tell);
    }

pub read_absent : (shape : Shape) (parts : Parts) (row : ℕ) (check : RowCheck) → check.is_whole ≡ false → HasAbsent shape parts row → IsRead shape parts row check
read_absent shape parts row check part away = record {
  there = λ whole. absurd (false≢true (sym part ∙ whole));
  absent = λ _. away;
  gives = λ whole. absurd (false≢true (sym part ∙ whole));
}

pub read_whole : (shape : Shape) (old now : Parts) (row : ℕ) (known : List Bool) (check : RowCheck) → check.is_whole ≡ true → length check.reader.blocks ≡ shape.slots
    → AreThere shape old row → RowRead shape old now row known check.reader.blocks → IsRead shape old row check
read_whole shape old now row known check whole count there read = record {
  there = λ _. there;
  absent = λ part. absurd (false≢true (sym part ∙ whole));
  gives = λ _. whole_row shape old now row known check.reader.blocks count there read;
}

found_as : (shape : Shape) (parts : Parts) (row : ℕ) (before after : RowCheck) (whole : Bool) → before.is_whole ≡ whole
    → IsRead shape parts row before → IsClassified before after → IsFinding shape parts row after.finding
found_as shape parts row before after true is read classified =
    let class = classified.found is in
    subst (IsFinding shape parts row) (sym class.1)
    (read.there is, λ device tell. (before.reader.blocks, read.gives is device tell, class.2))
found_as shape parts row before after false is read classified =
    subst (IsFinding shape parts row) (sym (classified.skipped is)) (read.absent is)

pub found : (shape : Shape) (parts : Parts) (row : ℕ) (before after : RowCheck)
    → IsRead shape parts row before → IsClassified before after → IsFinding shape parts row after.finding
found shape parts row before after read classified = found_as shape parts row before after before.is_whole refl read classified

-- ---- many rows

pub all_fit_set : (shape : Shape) (batch : List RowCheck) (index : ℕ) (check : RowCheck) → AllFit shape batch → index < length batch → Fits shape check.reader → AllFit shape (set batch index check)
all_fit_set shape batch index check all in_batch fits k other within =
    ⊎_elim
    (λ (here : k ≡ index).
    subst (λ (it : RowCheck). Fits shape it.reader) (sym (ap (λ n. get_or (set batch index check) n other) here ∙ get_or-set_same batch index check other in_batch)) fits)
    (λ (apart : k ≢ index).
    subst (λ (it : RowCheck). Fits shape it.reader) (sym (get_or-set_other batch index k check other apart))
    (all k other (subst (λ (n : ℕ). k < n) (length-set batch index check) within)))
    (cases_eq k index)

pub all_fit_classified : (shape : Shape) (old new : List RowCheck) → AllFit shape old → AreClassified old new → AllFit shape new
all_fit_classified shape old new all classified k other within =
    let within' : k < length old = subst (λ (n : ℕ). k < n) classified.count within in
    subst (Fits shape) (sym (classified.each k other within').reader) (all k other within')

-- one row more is read into its place
pub are_read_next : (shape : Shape) (old now : Parts) (row index : ℕ) (batch : List RowCheck) (check : RowCheck)
    → index < length batch → OnlyRead old now → AreRead shape old row index batch → IsRead shape now (row + index) check → AreRead shape old row (index + 1) (set batch index check)
are_read_next shape old now row index batch check in_batch read are is k other below =
    ⊎_elim
    (λ (here : k ≡ index).
    subst (λ (n : ℕ). IsRead shape old (row + n) (get_or (set batch index check) n other)) (sym here)
    (subst (IsRead shape old (row + index)) (sym (get_or-set_same batch index check other in_batch)) (is_read_since shape old now (row + index) check read is)))
    (λ (apart : k ≢ index).
    subst (IsRead shape old (row + k)) (sym (get_or-set_other batch index k check other apart)) (are k other (omega (arith, below, apart))))
    (cases_eq k index)

pub are_read_since : (shape : Shape) (old now : Parts) (row count : ℕ) (batch : List RowCheck) → OnlyRead old now → AreRead shape now row count batch → AreRead shape old row count batch
are_read_since shape old now row count batch read are k other below = is_read_since shape old now (row + k) (get_or batch k other) read (are k other below)

-- one row more of a batch that was classified
pub checked_in_batch : (shape : Shape) (started now : Parts) (row count index : ℕ) (before after : List RowCheck) (report : Report) (other : RowCheck)
    → OnlyRead started now → AreRead shape now row count before → AreClassified before after → index < count → index < length before
    → Checked shape started (row + index) report
    → let finding = (get_or after index other).finding in
    Checked shape started (row + (index + 1)) (noted report (row + index) finding)
checked_in_batch shape started now row count index before after report other read are classified below within checked =
    let place : row + index + 1 ≡ row + (index + 1) = omega arith in
    let check : RowCheck = get_or after index other in
    let next : Report = noted report (row + index) check.finding in
    let finding : IsFinding shape now (row + index) check.finding =
    found shape now (row + index) (get_or before index other) check (are index other below) (classified.each index other within) in
    subst (λ (n : ℕ). Checked shape started n next) place
    (checked_next shape started (row + index) report check.finding checked (finding_since shape started now (row + index) check.finding read finding))

-- what was written to all of a batch is the batch
pub written : {X : Type 0} (batch rest : List X) (count : ℕ) → count ≡ length batch → take count (batch ++ rest) ≡ batch
written batch rest count all = ap (λ n. take n (batch ++ rest)) all ∙ take-append_seam batch rest

-- the batch has room, and the first so many rows of it are these
pub record IsInFront (shape : Shape) (parts : Parts) (row count : ℕ) (batch : List RowCheck) : Type 0 where
  pub has_room : HasRoom shape batch
  pub places : count ≤ length batch
  pub are_read : AreRead shape parts row count batch

pub in_front : (shape : Shape) (old new : Parts) (row count : ℕ) (before after : List RowCheck) (read : BatchRead)
    → 0 < length before → count ≤ length before → IsBatchRead shape old new row count before after read
    → IsInFront shape old row read.rows after
in_front shape old new row count before after read some places is = record {
  has_room = record { some = omega (arith, some, is.places); room = is.room };
  places = omega (arith, places, is.rows, is.places);
  are_read = is.are_read;
}

pub in_front_since : (shape : Shape) (old now : Parts) (row count : ℕ) (batch : List RowCheck) → OnlyRead old now
    → IsInFront shape now row count batch → IsInFront shape old row count batch
in_front_since shape old now row count batch read is = record {
  has_room = is.has_room;
  places = is.places;
  are_read = are_read_since shape old now row count batch read is.are_read;
}

-- the fault that ended the batch is one of the parts as they were before
pub fails_since : (shape : Shape) (old now : Parts) (row rows count : ℕ) (fault : Option SlotFault)
    → OnlyRead old now → row + count ≤ shape.rows → IfSome fault (λ it. (rows < count) × ReadFails shape now (row + rows) it)
    → IfSome fault (λ it. (row + rows < shape.rows) × ReadFails shape old (row + rows) it)
fails_since shape old now row rows count None read within fails = fails
fails_since shape old now row rows count (Some fault) read within fails =
    (omega (arith, fails.0, within), read_fails_since shape old now (row + rows) fault read fails.1)

-- no batch ends with a fault behind the last row
pub none_fails : (shape : Shape) (parts : Parts) (end : ℕ) (fault : Option SlotFault) → shape.rows ≤ end
    → IfSome fault (λ it. (end < shape.rows) × ReadFails shape parts end it) → fault ≡ None
none_fails shape parts end None past fails = refl
none_fails shape parts end (Some fault) past fails = absurd (omega (arith, past, fails.0))
