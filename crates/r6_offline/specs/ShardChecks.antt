-- Each shard's rows, checked in a thread of their own.
use Rattle.std.specs.Prelude.{◌≡◌, ℕ, ◌+◌, ◌*◌, ◌≤◌, List, [], ◌∷◌, Option, None, IfSome, length, ⊤}
use Rattle.r6_layout.specs.Layout.{first_row}
use Rattle.r6_layout.specs.Shape.{Shape}
use Rattle.r6_dev.specs.History.{Telling}
use Rattle.r6_dev.specs.Promises.{Promise}
use Rattle.r6_offline.specs.Lent.{FailsAlone, KeepPromises, promises_of}
use Rattle.r6_offline.specs.Parts.{OnlyRead, parts_of}
use Rattle.r6_offline.specs.Rows.{Fits}
use Rattle.r6_offline.specs.PartReports.{IsPartReport}
use Rattle.r6_offline.specs.Stretches.{FitsRows}
use Rattle.r6_offline.specs.declared.report.Report.{Report}
use Rattle.r6_offline.specs.declared.shard_check.ShardCheck.{ShardCheck}

-- the array with the same rows that has them all in one shard
abbrev pub one_shard : Shape → Shape
one_shard shape = record shape { shards = 1 }

abbrev pub own_parts : {D : Type 0} → ShardCheck D → List (Option D)
own_parts check = check.parts.items

abbrev pub report_of : {D : Type 0} → ShardCheck D → Report
report_of check = check.report

-- a check that may begin: it has the parts of an array of one shard, of whose rows it is to check some
pub record Begins {D : Type 0} (shape : Shape) (check : ShardCheck D) : Type 0 where
  pub parts : length check.parts.items ≡ shape.shards * shape.slots
  pub room : Fits shape check.check.reader
  pub stretch : FitsRows shape check.stretch
  pub rows : (check.first_row ≤ check.end) × (check.end ≤ shape.rows)

-- a check that has ended: what it found, and its parts, read alone but for the one that failed
pub record HasChecked {D : Type 0} (told : D → Telling) (promised : D → Promise) (shape : Shape)
    (old new : ShardCheck D) : Type 0 where
  pub report : IsPartReport shape (parts_of told old.parts.items) old.first_row old.end new.report
  pub kept : new.report.fault ≡ None → OnlyRead (parts_of told old.parts.items) (parts_of told new.parts.items)
  pub alone : IfSome new.report.fault (λ fault. FailsAlone shape (promises_of promised old.parts.items)
      (parts_of told old.parts.items) (parts_of told new.parts.items) fault.row
      (record { slot = fault.slot; fault = fault.fault }))
  pub promises : KeepPromises (promises_of promised old.parts.items) (promises_of promised new.parts.items)
  pub places : length new.parts.items ≡ length old.parts.items

-- the same check, with other parts
pub record HasOtherParts {D : Type 0} (old new : ShardCheck D) : Type 0 where
  pub first : new.first_row ≡ old.first_row
  pub end : new.end ≡ old.end
  pub check : new.check ≡ old.check
  pub stretch : new.stretch ≡ old.stretch
  pub report : new.report ≡ old.report
  pub places : length new.parts.items ≡ length old.parts.items

-- the check of a shard's rows, with places for all parts of the shard
pub record IsShardCheck {D : Type 0} (shape : Shape) (shard : ℕ) (check : ShardCheck D) : Type 0 where
  pub first : check.first_row ≡ first_row shape shard
  pub end : check.end ≡ first_row shape (shard + 1)
  pub room : Fits (one_shard shape) check.check.reader
  pub stretch : FitsRows (one_shard shape) check.stretch
  pub places : length check.parts.items ≡ shape.slots

-- one for each shard, from this one on
abbrev pub AreShardChecks : {D : Type 0} → Shape → (shard : ℕ) → List (ShardCheck D) → Type 0
AreShardChecks shape shard [] = ⊤
AreShardChecks shape shard (check ∷ checks) = IsShardCheck shape shard check × AreShardChecks shape (shard + 1) checks
