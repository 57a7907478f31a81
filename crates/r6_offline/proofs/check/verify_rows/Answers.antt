use Rattle.std.proofs.Common.{◌≡◌, ℕ, ◌+◌, ◌<◌, List, Option, Some, length, get_or, drop, refl, sym, ap, subst, ◌∙◌, arith}
use Rattle.r6_layout.specs.Layout.{shard_of}
use Rattle.r6_offline.specs.Lent.{FailsAlone, IsNamed, IsSound, OnlyReadBut, promises_of}
use Rattle.r6_offline.specs.Parts.{OnlyRead, part_number, parts_of}
use Rattle.std.specs.Prelude.{IfSome}
use Rattle.r6_offline.specs.Reports.{IsReport, noted}
use Rattle.r6_offline.specs.Rows.{ReadFails}
use Rattle.r6_offline.specs.RowChecks.{AllFit, AreClassified, HasRoom}
use Rattle.r6_offline.specs.declared.row.SlotFault.{SlotFault}
use Rattle.r6_offline.specs.declared.row_check.RowCheck.{RowCheck}
use Rattle.r6_offline.proofs.CheckLaws.{IsInFront, all_fit_classified, checked_in_batch, fails_since, in_front, in_front_since, none_fails, written}
use Rattle.r6_offline.proofs.LentLaws.{but_none, but_then, keep_both, met_since, none_met, sound_at, sound_none}
use Rattle.r6_offline.proofs.ReportLaws.{Checked, none_checked, report_at_end, report_at_fault}
use Rattle.r6_offline.proofs.RowLaws.{only_read_both, only_read_none}
use Rattle.r6_offline.proofs.check.verify_rows.Goals as goal

pub count_of_rows-count-requires : goal.count_of_rows-count-requires
count_of_rows-count-requires g c = record {
  within = omega arith;
  some = omega (arith, c.len.ensures, c.requires.front.some, c.args.front.ok.0);
}

pub read_batch-read-requires : goal.read_batch-read-requires
read_batch-read-requires g c = record {
  parts = c.requires.parts;
  within = c.count_of_rows-count.ensures.within;
  bounded = omega (arith, c.rows-rows.ensures.limits.rows_allowed.1);
  places = omega (arith, c.count_of_rows-count.ensures.room, c.len.ensures, c.as_mut_slice.ensures.len);
  room = subst (AllFit c.args.geometry.now) (sym c.as_mut_slice.ensures.value) c.requires.front.room;
}

pub loop-row-init : goal.loop-row-init
loop-row-init g c =
    let shape = c.args.geometry.now in
    let started = parts_of g.D.BlockDevice.told c.args.parts.now in
    let read = c.read_batch-read.ensures.read in
    let slice = c.as_mut_slice.ensures in
    let batch = c.read_batch-read.new.batch in
    let rest = drop (length batch) c.args.front.items in
    let all : c.args.front.len ≡ length batch = sym (read.places ∙ slice.len) in
    let some : 0 < length c.as_mut_slice.result.now = subst (λ (items : List RowCheck). 0 < length items) (sym slice.value) c.requires.front.some in
    record {
      within = omega (arith, read.rows, c.count_of_rows-count.ensures.within);
      goes_on = λ more none. omega (arith, c.count_of_rows-count.ensures.some more, read.all none);
      front =
          subst (IsInFront shape started 0 c.read_batch-read.result.rows) (sym (written batch rest c.args.front.len all))
          (in_front shape started (parts_of g.D.BlockDevice.told c.read_batch-read.new.parts) 0 c.count_of_rows-count.result
          c.as_mut_slice.result.now batch c.read_batch-read.result some (omega (arith, c.count_of_rows-count.ensures.room, c.len.ensures, slice.len)) read);
      behind = c.requires.behind;
      fails = fails_since shape started started 0 c.read_batch-read.result.rows c.count_of_rows-count.result c.read_batch-read.result.fault
          (only_read_none started) c.count_of_rows-count.ensures.within read.fails;
      only_read = read.only_read;
      alone = c.read_batch-read.ensures.alone;
      promised = c.read_batch-read.ensures.promised;
      checked = subst (Checked shape started 0) (sym c.new-report.ensures) (none_checked shape started);
    }

pub overflow_add-end : goal.overflow_add-end
overflow_add-end g c = omega (arith, c.loop-row.invariant.within, c.rows-rows.ensures.limits.rows_allowed.1)

pub count_behind-count-requires : goal.count_behind-count-requires
count_behind-count-requires g c = record {
  within = c.loop-row.invariant.within;
  some = omega (arith, c.len-in-loop-row.ensures, c.loop-row.invariant.behind.some, c.loop-row.behind.ok.0);
}

pub classify_and_read-next-requires : goal.classify_and_read-next-requires
classify_and_read-next-requires g c =
    let behind = c.as_mut_slice-in-loop-row-2.ensures in (
      c.type_bounds.sync-R,
      (
        c.loop-row.auto.parts ∙ c.read_batch-read.auto.parts ∙ c.requires.parts,
        (
          c.count_behind-count.ensures.within,
          (
            omega (arith, c.rows-rows.ensures.limits.rows_allowed.1),
            (
              omega (arith, c.count_behind-count.ensures.room, c.len-in-loop-row.ensures, behind.len),
              subst (AllFit c.args.geometry.now) (sym behind.value) c.loop-row.invariant.behind.room,
            ),
          ),
        ),
      ),
    )

pub loop-index-init : goal.loop-index-init
loop-index-init g c =
    let same : c.loop-row.row ≡ c.loop-row.row + 0 = omega arith in
    subst (λ (n : ℕ). Checked c.args.geometry.now (parts_of g.D.BlockDevice.told c.args.parts.now) n c.loop-row.report) same c.loop-row.invariant.checked

pub overflow_add-row : goal.overflow_add-row
overflow_add-row g c = omega (arith, c.loop-index-test.true, c.loop-row.invariant.within, c.rows-rows.ensures.limits.rows_allowed.1)

pub index-requires : goal.index-requires
index-requires g c = omega (arith, c.loop-index-test.true, c.loop-row.invariant.front.places, c.loop-row.front.ok.0)

pub note-requires : goal.note-requires
note-requires g c =
    omega (arith, c.loop-index.invariant.each_once, c.loop-index-test.true, c.loop-row.invariant.within, c.rows-rows.ensures.limits.rows_allowed.1)

pub loop-index-preserved : goal.loop-index-preserved
loop-index-preserved g c =
    let shape = c.args.geometry.now in
    let started = parts_of g.D.BlockDevice.told c.args.parts.now in
    let index = c.loop-index.index in
    let rows = c.loop-row.read.rows in
    let before = c.loop-row.front.items in
    let after = c.classify_and_read-next.new.classified in
    let report = c.loop-index.report in
    let front = c.loop-row.invariant.front in
    let slice = c.as_mut_slice-in-loop-row.ensures in
    let classified : AreClassified before after = subst (λ (items : List RowCheck). AreClassified items after) slice.value c.classify_and_read-next.ensures.classified in
    let all : c.loop-row.front.len ≡ length after = sym (c.classify_and_read-next.ensures.classified.count ∙ slice.len) in
    let below : index < rows = omega (arith, c.loop-index-test.true, c.loop-index.auto.index-end) in
    let check : RowCheck = c.index.result.now in
    let is : check ≡ get_or after index check =
    c.index.ensures ∙ ap (λ (items : List RowCheck). get_or items index check) (written after (drop (length after) before) c.loop-row.front.len all) in
    subst (λ report. Checked shape started (c.loop-row.row + (index + 1)) report) {x = noted report (c.loop-row.row + index) check.finding}
    (sym c.note.ensures)
    (subst (λ (check : RowCheck). Checked shape started (c.loop-row.row + (index + 1)) (noted report (c.loop-row.row + index) check.finding)) (sym is)
    (checked_in_batch shape started started c.loop-row.row rows index before after report check (only_read_none started) front.are_read classified
    below (omega (arith, below, front.places)) c.loop-index.invariant))

pub loop-row-preserved : goal.loop-row-preserved
loop-row-preserved g c =
    let shape = c.args.geometry.now in
    let told = g.D.BlockDevice.told in
    let started = parts_of told c.args.parts.now in
    let now = parts_of told c.loop-row.parts in
    let next = parts_of told c.classify_and_read-next.new.parts in
    let so_far = c.loop-row.invariant in
    let end = c.loop-row.row + c.loop-row.read.rows in
    let read = c.classify_and_read-next.ensures.read in
    let front = c.as_mut_slice-in-loop-row.ensures in
    let behind = c.as_mut_slice-in-loop-row-2.ensures in
    let batch = c.classify_and_read-next.new.batch in
    let classified = c.classify_and_read-next.new.classified in
    let unread : OnlyRead started now = so_far.only_read c.in_default.is in
    let promised = g.D.BlockDevice.promised in
    let all : c.loop-row.behind.len ≡ length batch = sym (read.places ∙ behind.len) in
    let all_front : c.loop-row.front.len ≡ length classified = sym (c.classify_and_read-next.ensures.classified.count ∙ front.len) in
    let some : 0 < length c.as_mut_slice-in-loop-row-2.result.now =
    subst (λ (items : List RowCheck). 0 < length items) (sym behind.value) so_far.behind.some in
    let are : AreClassified c.loop-row.front.items classified =
    subst (λ (items : List RowCheck). AreClassified items classified) front.value c.classify_and_read-next.ensures.classified in
    let count : c.loop-index.index ≡ c.loop-row.read.rows = omega (arith, c.loop-index-test.false, c.loop-index.auto.index-end) in
    record {
      within = omega (arith, c.count_behind-count.ensures.within, read.rows);
      goes_on = λ more none. omega (arith, c.count_behind-count.ensures.some c.in_default.is more, read.all none);
      front =
          subst (IsInFront shape started end c.classify_and_read-next.result.rows)
          (sym (ap (λ v. v.items) c.swap.ensures.x_after ∙ written batch (drop (length batch) c.loop-row.behind.items) c.loop-row.behind.len all))
          (in_front_since shape started now end c.classify_and_read-next.result.rows batch unread
          (in_front shape now next end c.count_behind-count.result c.as_mut_slice-in-loop-row-2.result.now batch c.classify_and_read-next.result some
          (omega (arith, c.count_behind-count.ensures.room, c.len-in-loop-row.ensures, behind.len)) read));
      behind =
          subst (HasRoom shape)
          (sym (ap (λ v. v.items) c.swap.ensures.y_after ∙ written classified (drop (length classified) c.loop-row.front.items) c.loop-row.front.len all_front))
          (record {
            some = omega (arith, so_far.front.has_room.some, are.count);
            room = all_fit_classified shape c.loop-row.front.items classified so_far.front.has_room.room are;
          });
      fails = fails_since shape started now end c.classify_and_read-next.result.rows c.count_behind-count.result c.classify_and_read-next.result.fault
          unread c.count_behind-count.ensures.within read.fails;
      only_read = λ none. only_read_both started now next unread (read.only_read none);
      alone = met_since shape (promises_of promised c.args.parts.now) (promises_of promised c.loop-row.parts) started now next
          (end + c.classify_and_read-next.result.rows) c.classify_and_read-next.result.fault so_far.promised unread c.classify_and_read-next.ensures.alone;
      promised = keep_both (promises_of promised c.args.parts.now) (promises_of promised c.loop-row.parts)
          (promises_of promised c.classify_and_read-next.new.parts) so_far.promised c.classify_and_read-next.ensures.promised;
      checked = subst (λ (n : ℕ). Checked shape started (c.loop-row.row + n) c.loop-index.report) count c.loop-index.invariant;
    }

pub returns-in-Some : goal.returns-in-Some
returns-in-Some g c =
    let shape = c.args.geometry.now in
    let told = g.D.BlockDevice.told in
    let promised = g.D.BlockDevice.promised in
    let started = parts_of told c.args.parts.now in
    let now = parts_of told c.loop-row.parts in
    let next = parts_of told c.classify_and_read-next.new.parts in
    let promises = promises_of promised c.args.parts.now in
    let report = c.loop-index.report in
    let end : ℕ = c.loop-row.row + c.loop-row.read.rows in
    let count : c.loop-index.index ≡ c.loop-row.read.rows = omega (arith, c.loop-index-test.false, c.loop-index.auto.index-end) in
    let checked = subst (λ (n : ℕ). Checked shape started (c.loop-row.row + n) report) count c.loop-index.invariant in
    let fails = subst (λ (fault : Option SlotFault). IfSome fault (λ it. (end < shape.rows) × ReadFails shape started end it)) c.in-Some.is c.loop-row.invariant.fails in
    let alone = subst (λ (fault : Option SlotFault). IfSome fault (FailsAlone shape promises started now end)) c.in-Some.is c.loop-row.invariant.alone in
    let no_more : c.count_behind-count.result ≡ 0 =
    subst (λ (fault : Option SlotFault). IfSome fault (λ _. c.count_behind-count.result ≡ 0)) c.in-Some.is c.count_behind-count.ensures.none in
    let read = c.classify_and_read-next.ensures.read in
    let still : OnlyRead now next =
    read.only_read (none_met shape now next end _ _ c.count_behind-count.result c.classify_and_read-next.result c.classify_and_read-next.result.fault no_more read refl) in
    record {
      report = subst (λ (it : SlotFault). IsReport shape started (record report { fault = Some (record { row = end; slot = it.slot; fault = it.fault }) }))
          (sym c.in-Some.field-0-is) (report_at_fault shape started end c.in-Some.field-0 report checked fails.0 fails.1);
      sound = subst (λ (it : SlotFault). IsSound shape promises (Some (record { row = end; slot = it.slot; fault = it.fault })))
          (sym c.in-Some.field-0-is)
          (sound_at told promised c.args.parts.now now shape end c.in-Some.field-0 c.rows-rows.ensures.limits fails.0 fails.1 alone);
      kept = subst (λ (it : SlotFault). OnlyReadBut (λ number. number ≡ part_number shape (shard_of shape end) it.slot) started next)
          (sym c.in-Some.field-0-is)
          (but_then (λ number. number ≡ part_number shape (shard_of shape end) c.in-Some.field-0.slot) started now next alone.kept still);
      promised = keep_both promises (promises_of promised c.loop-row.parts)
          (promises_of promised c.classify_and_read-next.new.parts) c.loop-row.invariant.promised c.classify_and_read-next.ensures.promised;
    }

pub returns : goal.returns
returns g c =
    let shape = c.args.geometry.now in
    let started = parts_of g.D.BlockDevice.told c.args.parts.now in
    let now = parts_of g.D.BlockDevice.told c.loop-row.parts in
    let so_far = c.loop-row.invariant in
    let report = c.loop-row.report in
    let read = c.loop-row.read in
    let all : c.loop-row.row ≡ shape.rows = omega (arith, c.loop-row-test.false, so_far.within, c.rows-rows.ensures.value) in
    let checked = subst (λ (n : ℕ). Checked shape started n report) all so_far.checked in
    record {
      report = report_at_end shape started report checked;
      sound = sound_none shape (promises_of g.D.BlockDevice.promised c.args.parts.now) report.fault checked.no_fault;
      kept = but_none (IsNamed shape report.fault) started now
          (so_far.only_read (none_fails shape started (c.loop-row.row + read.rows) read.fault (omega (arith, all)) so_far.fails));
      promised = so_far.promised;
    }
