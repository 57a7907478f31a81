use Rattle.std.proofs.Common.{◌≡◌, ℕ, ◌+◌, ◌∙◌, Some, sym, subst, arith}
use Rattle.std.specs.Prelude.{IfSome, None}
use Rattle.r6_recover.specs.declared.class.RowClass.TheVariants.{Consistent}
use Rattle.r6_offline.specs.Lent.{FailsAlone, promises_of}
use Rattle.r6_offline.specs.Parts.{OnlyRead, parts_of}
use Rattle.r6_offline.specs.Rows.{Fits}
use Rattle.r6_offline.proofs.CheckLaws.{found}
use Rattle.r6_offline.proofs.LentLaws.{alone_since, keep_both, keep_none}
use Rattle.r6_offline.proofs.PartLaws.{Noted, no_fault_noted, noted_next, noted_to, none_noted, part_at_end, part_at_fault}
use Rattle.r6_offline.proofs.ReportLaws.{finding_since}
use Rattle.r6_offline.proofs.RowLaws.{only_read_both, only_read_none, read_fails_since}
use Rattle.r6_offline.proofs.shard_check.check_rows.Goals as goal

pub loop-row-init : goal.loop-row-init
loop-row-init g c =
    let started = parts_of g.D.BlockDevice.told c.args.parts.now in
    record {
      within = c.requires.rows.0;
      stretch = c.requires.stretch;
      room = c.requires.room;
      only_read = only_read_none started;
      promised = keep_none (promises_of g.D.BlockDevice.promised c.args.parts.now);
      noted = none_noted c.args.geometry.now started c.args.first c.new-report.result c.new-report.ensures;
    }

pub loop-row-preserved-then-row-next : goal.loop-row-preserved-then-row-next
loop-row-preserved-then-row-next g c =
    let shape = c.args.geometry.now in
    let told = g.D.BlockDevice.told in
    let row = c.loop-row.row in
    let next = c.consistent_to-next.result in
    let started = parts_of told c.args.parts.now in
    let now = parts_of told c.loop-row.parts in
    let so_far = c.loop-row.invariant in
    let promised = g.D.BlockDevice.promised in
    let ahead = c.consistent_to-next.ensures in
    record {
      within = ahead.within.1;
      stretch = ahead.places;
      room = so_far.room;
      only_read = only_read_both started now (parts_of told c.consistent_to-next.new.parts) so_far.only_read ahead.only_read;
      promised = keep_both (promises_of promised c.args.parts.now) (promises_of promised c.loop-row.parts) (promises_of promised c.consistent_to-next.new.parts)
          so_far.promised ahead.promised;
      noted = subst (λ report. Noted shape started c.args.first next report) (sym c.note_consistent.ensures)
          (noted_to shape started c.args.first row next c.loop-row.report (Some Consistent) ahead.within.0 so_far.noted
          (λ at from below. finding_since shape started now at (Some Consistent) so_far.only_read (ahead.consistent at from below)));
    }

pub loop-row-preserved : goal.loop-row-preserved
loop-row-preserved g c =
    let shape = c.args.geometry.now in
    let told = g.D.BlockDevice.told in
    let row = c.loop-row.row in
    let started = parts_of told c.args.parts.now in
    let now = parts_of told c.consistent_to-next.new.parts in
    let so_far = c.loop-row.invariant in
    let ahead = c.consistent_to-next.ensures in
    let promised = g.D.BlockDevice.promised in
    let finding = c.classify.new.self.finding in
    let only_read : OnlyRead started now = only_read_both started (parts_of told c.loop-row.parts) now so_far.only_read ahead.only_read in
    let kept = keep_both (promises_of promised c.args.parts.now) (promises_of promised c.loop-row.parts) (promises_of promised c.consistent_to-next.new.parts)
    so_far.promised ahead.promised in
    record {
      within = omega (arith, c.loop-row-test.true);
      stretch = ahead.places;
      room = subst (Fits shape) (sym c.classify.ensures.reader) c.read.ensures.room;
      only_read = only_read_both started now (parts_of told c.read.new.parts) only_read c.in_default.ensures.only_read;
      promised = keep_both (promises_of promised c.args.parts.now) (promises_of promised c.consistent_to-next.new.parts) (promises_of promised c.read.new.parts)
          kept c.read.ensures.promised;
      noted = subst (λ report. Noted shape started c.args.first (row + 1) report) (sym c.note.ensures)
          (noted_next shape started c.args.first row c.loop-row.report finding so_far.noted
          (finding_since shape started now row finding only_read
          (found shape now row c.read.new.self c.classify.new.self c.in_default.ensures.read c.classify.ensures)));
    }

pub consistent_to-next-requires : goal.consistent_to-next-requires
consistent_to-next-requires g c = record {
  rows = (c.loop-row-test.true, c.requires.rows.1);
  parts = c.loop-row.auto.parts ∙ c.requires.parts;
  places = c.loop-row.invariant.stretch;
}

pub returns-clause-report : goal.returns-clause-report
returns-clause-report g c =
    let shape = c.args.geometry.now in
    let started = parts_of g.D.BlockDevice.told c.args.parts.now in
    let ends : c.loop-row.row ≡ c.args.end = omega (arith, c.loop-row-test.false, c.loop-row.invariant.within) in
    part_at_end shape started c.args.first c.args.end c.loop-row.report
    (subst (λ (r : ℕ). Noted shape started c.args.first r c.loop-row.report) ends c.loop-row.invariant.noted)

pub read-requires : goal.read-requires
read-requires g c = record {
  row_within = omega (arith, c.loop-row-test.true, c.requires.rows.1);
  parts = c.consistent_to-next.auto.parts ∙ c.loop-row.auto.parts ∙ c.requires.parts;
  room = c.loop-row.invariant.room;
}

pub returns-in-Err : goal.returns-in-Err
returns-in-Err g c =
    let shape = c.args.geometry.now in
    let told = g.D.BlockDevice.told in
    let started = parts_of told c.args.parts.now in
    let row = c.loop-row.row in
    let fault = c.in-Err.field-0 in
    let promised = g.D.BlockDevice.promised in
    let now = parts_of told c.consistent_to-next.new.parts in
    let ahead = c.consistent_to-next.ensures in
    let only_read : OnlyRead started now = only_read_both started (parts_of told c.loop-row.parts) now c.loop-row.invariant.only_read ahead.only_read in
    let kept = keep_both (promises_of promised c.args.parts.now) (promises_of promised c.loop-row.parts) (promises_of promised c.consistent_to-next.new.parts)
    c.loop-row.invariant.promised ahead.promised in
    record {
      report = part_at_fault shape started c.args.first c.args.end row fault c.loop-row.report c.loop-row.invariant.noted
          c.loop-row-test.true
          (read_fails_since shape started now row fault only_read c.in-Err.ensures.fails);
      kept = λ none. absurd (cc);
      alone = alone_since shape (promises_of promised c.args.parts.now) (promises_of promised c.consistent_to-next.new.parts) started now
          (parts_of told c.read.new.parts) row fault kept only_read c.in-Err.ensures.alone;
      promised = keep_both (promises_of promised c.args.parts.now) (promises_of promised c.consistent_to-next.new.parts) (promises_of promised c.read.new.parts)
          kept c.read.ensures.promised;
    }

pub returns-clause-kept : goal.returns-clause-kept
returns-clause-kept g c = λ _. c.loop-row.invariant.only_read

pub returns-clause-alone : goal.returns-clause-alone
returns-clause-alone g c =
    let none : c.loop-row.report.fault ≡ None = no_fault_noted _ _ _ _ _ c.loop-row.invariant.noted in
    subst (λ fault. IfSome fault (λ it. FailsAlone c.args.geometry.now (promises_of g.D.BlockDevice.promised c.args.parts.now)
    (parts_of g.D.BlockDevice.told c.args.parts.now) (parts_of g.D.BlockDevice.told c.loop-row.parts) it.row
    (record { slot = it.slot; fault = it.fault }))) (sym none) tt

pub returns-clause-promised : goal.returns-clause-promised
returns-clause-promised g c = c.loop-row.invariant.promised
