use Rattle.std.proofs.Common.{◌+◌, ◌<◌, ◌≢◌, length, refl, sym, subst, ◌∙◌, arith}
use Rattle.std.proofs.lemmas.List.{length-set, get_or-set_other}
use Rattle.r6_offline.specs.Lent.{promises_of}
use Rattle.r6_offline.specs.Parts.{parts_of}
use Rattle.r6_offline.specs.RowChecks.{IsRead}
use Rattle.r6_offline.proofs.CheckLaws.{all_fit_set, are_read_next}
use Rattle.r6_offline.proofs.LentLaws.{alone_since, keep_both, keep_none}
use Rattle.r6_offline.proofs.RowLaws.{only_read_both, only_read_none, read_fails_since}
use Rattle.r6_offline.proofs.batch.read_batch.Goals as goal

pub loop-index-init : goal.loop-index-init
loop-index-init g c = record {
  count = refl;
  room = c.requires.room;
  only_read = only_read_none (parts_of g.D.BlockDevice.told c.args.parts.now);
  promised = keep_none (promises_of g.D.BlockDevice.promised c.args.parts.now);
  read = λ k other below. absurd (omega (arith, below));
}

pub overflow_add-row : goal.overflow_add-row
overflow_add-row g c = omega (arith, c.requires.within, c.requires.bounded, c.loop-index-test.true, c.loop-index.auto.index-end)

pub loop-index-preserved : goal.loop-index-preserved
loop-index-preserved g c =
    let shape = c.args.geometry.now in
    let told = g.D.BlockDevice.told in
    let started = parts_of told c.args.parts.now in
    let now = parts_of told c.loop-index.parts in
    let batch = c.loop-index.batch in
    let index = c.loop-index.index in
    let check = c.read.new.self in
    let so_far = c.loop-index.invariant in
    let within : index < length batch = omega (arith, c.loop-index-test.true, c.loop-index.auto.index-end, c.requires.places, so_far.count) in
    record {
      count = length-set batch index check ∙ so_far.count;
      room = all_fit_set shape batch index check so_far.room within c.read.ensures.room;
      only_read = only_read_both started now (parts_of told c.read.new.parts) so_far.only_read c.in_default.ensures.only_read;
      promised = keep_both (promises_of g.D.BlockDevice.promised c.args.parts.now) (promises_of g.D.BlockDevice.promised c.loop-index.parts)
          (promises_of g.D.BlockDevice.promised c.read.new.parts) so_far.promised c.read.ensures.promised;
      read = are_read_next shape started now c.args.row index batch check within so_far.only_read so_far.read c.in_default.ensures.read;
    }

pub bounds-batch-index : goal.bounds-batch-index
bounds-batch-index g c = omega (arith, c.loop-index-test.true, c.requires.places, c.loop-index.invariant.count)

pub read-requires : goal.read-requires
read-requires g c =
    let so_far = c.loop-index.invariant in
    record {
      row_within = omega (arith, c.loop-index-test.true, c.requires.within);
      parts = c.loop-index.auto.parts ∙ c.requires.parts;
      room = so_far.room c.loop-index.index c.index-batch-index.result (omega (arith, c.loop-index-test.true, c.requires.places, so_far.count));
    }

pub returns-in-Err-clause-read : goal.returns-in-Err-clause-read
returns-in-Err-clause-read g c =
    let shape = c.args.geometry.now in
    let told = g.D.BlockDevice.told in
    let row = c.args.row in
    let started = parts_of told c.args.parts.now in
    let batch = c.loop-index.batch in
    let index = c.loop-index.index in
    let check = c.read.new.self in
    let so_far = c.loop-index.invariant in
    let within : index < length batch = omega (arith, c.loop-index-test.true, c.requires.places, so_far.count) in
    record {
      places = length-set batch index check ∙ so_far.count;
      room = all_fit_set shape batch index check so_far.room within c.read.ensures.room;
      rows = omega (arith, c.loop-index-test.true);
      all = λ none. absurd cc;
      fails = (c.loop-index-test.true, read_fails_since shape started (parts_of told c.loop-index.parts) (row + index) c.in-Err.fault so_far.only_read c.in-Err.ensures.fails);
      only_read = λ none. absurd cc;
      are_read = λ k other below.
          let apart : k ≢ index = λ same. omega (arith, same, below) in
          subst (IsRead shape started (row + k)) (sym (get_or-set_other batch index k check other apart)) (so_far.read k other below);
    }

pub returns-clause-read : goal.returns-clause-read
returns-clause-read g c =
    let so_far = c.loop-index.invariant in
    record {
      places = so_far.count;
      room = so_far.room;
      rows = omega arith;
      all = λ _. refl;
      fails = tt;
      only_read = λ _. so_far.only_read;
      are_read = λ k other below. so_far.read k other (omega (arith, below, c.loop-index-test.false));
    }

pub returns-in-Err-clause-alone : goal.returns-in-Err-clause-alone
returns-in-Err-clause-alone g c =
    let told = g.D.BlockDevice.told in
    let promised = g.D.BlockDevice.promised in
    let so_far = c.loop-index.invariant in
    alone_since c.args.geometry.now (promises_of promised c.args.parts.now) (promises_of promised c.loop-index.parts)
    (parts_of told c.args.parts.now) (parts_of told c.loop-index.parts) (parts_of told c.read.new.parts) (c.args.row + c.loop-index.index)
    c.in-Err.fault so_far.promised so_far.only_read c.in-Err.ensures.alone

pub returns-in-Err-clause-promised : goal.returns-in-Err-clause-promised
returns-in-Err-clause-promised g c =
    let promised = g.D.BlockDevice.promised in
    keep_both (promises_of promised c.args.parts.now) (promises_of promised c.loop-index.parts) (promises_of promised c.read.new.parts)
    c.loop-index.invariant.promised c.read.ensures.promised

pub returns-clause-alone : goal.returns-clause-alone
returns-clause-alone g c = tt

pub returns-clause-promised : goal.returns-clause-promised
returns-clause-promised g c = c.loop-index.invariant.promised
