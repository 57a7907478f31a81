use Rattle.std.proofs.Common.{◌<◌, ◌∙◌, ◌++◌, ◌∷◌, [], ap, append-nil, append_assoc, arith, length, refl, subst, sym}
use Rattle.std.specs.List.{AllZip}
use Rattle.std.specs.Prelude.{◌%◌}
use Rattle.std.proofs.Math.Nat.{mod-lt}
use Rattle.std.proofs.lemmas.List.{length-append, length-map}
use Rattle.std.proofs.lemmas.List.Sorted.{length_permutation}
use Rattle.std.proofs.lemmas.Slice.Zip.{AllZip-long}
use Rattle.r6_exchange.specs.Workers.{IsWorker}
use Rattle.r6_shard.specs.Parts.{label_of, labels_of}
use Rattle.r6_shard.specs.Performing.{Performer}
use Rattle.r6_engine.specs.remote.Remotes.{performer_of}
use Rattle.r6_engine.specs.Crews.{HasTakenUp}
use Rattle.r6_engine.proofs.Crews.{none-taken, some-workers, taken-more}
use Rattle.r6_engine.proofs.posting.take_up.Goals as goal

pub loop-part-init : goal.loop-part-init
loop-part-init g c =
    let told = g.D.BlockDevice.told in
    let promised = g.D.BlockDevice.promised in
    record {
      remote = c.requires.remote;
      site = refl;
      workers = c.requires.workers;
      taken = (
        [],
        sym (append-nil c.args.parts.items),
        subst (HasTakenUp told promised []) (sym c.requires.fresh.2) (none-taken told promised c.requires.fresh.0 c.requires.fresh.1),
      );
      room = refl;
      steady = refl;
    }

pub nonzero_rem-at : goal.nonzero_rem-at
nonzero_rem-at g c =
    let kept = c.loop-part.invariant in
    let some = some-workers g.D.BlockDevice.told g.D.BlockDevice.promised c.loop-part.remote c.loop-part.workers.items kept.remote kept.workers in
    let len = c.loop-part.workers.ok.0 in
    let count = c.len-count.ensures in
    omega (arith, some, len, count)

pub take_up-requires-clause-room : goal.take_up-requires-clause-room
take_up-requires-clause-room g c =
    let kept = c.loop-part.invariant in
    let done = kept.taken.0 in
    let rest = c.pop.new.self.items in
    let labels = length_permutation (labels_of done) c.loop-part.remote.labels.items kept.taken.2.labels in
    let long = length-map done label_of in
    let whole = ap length kept.taken.1 ∙ length-append c.loop-part.parts.items done in
    let more = ap length c.in-Some.ensures.items ∙ length-append rest (c.in-Some.part ∷ []) in
    let room = kept.room in
    let first = ap (λ (p : Performer). p.part_room) c.requires.fresh.2 in
    let fits = c.requires.fresh.3 in
    omega (arith, labels, long, whole, more, room, first, fits)

pub step_at-requires-clause-within : goal.step_at-requires-clause-within
step_at-requires-clause-within g c =
    let told = g.D.BlockDevice.told in
    let promised = g.D.BlockDevice.promised in
    let kept = c.loop-part.invariant in
    let workers = c.loop-part.workers.items in
    let some = some-workers told promised c.loop-part.remote workers kept.remote kept.workers in
    let long = AllZip-long (IsWorker told promised) c.loop-part.remote.exchanges.now workers kept.workers in
    let len = c.loop-part.workers.ok.0 in
    let count = c.len-count.ensures in
    let same = ap length c.take_up.ensures.site in
    let below : c.in-Some.part.slot % c.len-count.result < c.len-count.result = mod-lt c.in-Some.part.slot (omega (arith, some, len, count)) in
    omega (arith, below, long, len, count, same)

pub step_at-requires-clause-workers : goal.step_at-requires-clause-workers
step_at-requires-clause-workers g c =
    subst (λ es. AllZip (IsWorker g.D.BlockDevice.told g.D.BlockDevice.promised) es c.loop-part.workers.items) (sym c.take_up.ensures.site)
    c.loop-part.invariant.workers

pub loop-part-preserved : goal.loop-part-preserved
loop-part-preserved g c =
    let told = g.D.BlockDevice.told in
    let promised = g.D.BlockDevice.promised in
    let kept = c.loop-part.invariant in
    let done = kept.taken.0 in
    let part = c.in-Some.part in
    let rest = c.pop.new.self.items in
    record {
      remote = c.take_up.ensures.holds;
      site = c.take_up.ensures.site ∙ kept.site;
      workers = c.step_at.ensures.workers;
      taken = (
        part ∷ done,
        kept.taken.1 ∙ ap (λ y. y ++ done) c.in-Some.ensures.items ∙ append_assoc rest (part ∷ []) done,
        taken-more told promised part done (performer_of told promised c.loop-part.remote) (performer_of told promised c.take_up.new.self)
            c.take_up.ensures.taken kept.taken.2,
      );
      room = c.take_up.ensures.taken.part_room ∙ kept.room;
      steady = c.take_up.ensures.taken.steady ∙ kept.steady;
    }
