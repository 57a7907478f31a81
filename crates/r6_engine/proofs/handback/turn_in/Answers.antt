use Rattle.std.proofs.Common.{◌∙◌, ◌++◌, List, ap, append_assoc, arith, map, subst, sym, IsPermutation}
use Rattle.std.proofs.lemmas.List.{length-append, length-map, map-append}
use Rattle.std.proofs.lemmas.List.Sorted.{IsPermutation-append_left, length_permutation}
use Rattle.r6_core.specs.Shards.{world_shard}
use Rattle.r6_exchange.specs.declared.task.Part.{Part}
use Rattle.r6_shard.specs.Parts.{label_of, labels_of, part_in}
use Rattle.r6_shard.specs.Performing.{IsHere}
use Rattle.r6_engine.specs.remote.Remotes.{performer_of}
use Rattle.r6_engine.specs.Replies.{said_of_entry, said_of_scrub, said_of_refusal, with_all}
use Rattle.r6_engine.proofs.Crews.{none-out, told-here}
use Rattle.r6_engine.proofs.Saying.{three_kinds}
use Rattle.r6_engine.proofs.handback.turn_in.Goals as goal

pub take_parts-back-requires-clause-idle : goal.take_parts-back-requires-clause-idle
take_parts-back-requires-clause-idle g c =
    let shard = c.args.runner.shard in
    let core = shard.core in
    none-out core.shape core.shard (world_shard core).command (world_shard core).tokens
    (performer_of g.D.BlockDevice.told g.D.BlockDevice.promised shard.parts).out shard.kept.3 c.requires.over.rests.none_out

pub take_parts-back-requires-clause-room : goal.take_parts-back-requires-clause-room
take_parts-back-requires-clause-room g c =
    let back = c.requires.fits.0.back in
    let fits = c.requires.fits.1.parts in
    let parts = back.parts_room in
    let others = back.others_room in
    record {
      no_part = back.no_part;
      no_other = back.no_other;
      parts_room = omega (arith, fits, parts);
      others_room = omega (arith, fits, others);
    }

pub with_others-requires : goal.with_others-requires
with_others-requires g c =
    let labels = c.args.runner.shard.parts.labels.items in
    let back = c.take_parts-back.result in
    let same = length_permutation labels (labels_of back.parts.items ++ labels_of back.others.items) c.take_parts-back.ensures.labels in
    let both = length-append (labels_of back.parts.items) (labels_of back.others.items) in
    let parts = length-map back.parts.items label_of in
    let others = length-map back.others.items label_of in
    let all = c.requires.fits.1.all in
    let capacity = c.take_parts-back.ensures.capacity in
    let room = c.requires.fits.0.back.others_room in
    omega (arith, same, both, parts, others, all, capacity, room)

pub returns-clause-said : goal.returns-clause-said
returns-clause-said g c =
    let table = c.args.replies.now.replies.items in
    let one = c.add_refused.new.self.replies.items in
    let two = c.add_scrubs.new.self.replies.items in
    three_kinds table one two c.add_entries.new.self.replies.items (map said_of_refusal c.args.runner.refused.items)
    (map said_of_scrub c.args.runner.scrubs_done.items) (map said_of_entry c.args.runner.shard.entries.items)
    (c.add_refused.ensures ∙ ap (λ all. with_all table (map said_of_refusal all)) c.as_slice.ensures.value)
    (c.add_scrubs.ensures ∙ ap (λ all. with_all one (map said_of_scrub all)) c.as_slice-2.ensures.value)
    c.add_entries.ensures.said

pub returns-clause-back : goal.returns-clause-back
returns-clause-back g c =
    let told = g.D.BlockDevice.told in
    let labels = c.args.runner.shard.parts.labels.items in
    let others = c.args.runner.others.items in
    let back = c.take_parts-back.result in
    let taken = c.take_parts-back.ensures.back in
    let whole = c.with_others.ensures in
    record {
      labels = subst (IsPermutation (labels ++ labels_of others))
          (sym ((λ i. labels_of (whole.parts i) ++ labels_of (whole.others i))
          ∙ ap (λ y. labels_of back.parts.items ++ y) (map-append label_of back.others.items others)
          ∙ sym (append_assoc (labels_of back.parts.items) (labels_of back.others.items) (labels_of others))))
          (IsPermutation-append_left (labels_of others) labels (labels_of back.parts.items ++ labels_of back.others.items)
          c.take_parts-back.ensures.labels);
      here = λ slot generation x. subst (λ (ps : List (Part _)). IsHere (labels_of ps) slot generation) (sym whole.parts)
          (told-here told back.parts.items slot generation (taken.labels slot generation x));
      there = λ slot generation has none.
          has (ap (λ (ps : List (Part _)). part_in told ps slot generation) whole.parts ∙ taken.none slot generation none);
      tells = λ slot generation blocks e.
          ap (λ (ps : List (Part _)). part_in told ps slot generation) whole.parts ∙ taken.tells slot generation blocks e;
    }
