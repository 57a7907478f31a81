use Rattle.std.specs.Prelude.{IsPermutation}
use Rattle.std.proofs.lemmas.List.Sorted.{IsPermutation-refl}
use Rattle.r6_exchange.specs.declared.task.Part.{Part}
use Rattle.r6_shard.specs.Here.{HasUsed}
use Rattle.r6_shard.specs.Parts.{labels_of}
use Rattle.r6_engine.specs.declared.runner.runner.Handed.{Handed}
use Rattle.r6_engine.specs.runner.Parts.{labels_in}
use Rattle.std.proofs.Common.{◌≡◌, ◌+◌, ◌≤◌, ◌++◌, List, ◌-◌, [], All, None, ap, arith, length, refl, sym, subst}
use Rattle.std.proofs.lemmas.List.Elements.{All-nil}
use Rattle.r6_engine.specs.declared.runner.scrub.ScrubDone.{ScrubDone}
use Rattle.r6_engine.specs.runner.Counted.{IsCounting, rows_of_shard}
use Rattle.r6_engine.proofs.RunnerLemmas.Awaiting.{none}
use Rattle.r6_engine.proofs.RunnerLemmas.Counting.{counting-first}
use Rattle.r6_engine.proofs.RunnerLemmas.Done.{is-first, is-like}
use Rattle.r6_engine.proofs.runner.runner.Runner.new.Goals as goal

pub returns-clause-begins : goal.returns-clause-begins
returns-clause-begins g c = λ shape events.
    let p = c.args.place in
    let shard = c.in_ok-shard.shard in
    is-like shape events p.geometry p.number c.args.snapshot.now (g.P.Performs.performer c.args.parts).tells [] shard shard [] c.in_ok-rooms.rooms.refused.items None None
    [] c.in_ok-rooms.rooms.scrubs_done.items [] c.in_ok-rooms.rooms.handed.items [] c.in_ok-rooms.rooms.due.items refl c.in_ok-rooms.ensures.2 refl
    c.in_ok-rooms.ensures.4 c.in_ok-rooms.ensures.6 c.in_ok-rooms.ensures.0
    (is-first shape events p.geometry p.number c.args.snapshot.now c.args.parts shard c.in_ok-shard.ensures.parts c.in_ok-shard.ensures.empty
    c.in_ok-shard.ensures.shape c.in_ok-shard.ensures.place c.in_ok-shard.ensures.begins)

pub returns-clause-awaited : goal.returns-clause-awaited
returns-clause-awaited g c = λ events.
    none events 0 c.in_ok-shard.shard.asked.items c.in_ok-rooms.rooms.due.items c.in_ok-shard.ensures.empty c.in_ok-rooms.ensures.0

pub returns-clause-sound : goal.returns-clause-sound
returns-clause-sound g c = c.in_ok-shard.ensures.sound

pub returns-clause-counted : goal.returns-clause-counted
returns-clause-counted g c =
    let p = c.args.place in
    let rows = rows_of_shard p.geometry p.number in
    let core = c.in_ok-shard.shard.core in (
      (λ i. c.shard_rows-rows.ensures.end i - c.shard_rows-rows.ensures.start i),
      0,
      0,
      subst (IsCounting rows 0 0 core None) (sym c.in_ok-rooms.ensures.4) (counting-first rows core c.in_ok-shard.ensures.passed),
    )

pub returns-clause-pass : goal.returns-clause-pass
returns-clause-pass g c = c.in_ok-shard.ensures.pass

pub returns-clause-place : goal.returns-clause-place
returns-clause-place g c = c.in_ok-shard.ensures.place

pub invariant_of-result : goal.invariant_of-result
invariant_of-result g c =
    let rooms = c.in_ok-rooms.ensures in
    let shard = c.in_ok-shard.ensures in
    let due = ap length rooms.0 in
    let refused = ap length rooms.2 in
    let passed = ap length rooms.4 in
    let handed = ap length rooms.6 in
    let others = ap length rooms.8 in
    let asked = ap length shard.empty in
    record {
      unskipped = λ clean. subst (All (λ (p : ScrubDone). p.after.skipped ≡ 0)) (sym rooms.4) (All-nil (λ (p : ScrubDone). p.after.skipped ≡ 0));
      none_gathered = rooms.10;
      within = omega (arith, due, refused, passed, handed, asked);
      others_within = omega (arith, others, handed);
      shard_room = omega (arith, shard.room);
      due_room = rooms.1;
      refused_room = rooms.3;
      scrubs_room = rooms.5;
      handed_room = rooms.7;
      others_room = rooms.9;
      parts_room = subst (λ p. length (g.P.Performs.performer p).labels + c.args.attaches ≤ (g.P.Performs.performer p).part_room + length c.in_ok-rooms.rooms.handed.items)
          (sym shard.parts) (omega (arith, c.requires.parts_room));
    }

pub returns-clause-own : goal.returns-clause-own
returns-clause-own g c =
    let rooms = c.in_ok-rooms.ensures in
    let shard = c.in_ok-shard.ensures in
    let first = (g.P.Performs.performer c.args.parts).labels in
    record {
      all = subst (λ p. IsPermutation (first ++ labels_in c.in_ok-rooms.rooms.handed.items)
          ((g.P.Performs.performer p).labels ++ labels_of c.in_ok-rooms.rooms.others.items)) (sym shard.parts)
          (subst (λ (h : List Handed). IsPermutation (first ++ labels_in h) (first ++ labels_of c.in_ok-rooms.rooms.others.items)) (sym rooms.6)
          (subst (λ (o : List (Part _)). IsPermutation (first ++ []) (first ++ labels_of o)) (sym rooms.8) (IsPermutation-refl (first ++ []))));
      here = λ slot x. subst (λ p. HasUsed (g.P.Performs.performer p).labels slot c.in_ok-shard.shard.core) (sym shard.parts) (shard.here slot x);
      window_is = shard.window;
    }
