use Rattle.std.proofs.Common.{◌≡◌, ◌-◌, ◌≤◌, ◌∙◌, ℕ, All, Option, ap, arith, length, refl, subst, sym}
use Rattle.std.specs.Prelude.{option_to_list}
use Rattle.std.proofs.lemmas.List.{length_push}
use Rattle.std.proofs.lemmas.List.Elements.{All-push}
use Rattle.r6_world.specs.ShardStates as world
use Rattle.r6_core.specs.declared.counts.Counts.{Counts}
use Rattle.r6_core.specs.Shards.{counts_of}
use Rattle.r6_engine.specs.runner.Classes.{classed_in}
use Rattle.r6_engine.specs.declared.runner.scrub.ScrubDone.{ScrubDone}
use Rattle.r6_engine.specs.declared.runner.scrub.ScrubUnderWay.{ScrubUnderWay}
use Rattle.r6_engine.proofs.RunnerLemmas.Counting.{over-counted}
use Rattle.r6_engine.proofs.RunnerLemmas.Done.{gone-over}
use Rattle.r6_engine.proofs.runner.runner.Runner.end_scrub.Goals as goal

pub returns-clause-goes : goal.returns-clause-goes
returns-clause-goes g c =
    let old = c.args.self.now in
    let scrub = c.args.scrub in
    let q = c.over.result in
    record {
      course = λ shape events number numbers geometry snapshot before x.
          let done = gone-over shape events geometry number snapshot before numbers old scrub c.push_reserved.new.self.items q c.requires.under_way
          c.push_reserved.ensures.items (ap (λ (p : ScrubDone). p.event) c.over.ensures) (ap (λ (p : ScrubDone). p.task) c.over.ensures) x in
          record {
            shape_is = done.shape_is;
            place = done.place;
            begun = done.begun;
            ops = done.ops;
            requests = done.requests;
            served = done.served;
            passes = done.passes;
            parts = done.parts;
            comes = done.comes;
          };
      sound = λ shape number slot x. x;
      counted = over-counted old.rows old.shard.core old.scrub old.scrubs_done.items c.push_reserved.new.self.items scrub q c.requires.under_way
          c.requires.over c.requires.still c.push_reserved.ensures.items (ap (λ (r : ScrubDone). r.before) c.over.ensures)
          (ap (λ (r : ScrubDone). r.left_out) c.over.ensures)
          (ap (λ (r : ScrubDone). r.skipped) c.over.ensures
          ∙ ap (λ (k : Counts). old.rows - classed_in scrub.before k) (sym (ap (λ (r : ScrubDone). r.after) c.over.ensures)))
          (ap (λ (r : ScrubDone). counts_of r.after) c.over.ensures ∙ c.counts.ensures);
      awaited = λ events x. x;
      parts = record { labels = refl; room = refl; site = refl; handed = refl; others = refl; here = λ slot x. x; window = refl };
      place = refl;
    }

pub returns-clause-same : goal.returns-clause-same
returns-clause-same g c = record { pass = refl; place = refl; room = refl }

pub returns-clause-count : goal.returns-clause-count
returns-clause-count g c =
    let one = ap (λ (y : Option ScrubUnderWay). length (option_to_list y)) c.requires.under_way in
    let more = ap length c.push_reserved.ensures.items ∙ length_push c.args.self.now.scrubs_done.items c.over.result in
    omega (arith, one, more)

pub invariant_of-self-2 : goal.invariant_of-self-2
invariant_of-self-2 g c =
    let old = c.args.self.now in
    let q = c.over.result in
    let one = ap (λ (y : Option ScrubUnderWay). length (option_to_list y)) c.requires.under_way in
    let more = ap length c.push_reserved.ensures.items ∙ length_push old.scrubs_done.items q in
    record {
      unskipped = λ clean.
          subst (All (λ (p : ScrubDone). p.after.skipped ≡ 0)) (sym c.push_reserved.ensures.items)
          (All-push (λ (p : ScrubDone). p.after.skipped ≡ 0) old.scrubs_done.items q (old.unskipped clean)
          (ap (λ (p : ScrubDone). p.after.skipped) c.over.ensures ∙ ap (λ (k : world.Counts). k.skipped) c.counts.ensures ∙ (old.shard.whole clean).unskipped));
      none_gathered = old.none_gathered;
      within = omega (arith, one, more, old.within);
      others_within = old.others_within;
      shard_room = old.shard_room;
      due_room = old.due_room;
      refused_room = old.refused_room;
      scrubs_room = subst (λ (room : ℕ). old.room ≤ room) (sym c.push_reserved.ensures.capacity) old.scrubs_room;
      handed_room = old.handed_room;
      others_room = old.others_room;
      parts_room = old.parts_room;
    }
