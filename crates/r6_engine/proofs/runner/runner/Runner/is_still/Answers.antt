use Rattle.std.proofs.Common.{◌≤◌, ℕ, List, ap, length, refl, subst, sym}
use Rattle.r6_shard.specs.declared.ledger.Asked.{Asked}
use Rattle.r6_engine.specs.runner.Tasks.{count_of}
use Rattle.r6_engine.proofs.RunnerLemmas.Awaiting.{alike}
use Rattle.r6_engine.proofs.RunnerLemmas.Done.{has-gone}
use Rattle.r6_engine.proofs.RunnerLemmas.Counting.{keeps-counted}
use Rattle.r6_engine.proofs.RunnerLemmas.Parts.{still-room}
use Rattle.r6_engine.proofs.runner.runner.Runner.is_still.Goals as goal

pub returns-clause-goes : goal.returns-clause-goes
returns-clause-goes g c =
    let old = c.args.self.now in
    let new = c.is_still.new.self in
    let on = c.is_still.ensures.advances in
    let asked = c.is_still.ensures.ledger.asked in
    record {
      course = λ shape events number numbers geometry snapshot before x.
          has-gone shape events geometry number snapshot before numbers old.shard new old.refused.items old.scrub old.scrubs_done.items old.handed.items
          old.due.items on.course on.lasts asked x;
      sound = on.sound;
      counted = keeps-counted old.rows old.shard.core new.core old.scrub old.scrubs_done.items c.is_still.ensures.passed on.lasts;
      awaited = λ events x.
          alike events old.waits old.waits old.shard.asked.items new.asked.items old.due.items old.due.items refl asked refl x;
      parts = record {
        labels = on.labels_stay;
        room = on.room_stays;
        site = on.site_stays;
        handed = refl;
        others = refl;
        here = on.here;
        window = on.lasts.window;
      };
      place = on.lasts.same.1;
    }

pub returns-clause-same : goal.returns-clause-same
returns-clause-same g c = record { pass = c.is_still.ensures.pass; place = c.is_still.ensures.advances.lasts.same.1; room = refl }

pub returns-clause-count : goal.returns-clause-count
returns-clause-count g c =
    let old = c.args.self.now in
    ap (λ (asked : List Asked). count_of old.refused.items asked old.scrub old.scrubs_done.items old.handed.items old.due.items) c.is_still.ensures.ledger.asked

pub invariant_of-self : goal.invariant_of-self
invariant_of-self g c =
    let old = c.args.self.now in
    let ledger = c.is_still.ensures.ledger in
    record {
      unskipped = λ clean. old.unskipped (c.is_still.ensures.advances.remembers clean);
      none_gathered = old.none_gathered;
      within = subst (λ (asked : List Asked). count_of old.refused.items asked old.scrub old.scrubs_done.items old.handed.items old.due.items ≤ old.room)
          (sym ledger.asked) old.within;
      others_within = old.others_within;
      shard_room = subst (λ (room : ℕ). old.room ≤ room) (sym ledger.room) old.shard_room;
      due_room = old.due_room;
      refused_room = old.refused_room;
      scrubs_room = old.scrubs_room;
      handed_room = old.handed_room;
      others_room = old.others_room;
      parts_room = still-room (g.P.Performs.performer old.shard.parts) (g.P.Performs.performer c.is_still.new.self.parts) old.attaches (length old.handed.items)
          c.is_still.ensures.advances.labels_stay c.is_still.ensures.advances.room_stays old.parts_room;
    }
