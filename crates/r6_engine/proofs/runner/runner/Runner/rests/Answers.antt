use Rattle.std.proofs.Common.{◌≤◌, ℕ, List, ap, length, refl, subst, sym}
use Rattle.r6_shard.specs.declared.ledger.Asked.{Asked}
use Rattle.r6_engine.specs.runner.Tasks.{count_of}
use Rattle.r6_engine.proofs.RunnerLemmas.Awaiting.{alike}
use Rattle.r6_engine.proofs.RunnerLemmas.Done.{has-gone}
use Rattle.r6_engine.proofs.RunnerLemmas.Counting.{keeps-counted}
use Rattle.r6_engine.proofs.RunnerLemmas.Going.{none-same}
use Rattle.r6_engine.proofs.RunnerLemmas.Parts.{still-room}
use Rattle.r6_engine.proofs.runner.runner.Runner.rests.Goals as goal

pub returns-clause-goes : goal.returns-clause-goes
returns-clause-goes g c =
    let old = c.args.self.now in
    let new = c.rests.new.self in
    let on = c.rests.ensures.advances in
    let asked = c.rests.ensures.ledger.asked in
    record {
      course = λ shape events number numbers geometry snapshot before x.
          has-gone shape events geometry number snapshot before numbers old.shard new old.refused.items old.scrub
          old.scrubs_done.items old.handed.items old.due.items on.course on.lasts asked x;
      sound = on.sound;
      counted = keeps-counted old.rows old.shard.core new.core old.scrub old.scrubs_done.items c.rests.ensures.passed on.lasts;
      awaited = λ events x.
          alike events old.waits old.waits old.shard.asked.items new.asked.items old.due.items old.due.items refl asked refl x;
      parts = record { labels = on.labels_stay; room = on.room_stays; site = on.site_stays; handed = refl; others = refl; here = on.here; window = on.lasts.window };
      place = on.lasts.same.1;
    }

pub returns-then-has_more-clause-goes : goal.returns-then-has_more-clause-goes
returns-then-has_more-clause-goes g c = none-same c.args.self.now

pub returns-clause-over : goal.returns-clause-over
returns-clause-over g c = λ all.
    let none = c.has_more.ensures c.if-has_more.false in
    record { none_due = none.0; no_scrub = none.1; rests = c.rests.ensures.rests all }

pub returns-clause-count : goal.returns-clause-count
returns-clause-count g c =
    let old = c.args.self.now in
    ap (λ (asked : List Asked). count_of old.refused.items asked old.scrub old.scrubs_done.items old.handed.items old.due.items) c.rests.ensures.ledger.asked

pub returns-clause-pass : goal.returns-clause-pass
returns-clause-pass g c = c.rests.ensures.pass

pub invariant_of-self : goal.invariant_of-self
invariant_of-self g c =
    let old = c.args.self.now in
    let ledger = c.rests.ensures.ledger in
    record {
      unskipped = λ clean. old.unskipped (c.rests.ensures.advances.remembers clean);
      none_gathered = old.none_gathered;
      within = subst (λ (asked : List Asked). count_of old.refused.items asked old.scrub old.scrubs_done.items old.handed.items old.due.items ≤ old.room)
          (sym ledger.asked) old.within;
      others_within = old.others_within;
      shard_room = subst (λ (room : ℕ). old.room ≤ room) (sym ledger.room) old.shard_room;
      due_room = old.due_room;
      refused_room = old.refused_room;
      scrubs_room = old.scrubs_room;
      handed_room = old.handed_room;
      others_room = old.others_room;
      parts_room = still-room (g.P.Performs.performer old.shard.parts) (g.P.Performs.performer c.rests.new.self.parts) old.attaches (length old.handed.items) c.rests.ensures.advances.labels_stay
          c.rests.ensures.advances.room_stays old.parts_room;
    }
