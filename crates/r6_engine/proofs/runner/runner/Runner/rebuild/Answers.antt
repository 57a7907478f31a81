use Rattle.std.proofs.Common.{length, refl}
use Rattle.r6_engine.proofs.RunnerLemmas.Awaiting.{alike}
use Rattle.r6_engine.proofs.RunnerLemmas.Done.{has-gone}
use Rattle.r6_core.specs.declared.turn.Task.TheVariants as task
use Rattle.r6_core.specs.Effects.{RefusesTurn}
use Rattle.r6_shard.specs.Counted.{HasPassedRows, PassesMore, rows_of}
use Rattle.r6_shard.proofs.Counting.{none-more, passes-same}
use Rattle.r6_shard.proofs.Going.{either_way}
use Rattle.r6_engine.proofs.RunnerLemmas.Counting.{keeps-counted}
use Rattle.r6_engine.proofs.RunnerLemmas.Parts.{still-room}
use Rattle.r6_engine.proofs.runner.runner.Runner.rebuild.Goals as goal

pub returns-clause-goes : goal.returns-clause-goes
returns-clause-goes g c =
    let self = c.args.self.now in
    let old = self.shard.core in
    let new = c.turn.new.self.core in
    let on = c.turn.ensures.advances in
    let asked = c.turn.ensures.ledger.asked in
    record {
      course = λ shape events number numbers geometry snapshot before x.
          has-gone shape events geometry number snapshot before numbers self.shard c.turn.new.self self.refused.items
          self.scrub self.scrubs_done.items self.handed.items self.due.items on.course on.lasts asked x;
      sound = on.sound;
      counted = keeps-counted self.rows old new self.scrub self.scrubs_done.items (λ stopped counted rows x.
          either_way c.turn.result (λ _. PassesMore (rows_of task.Rebuild) old new) (λ refusal. RefusesTurn old task.Rebuild refusal new)
          (HasPassedRows stopped counted rows new) c.turn.ensures.passed c.turn.ensures.refused
          (λ _ more. none-more old new more stopped counted rows x)
          (λ refusal refused. passes-same old new refused.same stopped counted rows x)) on.lasts;
      awaited = λ events x.
          alike events self.waits self.waits self.shard.asked.items c.turn.new.self.asked.items self.due.items self.due.items refl asked refl x;
      parts = record { labels = on.labels_stay; room = on.room_stays; site = on.site_stays; handed = refl; others = refl; here = on.here; window = on.lasts.window };
      place = on.lasts.same.1;
    }

pub invariant_of-self-clause-parts_room : goal.invariant_of-self-clause-parts_room
invariant_of-self-clause-parts_room g c =
    let old = c.args.self.now in
    let on = c.turn.ensures.advances in
    still-room (g.P.Performs.performer old.shard.parts) (g.P.Performs.performer c.turn.new.self.parts) old.attaches (length old.handed.items) on.labels_stay on.room_stays old.parts_room
