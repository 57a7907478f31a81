use Rattle.std.proofs.Common.{◌≡◌, ◌∙◌, refl, sym, subst, true}
use Rattle.r6_engine.specs.lists.Queues.{IsConsumerOf}
use Rattle.r6_engine.specs.runner.Going.{TakesOn}
use Rattle.r6_engine.specs.runner.Runners.{KeepsSelf}
use Rattle.r6_engine.proofs.RunnerLemmas.Takes.{takes-none, takes-then}
use Rattle.r6_engine.proofs.runner.run.Taking.take_all.Goals as goal
use Rattle.r6_engine.proofs.runner.run.Taking.take_all.Goals.{in-None, in-Some+then-not-take_one}

pub loop-init : goal.loop-init
loop-init g c =
    let old = c.args.self.now in
    let numbers = old.consumer.numbers.items in (
      tt,
      tt,
      record {
        took = takes-none g.L.Events.shape g.L.Events.events g.L.Events.sound old.consumer.shard numbers numbers old.runner
            (λ geometry snapshot before x. x);
        same = record { pass = refl; place = refl; room = refl };
        shard = refl;
        consumer = c.requires;
        finished = λ over. over;
      },
    )

pub loop-preserved : goal.loop-preserved
loop-preserved g c =
    let before = c.loop.invariant.2 in
    let now = c.take_one.ensures in (
      tt,
      tt,
      record {
        took = takes-then g.L.Events.shape g.L.Events.events g.L.Events.sound c.args.self.now.consumer.shard c.loop.self.consumer.shard
            c.args.self.now.consumer.numbers.items c.loop.self.consumer.numbers.items c.take_one.new.self.consumer.numbers.items
            c.args.self.now.runner c.loop.self.runner c.take_one.new.self.runner before.shard before.took now.took;
        same = record {
          pass = now.same.pass ∙ before.same.pass;
          place = now.same.place ∙ before.same.place;
          room = now.same.room ∙ before.same.room;
        };
        shard = now.shard ∙ before.shard;
        consumer = now.consumer;
        finished = λ over. now.finished (before.finished over);
      },
    )

pub returns-clause-took : goal.returns-clause-took
returns-clause-took g c =
    let shape = g.L.Events.shape in
    let events = g.L.Events.events in
    let Sound = g.L.Events.sound in
    let old = c.args.self.now in
    let number = old.consumer.shard in
    let numbers = old.consumer.numbers.items in
    let mid = c.loop.self in
    let at = c.loop.invariant.2 in
    elim c.match-next.branch [
      | in-None w ↦
          subst (λ s. TakesOn shape events Sound number numbers s.consumer.numbers.items old.runner s.runner) (sym w.self-is) at.took
      | in-Some+then-not-take_one w ↦
          subst (λ s. TakesOn shape events Sound number numbers s.consumer.numbers.items old.runner s.runner) (sym w.self-is)
          (takes-then shape events Sound number mid.consumer.shard numbers mid.consumer.numbers.items
          w.take_one.new.self.consumer.numbers.items old.runner mid.runner w.take_one.new.self.runner at.shard at.took w.take_one.ensures.took)
    ]

pub returns-clause-same : goal.returns-clause-same
returns-clause-same g c =
    let old = c.args.self.now.runner in
    let before = c.loop.invariant.2.same in
    elim c.match-next.branch [
      | in-None w ↦ subst (λ s. KeepsSelf old s.runner) (sym w.self-is) before
      | in-Some+then-not-take_one w ↦
          let now = w.take_one.ensures.same in
          subst (λ s. KeepsSelf old s.runner) (sym w.self-is)
          (record { pass = now.pass ∙ before.pass; place = now.place ∙ before.place; room = now.room ∙ before.room })
    ]

pub returns-clause-shard : goal.returns-clause-shard
returns-clause-shard g c =
    let old = c.args.self.now.consumer.shard in
    let before = c.loop.invariant.2.shard in
    elim c.match-next.branch [
      | in-None w ↦ subst (λ s. s.consumer.shard ≡ old) (sym w.self-is) before
      | in-Some+then-not-take_one w ↦ subst (λ s. s.consumer.shard ≡ old) (sym w.self-is) (w.take_one.ensures.shard ∙ before)
    ]

pub returns-clause-consumer : goal.returns-clause-consumer
returns-clause-consumer g c =
    let before = c.loop.invariant.2.consumer in
    elim c.match-next.branch [
      | in-None w ↦ subst (λ s. IsConsumerOf c.args.queue.now s.consumer) (sym w.self-is) before
      | in-Some+then-not-take_one w ↦ subst (λ s. IsConsumerOf c.args.queue.now s.consumer) (sym w.self-is) w.take_one.ensures.consumer
    ]

pub returns-clause-finished : goal.returns-clause-finished
returns-clause-finished g c = λ over.
    let before = c.loop.invariant.2.finished over in
    elim c.match-next.branch [
      | in-None w ↦ subst (λ s. s.consumer.finished ≡ true) (sym w.self-is) before
      | in-Some+then-not-take_one w ↦ subst (λ s. s.consumer.finished ≡ true) (sym w.self-is) (w.take_one.ensures.finished before)
    ]
