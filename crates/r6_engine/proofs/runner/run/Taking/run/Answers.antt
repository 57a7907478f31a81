use Rattle.std.proofs.Common.{◌∙◌, refl}
use Rattle.r6_engine.proofs.RunnerLemmas.Takes.{takes-none, takes-then}
use Rattle.r6_engine.proofs.runner.run.Taking.run.Goals as goal

pub loop-init : goal.loop-init
loop-init g c =
    let old = c.args.self.now in
    let numbers = old.consumer.numbers.items in (
      tt,
      tt,
      record {
        pass = c.requires.pass;
        consumer = c.requires.consumer;
        took = takes-none g.L.Events.shape g.L.Events.events g.L.Events.sound old.consumer.shard numbers numbers old.runner
            (λ geometry snapshot before x. x);
        shard = refl;
        place = refl;
      },
    )

pub loop-preserved : goal.loop-preserved
loop-preserved g c =
    let before = c.loop.invariant.2 in
    let now = c.go_on-left.ensures in (
      tt,
      tt,
      record {
        pass = now.pass;
        consumer = now.consumer;
        took = takes-then g.L.Events.shape g.L.Events.events g.L.Events.sound c.args.self.now.consumer.shard c.loop.self.consumer.shard
            c.args.self.now.consumer.numbers.items c.loop.self.consumer.numbers.items c.go_on-left.new.self.consumer.numbers.items
            c.args.self.now.runner c.loop.self.runner c.go_on-left.new.self.runner before.shard before.took now.took;
        shard = now.shard ∙ before.shard;
        place = now.place ∙ before.place;
      },
    )

pub returns-then-is_nothing-clause-course : goal.returns-then-is_nothing-clause-course
returns-then-is_nothing-clause-course g c =
    (takes-then g.L.Events.shape g.L.Events.events g.L.Events.sound c.args.self.now.consumer.shard c.loop.self.consumer.shard
    c.args.self.now.consumer.numbers.items c.loop.self.consumer.numbers.items c.go_on-left.new.self.consumer.numbers.items
    c.args.self.now.runner c.loop.self.runner c.go_on-left.new.self.runner c.loop.invariant.2.shard c.loop.invariant.2.took
    c.go_on-left.ensures.took).course

pub returns-then-is_nothing-clause-counted : goal.returns-then-is_nothing-clause-counted
returns-then-is_nothing-clause-counted g c =
    (takes-then g.L.Events.shape g.L.Events.events g.L.Events.sound c.args.self.now.consumer.shard c.loop.self.consumer.shard
    c.args.self.now.consumer.numbers.items c.loop.self.consumer.numbers.items c.go_on-left.new.self.consumer.numbers.items
    c.args.self.now.runner c.loop.self.runner c.go_on-left.new.self.runner c.loop.invariant.2.shard c.loop.invariant.2.took
    c.go_on-left.ensures.took).counted

pub returns-then-is_nothing-clause-awaited : goal.returns-then-is_nothing-clause-awaited
returns-then-is_nothing-clause-awaited g c =
    (takes-then g.L.Events.shape g.L.Events.events g.L.Events.sound c.args.self.now.consumer.shard c.loop.self.consumer.shard
    c.args.self.now.consumer.numbers.items c.loop.self.consumer.numbers.items c.go_on-left.new.self.consumer.numbers.items
    c.args.self.now.runner c.loop.self.runner c.go_on-left.new.self.runner c.loop.invariant.2.shard c.loop.invariant.2.took
    c.go_on-left.ensures.took).awaited

pub returns-then-is_nothing-clause-own : goal.returns-then-is_nothing-clause-own
returns-then-is_nothing-clause-own g c =
    (takes-then g.L.Events.shape g.L.Events.events g.L.Events.sound c.args.self.now.consumer.shard c.loop.self.consumer.shard
    c.args.self.now.consumer.numbers.items c.loop.self.consumer.numbers.items c.go_on-left.new.self.consumer.numbers.items
    c.args.self.now.runner c.loop.self.runner c.go_on-left.new.self.runner c.loop.invariant.2.shard c.loop.invariant.2.took
    c.go_on-left.ensures.took).own

pub returns-then-is_nothing-clause-sound : goal.returns-then-is_nothing-clause-sound
returns-then-is_nothing-clause-sound g c =
    (takes-then g.L.Events.shape g.L.Events.events g.L.Events.sound c.args.self.now.consumer.shard c.loop.self.consumer.shard
    c.args.self.now.consumer.numbers.items c.loop.self.consumer.numbers.items c.go_on-left.new.self.consumer.numbers.items
    c.args.self.now.runner c.loop.self.runner c.go_on-left.new.self.runner c.loop.invariant.2.shard c.loop.invariant.2.took
    c.go_on-left.ensures.took).sound

pub returns-then-is_nothing-clause-over : goal.returns-then-is_nothing-clause-over
returns-then-is_nothing-clause-over g c = (c.go_on-left.ensures.over (c.is_nothing.ensures.0 c.if-is_nothing.true)).0

pub returns-then-is_nothing-clause-pass : goal.returns-then-is_nothing-clause-pass
returns-then-is_nothing-clause-pass g c = c.go_on-left.ensures.pass

pub returns-then-is_nothing-clause-shard : goal.returns-then-is_nothing-clause-shard
returns-then-is_nothing-clause-shard g c = c.go_on-left.ensures.shard ∙ c.loop.invariant.2.shard

pub returns-then-is_nothing-clause-place : goal.returns-then-is_nothing-clause-place
returns-then-is_nothing-clause-place g c = c.go_on-left.ensures.place ∙ c.loop.invariant.2.place

pub returns-then-is_nothing-clause-finished : goal.returns-then-is_nothing-clause-finished
returns-then-is_nothing-clause-finished g c = (c.go_on-left.ensures.over (c.is_nothing.ensures.0 c.if-is_nothing.true)).1
