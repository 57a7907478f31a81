use Rattle.std.proofs.Common.{◌≡◌, refl, sym, subst, ◌∙◌}
use Rattle.r6_engine.specs.runner.Counted.{HasCounted}
use Rattle.r6_engine.specs.runner.Runners.{HasDone, KeepsSelf, taken_by}
use Rattle.r6_engine.specs.runner.Waits.{HasAwaited}
use Rattle.r6_engine.proofs.RunnerLemmas.Done.{self-on}
use Rattle.r6_engine.specs.runner.Sound.{IsSoundIn}
use Rattle.r6_engine.specs.runner.Parts.{KeepsParts}
use Rattle.r6_engine.proofs.RunnerLemmas.Parts.{parts-on}
use Rattle.r6_engine.proofs.runner.runner.Runner.begin_all.Goals as goal
use Rattle.r6_engine.proofs.runner.runner.Runner.begin_all.Goals.{in-None, in-Some+then-not-begin_next}

pub returns-clause-counted : goal.returns-clause-counted
returns-clause-counted g c = λ rows x.
    let before = c.loop.invariant.2.counted rows x in
    elim c.match-next.branch [
      | in-None w ↦ subst (HasCounted rows) (sym w.self-is) before
      | in-Some+then-not-begin_next w ↦ subst (HasCounted rows) (sym w.self-is) (w.begin_next.ensures.counted rows before)
    ]

pub returns-clause-awaited : goal.returns-clause-awaited
returns-clause-awaited g c = λ events x.
    let before = c.loop.invariant.2.awaited events x in
    elim c.match-next.branch [
      | in-None w ↦ subst (HasAwaited events) (sym w.self-is) before
      | in-Some+then-not-begin_next w ↦ subst (HasAwaited events) (sym w.self-is) (w.begin_next.ensures.awaited events before)
    ]

pub loop-preserved : goal.loop-preserved
loop-preserved g c =
    let before = c.loop.invariant.2 in
    let now = c.begin_next.ensures in (
      tt,
      tt,
      record {
        course = λ shape events number numbers geometry snapshot earlier x.
            now.course shape events number numbers geometry snapshot earlier
            (before.course shape events number numbers geometry snapshot earlier x);
        counted = λ rows x. now.counted rows (before.counted rows x);
        sound = λ shape number slot x. now.sound shape number slot (before.sound shape number slot x);
        awaited = λ events x. now.awaited events (before.awaited events x);
        same = self-on c.args.self.now c.loop.self c.begin_next.new.self before.same now.same;
        parts = parts-on c.args.self.now c.loop.self c.begin_next.new.self before.parts now.parts;
        count = now.count ∙ before.count;
      },
    )

pub returns-clause-sound : goal.returns-clause-sound
returns-clause-sound g c = λ shape number slot x.
    let told = g.D.BlockDevice.told in
    let promised = g.D.BlockDevice.promised in
    let before = c.loop.invariant.2.sound shape number slot x in
    elim c.match-next.branch [
      | in-None w ↦ subst (IsSoundIn shape number slot) (sym w.self-is) before
      | in-Some+then-not-begin_next w ↦
          subst (IsSoundIn shape number slot) (sym w.self-is) (w.begin_next.ensures.sound shape number slot before)
    ]

pub returns-clause-course : goal.returns-clause-course
returns-clause-course g c = λ shape events number numbers geometry snapshot earlier x.
    let told = g.D.BlockDevice.told in
    let before = c.loop.invariant.2.course shape events number numbers geometry snapshot earlier x in
    elim c.match-next.branch [
      | in-None w ↦ subst (HasDone shape events geometry number snapshot earlier numbers) (sym w.self-is) before
      | in-Some+then-not-begin_next w ↦
          subst (HasDone shape events geometry number snapshot earlier numbers) (sym w.self-is)
          (w.begin_next.ensures.course shape events number numbers geometry snapshot earlier before)
    ]

pub loop-init : goal.loop-init
loop-init g c = (
  tt,
  tt,
  record {
    course = λ shape events number numbers geometry snapshot earlier x. x;
    counted = λ rows x. x;
    sound = λ shape number slot x. x;
    awaited = λ events x. x;
    same = record { pass = refl; place = refl; room = refl };
    parts = record { labels = refl; room = refl; site = refl; handed = refl; others = refl; here = λ slot x. x; window = refl };
    count = refl;
  },
)

pub returns-clause-same : goal.returns-clause-same
returns-clause-same g c =
    let old = c.args.self.now in
    let before = c.loop.invariant.2.same in
    elim c.match-next.branch [
      | in-None w ↦ subst (KeepsSelf old) (sym w.self-is) before
      | in-Some+then-not-begin_next w ↦
          subst (KeepsSelf old) (sym w.self-is) (self-on old c.loop.self w.begin_next.new.self before w.begin_next.ensures.same)
    ]

pub returns-clause-count : goal.returns-clause-count
returns-clause-count g c =
    let old = c.args.self.now in
    let before = c.loop.invariant.2.count in
    elim c.match-next.branch [
      | in-None w ↦ subst (λ s. taken_by s ≡ taken_by old) (sym w.self-is) before
      | in-Some+then-not-begin_next w ↦ subst (λ s. taken_by s ≡ taken_by old) (sym w.self-is) (w.begin_next.ensures.count ∙ before)
    ]

pub returns-clause-parts : goal.returns-clause-parts
returns-clause-parts g c =
    let old = c.args.self.now in
    let before = c.loop.invariant.2.parts in
    elim c.match-next.branch [
      | in-None w ↦ subst (KeepsParts old) (sym w.self-is) before
      | in-Some+then-not-begin_next w ↦
          subst (KeepsParts old) (sym w.self-is) (parts-on old c.loop.self w.begin_next.new.self before w.begin_next.ensures.parts)
    ]
