use Rattle.std.proofs.Common.{◌≡◌}
use Rattle.r6_engine.specs.runner.Counted.{KeepsCounted}
use Rattle.r6_engine.specs.runner.Parts.{KeepsParts}
use Rattle.r6_engine.specs.runner.Runners.{GoesOnSame, KeepsSelf, taken_by}
use Rattle.r6_engine.specs.runner.Sound.{KeepsSound}
use Rattle.r6_engine.specs.runner.Waits.{KeepsAwaited}
use Rattle.r6_engine.proofs.runner.runner.Runner.begin_all.Given as goal

abbrev pub invariant-loop : goal.invariant-loop
invariant-loop g l =
    (goal.iterator-loop g).can_next l.iterator' × (goal.iterator-loop g).is_finite l.iterator' × record {
      course : GoesOnSame l.fn.self l.self;
      counted : KeepsCounted l.fn.self l.self;
      sound : KeepsSound l.fn.self l.self;
      awaited : KeepsAwaited l.fn.self l.self;
      same : KeepsSelf l.fn.self l.self;
      parts : KeepsParts l.fn.self l.self;
      count : taken_by l.self ≡ taken_by l.fn.self;
    }
