use Rattle.r6_engine.specs.feed.Events.{AreWhole}
use Rattle.r6_engine_tests.proofs.steps.events_of.Given as goal

abbrev pub invariant-loop-ask : goal.invariant-loop-ask
invariant-loop-ask g l = AreWhole l.fn.geometry.shards l.events.items
