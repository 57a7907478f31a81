use Rattle.std.proofs.Common.{◌≡◌, ◌≤◌, ◌∷◌, []}
use Rattle.r6_engine.specs.lists.Events.{waits_before}
use Rattle.r6_engine.specs.feed.Feeds.{HasPut}
use Rattle.r6_engine_tests.proofs.runner_bench.put_all.Given as goal

abbrev pub invariant-loop-number : goal.invariant-loop-number
invariant-loop-number g l =
    (l.waits ≡ waits_before g.L.Events.events l.number) × (l.waits ≤ l.number)
    × HasPut g.L.Events.shape g.L.Events.events (l.queue ∷ []) 0 l.number l.producer
