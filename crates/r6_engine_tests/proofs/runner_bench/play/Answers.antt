use Rattle.std.proofs.Common.{◌≡◌, length, ap, ◌∙◌, arith}
use Rattle.std.proofs.lemmas.List.{length-map}
use Rattle.r6_engine_tests.specs.Asks.{event_of}
use Rattle.r6_engine_tests.proofs.Waits.{few_parts, few_works}
use Rattle.r6_engine_tests.proofs.runner_bench.play.Goals as goal

pub new-requires : goal.new-requires
new-requires g c =
    let few = few_works g.L.Events.shape 0 g.L.Events.events in
    let long : length g.L.Events.events ≡ length c.args.asks.now = ap length c.requires.events ∙ length-map c.args.asks.now event_of in
    omega (arith, few, long)

pub run-requires-clause-room : goal.run-requires-clause-room
run-requires-clause-room g c =
    let few = few_works g.L.Events.shape c.expect-queue.result.2.shard g.L.Events.events in
    let long : length g.L.Events.events ≡ length c.args.asks.now = ap length c.requires.events ∙ length-map c.args.asks.now event_of in
    omega (arith, few, long, c.runner_of-runner.ensures.room.0)

pub run-requires-clause-attaches : goal.run-requires-clause-attaches
run-requires-clause-attaches g c =
    let shard = c.expect-queue.result.2.shard in
    let few = few_works g.L.Events.shape shard g.L.Events.events in
    let parts = few_parts g.L.Events.shape g.L.Events.events shard in
    let long : length g.L.Events.events ≡ length c.args.asks.now = ap length c.requires.events ∙ length-map c.args.asks.now event_of in
    omega (arith, few, parts, long, c.runner_of-runner.ensures.room.1)
