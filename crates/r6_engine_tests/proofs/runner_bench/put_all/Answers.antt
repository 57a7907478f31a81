use Rattle.std.proofs.Common.{◌∙◌, ap}
use Rattle.std.specs.Prelude.{option_map, slice_get}
use Rattle.std.proofs.lemmas.Option.{slice_get-map}
use Rattle.r6_engine_tests.specs.Asks.{event_of}
use Rattle.r6_engine_tests.proofs.Waits.{waits_on}
use Rattle.r6_engine_tests.proofs.runner_bench.put_all.Goals as goal

pub put_one-requires-clause-next : goal.put_one-requires-clause-next
put_one-requires-clause-next g c =
    ap (λ es. slice_get es c.loop-number.number) c.requires.events
    ∙ slice_get-map event_of c.args.asks.now c.loop-number.number
    ∙ ap (option_map event_of) c.ask_at-ask.ensures

pub loop-number-preserved : goal.loop-number-preserved
loop-number-preserved g c =
    let waits = waits_on g.L.Events.events c.args.asks.now c.loop-number.number c.loop-number.waits c.waits_behind-waits.result
    c.ask_at-ask.result c.requires.events c.ask_at-ask.ensures c.loop-number.invariant.0 c.loop-number.invariant.1
    c.waits_behind-waits.ensures in (waits.0, waits.1, c.put_one.ensures.put)
