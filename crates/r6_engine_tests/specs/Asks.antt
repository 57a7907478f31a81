-- The events of a test.
use Rattle.std.specs.Prelude.{◌*◌, List, [], ◌∷◌, map, replicate}
use Rattle.r6_kernels.specs.Blocks.{zeros}
use Rattle.r6_dev.specs.Memory.{told_by}
use Rattle.r6_world.specs.declared.values.Op.TheVariants as op
use Rattle.r6_engine.specs.lists.Events.{Event, Request, Bring, Check, Repair, Wait}
use Rattle.r6_engine.specs.declared.lists.bringing.Bringing.TheVariants.{Attach}
use Rattle.r6_engine_tests.specs.declared.asks.Ask.{Ask}
use Rattle.r6_engine_tests.specs.declared.asks.Ask.TheVariants as ask

abbrev pub event_of : Ask → Event
event_of (ask.Write block byte) = Request (op.Write block (replicate 16 byte))
event_of (ask.Read block) = Request (op.Read block (zeros 16))
event_of (ask.ReadInto block len) = Request (op.Read block (zeros len))
event_of (ask.Attach slot generation) =
    Bring Attach slot (λ shard. told_by (record { first = 0; block = 16; blocks = replicate 4 (zeros 16) }))
event_of ask.Check = Check
event_of ask.Repair = Repair
event_of ask.Wait = Wait

abbrev pub events_of : List Ask → List Event
events_of asks = map event_of asks

-- two requests, each for a shard of its own, a check, one more request and a new device, of an array with two shards
abbrev pub five_events : List Event
five_events =
    Request (op.Write 0 (zeros 16)) ∷ Request (op.Read 4 (zeros 16)) ∷ Check ∷ Request (op.Read 7 (zeros 16))
    ∷ Bring Attach 1 (λ shard. told_by (record { first = 2 * shard; block = 16; blocks = replicate 2 (zeros 16) })) ∷ []
