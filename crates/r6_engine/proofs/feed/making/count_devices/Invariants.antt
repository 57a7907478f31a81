use Rattle.std.proofs.Common.{◌≡◌, take, count_by}
use Rattle.r6_engine.specs.feed.Events.{events_of, brings_device}
use Rattle.r6_engine.proofs.feed.making.count_devices.Given as goal

abbrev pub invariant-loop-event : goal.invariant-loop-event
invariant-loop-event g l = l.count ≡ count_by brings_device (take l.event-index (events_of g.D.BlockDevice.told l.fn.events))
