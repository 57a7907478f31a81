use Rattle.std.proofs.Common.{◌≡◌, ◌∙◌, Some, length, slice_get, option_map, refl, ap, rules}
use mir.Val.{bool_byte}
use Rattle.std.proofs.lemmas.Option.{slice_get-map, slice_get_read}
use Rattle.r6_engine.specs.feed.Events.{event_of, events_of}
use Rattle.r6_engine.proofs.FeedLemmas.Counts.{device_counted, few_devices}
use Rattle.r6_engine.proofs.feed.making.count_devices.Goals as goal

pub overflow_add-count : goal.overflow_add-count
overflow_add-count g c =
    let few = few_devices (events_of g.D.BlockDevice.told c.args.events.now) c.loop-event.event-index in
    let so-far = c.loop-event.invariant in
    let one = c.from-count.ensures in
    search rules

pub loop-event-preserved : goal.loop-event-preserved
loop-event-preserved g c =
    let at : slice_get (events_of g.D.BlockDevice.told c.args.events.now) c.loop-event.event-index
    ≡ Some (event_of g.D.BlockDevice.told c.event-item.result) =
    slice_get-map (event_of g.D.BlockDevice.told) c.args.events.now c.loop-event.event-index
    ∙ ap (option_map (event_of g.D.BlockDevice.told))
    (slice_get_read c.args.events.now (length c.args.events.now) c.loop-event.event-index c.event-item.result refl
    c.loop-event-test.true c.event-item.is) in
    device_counted (events_of g.D.BlockDevice.told c.args.events.now) c.loop-event.event-index _ c.brings_device.result at
    c.brings_device.ensures _ _ c.loop-event.invariant
    (λ is. c.from-count.ensures ∙ ap bool_byte is) (λ is. c.from-count.ensures ∙ ap bool_byte is)
