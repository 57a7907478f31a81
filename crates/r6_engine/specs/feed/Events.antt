-- The events of a run as they are handed in, and as the shards' lists know them (this project's own).
use Rattle.std.specs.Prelude.{◌≡◌, ℕ, List, length, map, All, slice_get, Bool, true, false, Some, None, is_some, unwrap_or, option_map}
use Rattle.r6_layout.specs.Shape.{Shape}
use Rattle.r6_dev.specs.History.{Telling}
use Rattle.r6_dev.specs.Promises.{Promise, FailsNone}
use Rattle.r6_world.specs.Geometries.{layout_of}
use Rattle.r6_world.specs.Layouts.{IsRowOf}
use Rattle.r6_world.specs.declared.values.Op.{Op}
use Rattle.r6_world.specs.declared.values.Op.TheVariants as op
use Rattle.r6_engine.specs.lists.Events as lists
use Rattle.r6_engine.specs.declared.lists.bringing.Bringing.TheVariants as bringing
use Rattle.r6_engine.specs.declared.lists.work.EventPart.{EventPart}
use Rattle.r6_engine.specs.declared.lists.work.EventPart.TheVariants as work
use Rattle.r6_engine.specs.declared.feed.event.Event.{Event}
use Rattle.r6_engine.specs.declared.feed.handing.ScrubKind.{ScrubKind}
use Rattle.r6_engine.specs.declared.feed.handing.ScrubKind.TheVariants as scrub
use Rattle.r6_engine.specs.declared.feed.event.Event.TheVariants.{Request, Wait, Fail, Attach, Replace, Check, Repair}

-- what the part for a shard tells, of the parts of a new device
abbrev pub part_for : {D : Type 0} → (D → Telling) → List D → (shard : ℕ) → Telling
part_for told parts shard = unwrap_or (option_map told (slice_get parts shard)) None

-- an event as the shards' lists know it: of a new device only what the part for each shard tells, which is nothing
-- where a shard has none
abbrev pub event_of : {D : Type 0} → (D → Telling) → Event D → lists.Event
event_of told (Request op) = lists.Request op
event_of told Wait = lists.Wait
event_of told (Fail slot) = lists.Fail slot
event_of told (Attach slot parts) = lists.Bring bringing.Attach slot (part_for told parts.items)
event_of told (Replace slot parts) = lists.Bring bringing.Replace slot (part_for told parts.items)
event_of told Check = lists.Check
event_of told Repair = lists.Repair

-- each of the events so, in the same order and under the same number
abbrev pub events_of : {D : Type 0} → (D → Telling) → List (Event D) → List lists.Event
events_of told events = map (event_of told) events

-- a new device has a part for each shard
abbrev pub IsWhole : {D : Type 0} → (shards : ℕ) → Event D → Type 0
IsWhole shards (Attach slot parts) = length parts.items ≡ shards
IsWhole shards (Replace slot parts) = length parts.items ≡ shards
IsWhole shards event = Unit {0}

-- each new device among the events has as many parts as the array has shards
abbrev pub AreWhole : {D : Type 0} → (shards : ℕ) → List (Event D) → Type 0
AreWhole shards events = All (IsWhole shards) events

-- the part for this shard, of the parts of a new device, fails no command of the shard
abbrev pub PartFailsNone : {D : Type 0} → (D → Promise) → Shape → (shard : ℕ) → List D → Type 0
PartFailsNone {D = D} promised shape shard parts =
    (part : D) → slice_get parts shard ≡ Some part
    → FailsNone (promised part) (IsRowOf (layout_of shape) shard) shape.block

-- if it is promised of the parts of new devices of its slot
abbrev pub IsPromised : {D : Type 0} → (D → Promise) → Shape → (Sound : (shard slot : ℕ) → Type 0) → Event D → Type 0
IsPromised promised shape Sound (Attach slot parts) =
    (shard : ℕ) → Sound shard slot → PartFailsNone promised shape shard parts.items
IsPromised promised shape Sound (Replace slot parts) =
    (shard : ℕ) → Sound shard slot → PartFailsNone promised shape shard parts.items
IsPromised promised shape Sound event = Unit {0}

abbrev pub ArePromised : {D : Type 0} → (D → Promise) → Shape → (Sound : (shard slot : ℕ) → Type 0) → List (Event D)
    → Type 0
ArePromised promised shape Sound events = All (IsPromised promised shape Sound) events

-- a request as its shard is handed it
abbrev pub work_for : {D : Type 0} → Op → EventPart D
work_for (op.Read block buffer) = work.Read block buffer
work_for (op.Write block buffer) = work.Write block buffer

-- a check or repair of all rows, as an event and as each shard is handed it
abbrev pub event_of_scrub : ScrubKind → lists.Event
event_of_scrub scrub.Check = lists.Check
event_of_scrub scrub.Repair = lists.Repair

abbrev pub work_of_scrub : {D : Type 0} → ScrubKind → EventPart D
work_of_scrub scrub.Check = work.Check
work_of_scrub scrub.Repair = work.Repair

-- whether a shard is handed a part of the event
abbrev pub has_part : Shape → (shard : ℕ) → lists.Event → Bool
has_part shape shard event = is_some (lists.duty_of shape shard event)

-- whether the event is a new device, of which each shard is handed a part
abbrev pub brings_device : lists.Event → Bool
brings_device (lists.Bring how slot part) = true
brings_device event = false
