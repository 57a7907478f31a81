-- Which slots the ledgers of an array don't name, and which its shards don't declare lost: those whose devices fail no
-- command (md(4): a device is failed where it answers a command by an error; the promises are this project's own).
use Rattle.std.specs.Prelude.{◌≡◌, ◌↔◌, ◌==◌, ℕ, Bool, true, false, List, All, slice_get, slice_index_or, Some}
use Rattle.r6_dev.specs.Promises.{Promise}
use Rattle.r6_layout.specs.Shape.{Shape}
use Rattle.r6_health.specs.Passes.{view_of}
use Rattle.r6_health.specs.declared.call.Call.{Call}
use Rattle.r6_health.specs.declared.call.Call.TheVariants.{DeclareLost}
use Rattle.r6_world.specs.Registers.{Snapshot}
use Rattle.r6_shard.specs.declared.parts.Parts.{Parts}
use Rattle.r6_shard.specs.Sound.{StartsSound}
use Rattle.r6_shard.specs.declared.performs.Performs.{Ghosts}
use Rattle.r6_engine.specs.declared.feed.event.Event.{Event}
use Rattle.r6_engine.specs.declared.feed.event.Event.TheVariants.{Attach, Replace}
use Rattle.r6_engine.specs.feed.Events.{PartFailsNone}
use Rattle.r6_engine.specs.declared.runner.runner.Runner.{Runner}
use Rattle.r6_engine.specs.runner.Sound.{IsSoundIn}

-- the parts for this shard of the new devices of this slot fail no command of the shard
abbrev pub NewDeviceFailsNone : {D : Type 0} → (D → Promise) → Shape → (shard slot : ℕ) → Event D → Type 0
NewDeviceFailsNone promised shape shard slot (Attach other parts) =
    other ≡ slot → PartFailsNone promised shape shard parts.items
NewDeviceFailsNone promised shape shard slot (Replace other parts) =
    other ≡ slot → PartFailsNone promised shape shard parts.items
NewDeviceFailsNone promised shape shard slot event = Unit {0}

-- so it is of every new device among the events; where the slot gets none, nothing is asked
abbrev pub NewDevicesFailNone : {D : Type 0} → (D → Promise) → Shape → (shard slot : ℕ) → List (Event D) → Type 0
NewDevicesFailNone promised shape shard slot events = All (NewDeviceFailsNone promised shape shard slot) events

-- by these slots of shards, the new devices of which fail none of the shard's commands
abbrev pub AreSoundHere : {D : Type 0} → (D → Promise) → Shape → (Sound : (shard slot : ℕ) → Type 0) → List (Event D)
    → Type 0
AreSoundHere promised shape Sound events =
    (shard slot : ℕ) → Sound shard slot ↔ NewDevicesFailNone promised shape shard slot events

-- whether a call declares the slot lost
abbrev pub declares : (slot : ℕ) → Call → Bool
declares slot (DeclareLost other generation) = other == slot
declares slot call = false

-- the shard's ledger doesn't name the slot, and the shard never declared it lost
abbrev pub LeavesAlone : {P D : Type 0} {g : Ghosts P} → (slot : ℕ) → Runner P D g → Type 0
LeavesAlone slot runner =
    (slice_index_or runner.shard.named slot false ≡ false)
    × All (λ made. declares slot made.call ≡ false) (view_of runner.shard.pass).mine

-- A slot is left alone in each shard where its worker goes on and of whose commands its parts fail none: those of the
-- start, with one for its first device unless the slot is lost, and those of its new devices. What its neighbours do
-- doesn't matter
abbrev pub LeaveSoundAlone : {P D : Type 0} {g : Ghosts P} → (D → Promise) → (steady : (shard slot : ℕ) → Bool) → Shape
    → (start : Snapshot) → List (Parts D) → List (Event D) → List (Runner P D g) → Type 0
LeaveSoundAlone {P = P} {D = D} {g = g} promised steady shape start parts events runners =
    (shard slot : ℕ) (own : Parts D) (runner : Runner P D g)
    → slice_get parts shard ≡ Some own → slice_get runners shard ≡ Some runner
    → steady shard slot ≡ true → StartsSound promised shape shard start slot own.parts.items
    → NewDevicesFailNone promised shape shard slot events → LeavesAlone slot runner

-- ---- while the threads begin

-- the thread of a shard begins with these parts: each slot is sound of which they are, where its worker goes on
abbrev pub BeginsSound : {P D : Type 0} {g : Ghosts P} → (D → Promise) → (steady : (shard slot : ℕ) → Bool) → Shape
    → (start : Snapshot) → Parts D → (shard : ℕ) → Runner P D g → Type 0
BeginsSound promised steady shape start parts shard runner =
    (slot : ℕ) → steady shard slot ≡ true → StartsSound promised shape shard start slot parts.parts.items
    → IsSoundIn shape shard slot runner
