-- What became of one shard of an array that was served (this project's own).
use Rattle.std.specs.Prelude.{◌≡◌, ◌≢◌, ℕ, ◌<◌, Bool, List, ◌++◌, All, length, map, slice_get, slice_index_or, Some, true, false, IsPermutation}
use Rattle.std.specs.List.{Contains, range_with_len}
use Rattle.r6_dev.specs.History.{Telling}
use Rattle.r6_dev.specs.Promises.{Promise}
use Rattle.r6_layout.specs.Shape.{Shape, blocks}
use Rattle.r6_health.specs.declared.history.View.{View}
use Rattle.r6_health.specs.Histories.{StartsWith}
use Rattle.r6_world.specs.Geometries.{layout_of}
use Rattle.r6_world.specs.PlainArray as world
use Rattle.r6_world.specs.PlainArray.{Array}
use Rattle.r6_world.specs.Registers.{InSync, Lost, Rebuilding, Replacing, ShardSet, Snapshot, status_of}
use Rattle.r6_world.specs.declared.values.Op.{Op}
use Rattle.r6_world.specs.Worlds.{Devices}
use Rattle.r6_core.specs.declared.refusal.Refusal.{Refusal}
use Rattle.r6_world.specs.Claims.{IsLawfulStart}
use Rattle.r6_engine.specs.lists.Events.{Event, Request, numbers_of, tasks_of}
use Rattle.r6_shard.specs.declared.ledger.Asked.{Asked}
use Rattle.r6_shard.specs.declared.parts.Parts.{Parts}
use Rattle.r6_shard.specs.Beginnings.{Hold, start_of}
use Rattle.r6_shard.specs.Here.{BeginsHere}
use Rattle.r6_shard.specs.Performing.{IsHere}
use Rattle.r6_shard.specs.Own.{AreOwn}
use Rattle.r6_shard.specs.Parts.{labels_of, part_in}
use Rattle.r6_shard.specs.Refusing.{IsEnding}
use Rattle.r6_shard.specs.Sound.{StartsSound}
use Rattle.r6_shard.specs.Whole.{SawWithPass}
use Rattle.r6_engine.specs.declared.feed.answer.EventAnswer.{EventAnswer}
use Rattle.r6_engine.specs.declared.feed.event.Event as feed
use Rattle.r6_engine.specs.feed.Events.{events_of}
use Rattle.r6_engine.specs.declared.runner.runner.Handed.{Handed}
use Rattle.r6_engine.specs.runner.Parts.{labels_in}
use Rattle.r6_engine.specs.runner.Runners.{NoneIsSilent, taken_up}
use Rattle.r6_engine.specs.runner.Tasks.{NewPart, handed_of, parts_in, slot_of}
use Rattle.r6_engine.specs.runner.Waits.{AreBehindWaits}
use Rattle.r6_engine.specs.declared.ledger.Ledger.{Ledger}
use Rattle.r6_engine.specs.declared.ledger.LedgerEntry.{LedgerEntry}
use Rattle.r6_engine.specs.declared.part.ShardParts.{ShardParts}
use Rattle.r6_engine.specs.declared.reply.EventReply.{EventReply}
use Rattle.r6_engine.specs.declared.reply.EventReply.TheVariants.{Refused}
use Rattle.r6_engine.specs.Answered.{block_in, shard_with}
use Rattle.r6_engine.specs.Ending.{current_of}
use Rattle.r6_engine.specs.Explained.{IsExplained, reply_in}
use Rattle.r6_engine.specs.Generations.{HasAgreed}
use Rattle.r6_engine.specs.Named.{NewDevicesFailNone, declares}
use Rattle.r6_engine.specs.Refusals.{WereRight}

-- ---- requests

-- they are those of rising events
abbrev pub AreInOrder : List Asked → Type 0
AreInOrder requests =
    (earlier later : ℕ) (a b : Asked) → earlier < later → slice_get requests earlier ≡ Some a
    → slice_get requests later ≡ Some b → a.event < b.event

-- an entry answers the request of its number
abbrev pub IsEntryOf : List Asked → LedgerEntry → Type 0
IsEntryOf requests e =
    (a : Asked) × (slice_get requests e.id.0 ≡ Some a) × (a.event ≡ e.event) × (a.block ≡ e.block)

-- each request has one entry: their numbers are those of the requests, in whatever order
pub record AnswersEach (requests : List Asked) (entries : List LedgerEntry) : Type 0 where
  pub numbers : IsPermutation (range_with_len 0 (length requests)) (map (λ e. e.id.0) entries)
  pub each : All (IsEntryOf requests) entries

-- a request was answered that the array has failed
abbrev pub WasFailed : List EventReply → LedgerEntry → Type 0
WasFailed replies e =
    (said : EventReply) × (slice_get replies e.event ≡ Some said) × (reply_in said ≡ Some world.ArrayFailed)

-- once a request of the shard was refused since its service had ended, it accepted none
abbrev pub NoneAfterEnd : Shape → List Event → List EventReply → (shard : ℕ) → Ledger → Type 0
NoneAfterEnd shape events replies shard ledger =
    (event : ℕ) (o : Op) (refusal : Refusal) → slice_get events event ≡ Some (Request o) → block_in o < blocks shape
    → shard_with shape (block_in o) ≡ shard → slice_get replies event ≡ Some (Refused refusal) → IsEnding refusal
    → All (λ a. a.event < event) ledger.requests.items

-- ---- parts

-- the parts of new devices for the shard, in the order of the events
abbrev pub new_parts : Shape → (shard : ℕ) → List Event → List NewPart
new_parts shape shard events = parts_in shape shard events (numbers_of (tasks_of shape shard events))

-- The parts that came to the shard, each under the generation that the register answered, and none was taken in that it
-- refused; all that were handed in are there again, by slot and generation, and of each slot in sync that of its
-- generation is among those it uses
pub record HasParts {D : Type 0} (shape : Shape) (events : List Event) (start : Snapshot) (answers : List EventAnswer)
    (shard : ℕ) (own : Parts D) (handed : List Handed) (ledger : Ledger) (back : ShardParts D) : Type 0 where
  pub came : map slot_of (new_parts shape shard events) ≡ map handed_of handed
  pub agreed : HasAgreed answers handed
  pub all : IsPermutation (labels_of own.parts.items ++ labels_in handed)
      (labels_of back.parts.items ++ labels_of back.others.items)
  pub here : (slot generation : ℕ) → BeginsHere (labels_of own.parts.items) shape.slots start slot
      → Contains ledger.in_sync.items (slot, generation) → IsHere (labels_of back.parts.items) slot generation

-- from each lawful start whose devices hold what the parts told when they came, and those of new devices
abbrev pub LeadsFrom : {D : Type 0} → (D → Telling) → Shape → List Event → (start : Snapshot) → (shard : ℕ)
    → (own : Parts D) → List Handed → List EventReply → Ledger → ShardParts D → Type 0
LeadsFrom told shape events start shard own handed replies ledger back =
    NoneIsSilent (part_in told own.parts.items) (new_parts shape shard events)
    → (device : Devices) (array : Array) → IsLawfulStart (layout_of shape) start device array
    → Hold (start_of shape shard start device array)
    (taken_up (part_in told own.parts.items) (new_parts shape shard events) handed)
    → IsExplained told shape shard (start_of shape shard start device array) events replies ledger back

-- ---- the register

-- what the shard's pass knew: no more than the calling thread's knows at last; it declared no slot lost but one that
-- the ledger names, and made no other call but reports of its own rows; and a slot whose parts fail no command of the
-- shard is neither named nor declared lost, if its worker goes on
pub record HasCalled {D : Type 0} (promised : D → Promise) (steady : (shard slot : ℕ) → Bool) (shape : Shape)
    (given : List (feed.Event D))
    (start : Snapshot) (last : View) (shard : ℕ) (own : Parts D) (ledger : Ledger) : Type 0 where
  pub pass : View
  pub same_start : last.start ≡ pass.start
  pub seen : StartsWith last.seen pass.seen
  pub calls : AreOwn shard ledger.named pass.mine
  pub sound : (slot : ℕ) → steady shard slot ≡ true → StartsSound promised shape shard start slot own.parts.items
      → NewDevicesFailNone promised shape shard slot given
      → (slice_index_or ledger.named slot false ≡ false) × All (λ made. declares slot made.call ≡ false) pass.mine

-- what the shard has in sync is so by the last snapshot, which it looked at: it saw the failure if that is failed; a slot
-- that is lost isn't in sync, one that is rebuilt is so in its new device alone, one that is replaced in its old or its
-- new one, and one in sync in that device, once one had been attached; and, unless the array has failed, each that is in
-- sync is so here, one that is replaced on its old device
pub record KnowsSnapshot (slots : ℕ) (snapshot : Snapshot) (ledger : Ledger) : Type 0 where
  pub looked : ledger.last_look ≡ snapshot
  pub failed : ledger.saw_failed ≡ snapshot.failed
  pub lost : (slot : ℕ) → slot < slots → status_of snapshot slot ≡ Lost → (generation : ℕ)
      → Contains ledger.in_sync.items (slot, generation) → ⊥
  pub rebuilt : (slot : ℕ) → slot < slots → (new : ℕ) (reported : ShardSet)
      → status_of snapshot slot ≡ Rebuilding new reported → (generation : ℕ)
      → Contains ledger.in_sync.items (slot, generation) → generation ≡ new
  pub replaced : (slot : ℕ) → slot < slots → (old new : ℕ) (reported : ShardSet)
      → status_of snapshot slot ≡ Replacing old new reported → (generation : ℕ)
      → Contains ledger.in_sync.items (slot, generation) → generation ≢ new → generation ≡ old
  pub in_sync : (slot : ℕ) → slot < slots → (current : ℕ) → status_of snapshot slot ≡ InSync current
      → 0 < snapshot.attaches → (generation : ℕ)
      → Contains ledger.in_sync.items (slot, generation) → generation ≡ current
  pub kept : snapshot.failed ≡ false → (slot generation : ℕ) → slot < slots
      → current_of (status_of snapshot slot) ≡ Some generation → Contains ledger.in_sync.items (slot, generation)

-- ---- a shard

-- its requests are events, in their order, each with a buffer of one block, and were handed in behind the waits before
-- them; each has one entry; what it answered is explained, and what it saw shows in the last snapshot, at
-- which it looked last
pub record IsServedShard {D : Type 0} (told : D → Telling) (promised : D → Promise)
    (steady : (shard slot : ℕ) → Bool) (shape : Shape)
    (given : List (feed.Event D)) (start : Snapshot) (answers : List EventAnswer) (last : View)
    (replies : List EventReply) (snapshot : Snapshot) (shard : ℕ) (own : Parts D) (ledger : Ledger)
    (back : ShardParts D) : Type 0 where
  pub right : WereRight shape.block (events_of told given) ledger.requests.items
  pub in_order : AreInOrder ledger.requests.items
  pub behind : AreBehindWaits (events_of told given) ledger.requests.items
  pub entries : AnswersEach ledger.requests.items ledger.entries.items
  pub handed : List Handed
  pub parts : HasParts shape (events_of told given) start answers shard own handed ledger back
  pub leads : LeadsFrom told shape (events_of told given) start shard own handed replies ledger back
  pub register : HasCalled promised steady shape given start last shard own ledger
  pub saw : SawWithPass ledger.saw_out last
  pub failed : All (λ e. WasFailed replies e → ledger.saw_failed ≡ true) ledger.entries.items
  pub knows : KnowsSnapshot shape.slots snapshot ledger
  pub ended : NoneAfterEnd shape (events_of told given) replies shard ledger
