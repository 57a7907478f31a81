-- One order of all requests of an array that was served, whatever the order in time is in which its shards took them
-- and handed replies over (this project's own; linearizability: Herlihy and Wing).
use Rattle.std.specs.Prelude.{◌≡◌, ◌≢◌, ℕ, ◌<◌, ◌≤◌, Bool, List, [], slice_get, Some}
use Rattle.r6_dev.specs.History.{Telling}
use Rattle.r6_dev.specs.Promises.{Promise}
use Rattle.r6_layout.specs.Shape.{Shape, IsShape}
use Rattle.r6_health.specs.declared.history.View.{View}
use Rattle.r6_world.specs.Geometries.{layout_of}
use Rattle.r6_world.specs.PlainArray.{Array, ArrayFailed}
use Rattle.r6_world.specs.Registers.{Snapshot}
use Rattle.r6_world.specs.Worlds.{Devices}
use Rattle.r6_world.specs.Claims.{IsLawfulStart}
use Rattle.r6_world.specs.declared.values.Op.{Op}
use Rattle.r6_world.specs.declared.values.Reply.{Reply}
use Rattle.r6_world.specs.Values.{op_of, reply_of}
use Rattle.r6_course.specs.Courses.{Start}
use Rattle.r6_course.specs.Ledgers.{Entry, entry, IsIn}
use Rattle.r6_shard.specs.declared.ledger.Asked.{Asked}
use Rattle.r6_shard.specs.declared.parts.Parts.{Parts}
use Rattle.r6_shard.specs.Beginnings.{Hold, start_of}
use Rattle.r6_shard.specs.Behind.{IsBehindAll, StandsBefore}
use Rattle.r6_shard.specs.Parts.{part_in}
use Rattle.r6_engine.specs.declared.feed.event.Event as feed
use Rattle.r6_engine.specs.feed.Events.{events_of}
use Rattle.r6_engine.specs.lists.Events.{Event, Request}
use Rattle.r6_engine.specs.runner.Runners.{NoneIsSilent, taken_up}
use Rattle.r6_engine.specs.declared.runner.runner.Handed.{Handed}
use Rattle.r6_engine.specs.declared.ledger.Ledger.{Ledger}
use Rattle.r6_engine.specs.declared.part.ShardParts.{ShardParts}
use Rattle.r6_engine.specs.declared.reply.EventReply.{EventReply}
use Rattle.r6_engine.specs.declared.reply.EventReply.TheVariants.{Replied}
use Rattle.r6_engine.specs.declared.served.Served.{Served}
use Rattle.r6_engine.specs.Answered.{AreReplies, block_in, shard_with}
use Rattle.r6_engine.specs.Explained.{IsInService, PartsHold, Tells}
use Rattle.r6_engine.specs.ServedArrays.{HasServedArray}
use Rattle.r6_engine.specs.ServedShards.{new_parts}
use Rattle.r6_order.specs.Orders.{ArrayHistory, of_shard, LeadsAll}

-- the history has what the ledger of each shard and the replies tell: the requests that the shard accepted and the
-- replies that it handed over, in the order in which its thread did so; and it has nothing else
pub record IsHistoryOf (shape : Shape) (events : List Event) (replies : List EventReply) (ledgers : ℕ → Ledger)
    (history : ArrayHistory) : Type 0 where
  pub tells : (shard : ℕ) → shard < shape.shards → Tells events replies (ledgers shard) (of_shard shard history)
  pub no_others : (shard : ℕ) → shape.shards ≤ shard → of_shard shard history ≡ []

-- the request of this event stands in the order, as it was asked and with this answer, under the number that it has in
-- the ledger of its block's shard
pub record StandsFor (shape : Shape) (ledgers : ℕ → Ledger) (order : List (ℕ × Entry)) (event : ℕ) (o : Op)
    (answer : Reply) : Type 0 where
  pub id : ℕ
  pub asked : Asked
  pub request : slice_get (ledgers (shard_with shape (block_in o))).requests.items id ≡ Some asked
  pub event_is : asked.event ≡ event
  pub stands : IsIn (shard_with shape (block_in o), entry id (op_of o) (reply_of answer)) order

-- One order of the requests of all shards explains the history, from this array on. The request of each event that was
-- answered, otherwise than that the array has failed, stands there with its answer; the requests of each shard keep to
-- the waits; and in each shard that is in service the parts of the slots in sync hold the array in which it ends
pub record HasOneOrder {D : Type 0} (told : D → Telling) (shape : Shape) (events : List Event) (array : Array)
    (replies : List EventReply) (ledgers : ℕ → Ledger) (backs : ℕ → ShardParts D) (history : ArrayHistory)
    : Type 0 where
  pub end : Array
  pub leads : LeadsAll array history end
  pub answered : (event : ℕ) (o : Op) (answer : Reply) → slice_get events event ≡ Some (Request o)
      → slice_get replies event ≡ Some (Replied answer) → reply_of answer ≢ ArrayFailed
      → StandsFor shape ledgers leads.order event o answer
  pub behind : (shard number : ℕ) → shard < shape.shards → IsBehindAll (ledgers shard).requests.items number
      → (earlier later : ℕ) → earlier < number → number ≤ later
      → StandsBefore (of_shard shard history) (of_shard shard leads.order) earlier later
  pub parts : (shard : ℕ) → shard < shape.shards → IsInService shape (ledgers shard)
      → PartsHold told shape shard end (ledgers shard) (backs shard)

-- Whichever history of the array the ledgers and the replies tell, as they leave open what came first in time in
-- different shards, one order explains it; and there is a history that they tell
pub record IsOneArray {D : Type 0} (told : D → Telling) (shape : Shape) (events : List Event) (array : Array)
    (replies : List EventReply) (ledgers : ℕ → Ledger) (backs : ℕ → ShardParts D) : Type 0 where
  pub one_order : (history : ArrayHistory) → IsHistoryOf shape events replies ledgers history
      → HasOneOrder told shape events array replies ledgers backs history
  pub some_history : (history : ArrayHistory) × IsHistoryOf shape events replies ledgers history

-- the parts that the shard of this number began with, its ledger, and its parts that came back
pub record IsShardIn {D : Type 0} (parts : List (Parts D)) (served : Served D) (shard : ℕ) (own : Parts D)
    (ledger : Ledger) (back : ShardParts D) : Type 0 where
  pub parts_is : slice_get parts shard ≡ Some own
  pub ledger_is : slice_get served.ledgers.items shard ≡ Some ledger
  pub back_is : slice_get served.devices.items shard ≡ Some back

-- all parts of the shard have known blocks, those of new devices too, and at this start its devices hold the blocks
-- that its parts had when they came
pub record StartsKnown {D : Type 0} (told : D → Telling) (shape : Shape) (events : List Event) (own : Parts D)
    (handed : List Handed) (s : Start) : Type 0 where
  pub known : NoneIsSilent (part_in told own.parts.items) (new_parts shape s.number events)
  pub held : Hold s (taken_up (part_in told own.parts.items) (new_parts shape s.number events) handed)

-- Of an array that was served over parts with known blocks, from each lawful start whose devices hold what the parts of
-- all shards had
abbrev pub ServedOrderLaw : {D : Type 0} → (D → Telling) → (D → Promise) → Type 0
ServedOrderLaw {D = D} told promised =
    (steady : (shard slot : ℕ) → Bool) (shape : Shape) → IsShape shape
    → (given : List (feed.Event D)) (start : Snapshot) (first : View) (parts : List (Parts D)) (served : Served D)
    (x : HasServedArray told promised steady shape given start first parts served)
    → AreReplies shape (events_of told given) served.ledgers.items served.replies.items
    → (own : ℕ → Parts D) (ledgers : ℕ → Ledger) (backs : ℕ → ShardParts D)
    (are : (n : ℕ) → n < shape.shards → IsShardIn parts served n (own n) (ledgers n) (backs n))
    → (device : Devices) (array : Array) → IsLawfulStart (layout_of shape) start device array
    → ((n : ℕ) (below : n < shape.shards) →
    let is = are n below in
    let shard = x.each n (own n) (ledgers n) (backs n) is.parts_is is.ledger_is is.back_is in
    StartsKnown told shape (events_of told given) (own n) shard.handed (start_of shape n start device array))
    → IsOneArray told shape (events_of told given) array served.replies.items ledgers backs
