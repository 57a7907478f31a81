-- What the ledger of a shard tells: one plain array answered its requests, and its parts hold that array (Herlihy and
-- Wing, "Linearizability").
use Rattle.std.specs.Prelude.{◌≡◌, ℕ, ◌+◌, ◌*◌, ◌<◌, ◌≤◌, List, length, map, filter_map, slice_get, Option, Some, None, option_map, option_and_then, false}
use Rattle.std.specs.List.{Contains}
use Rattle.r6_dev.specs.History.{Telling, Blocks}
use Rattle.r6_layout.specs.Shape.{Shape}
use Rattle.r6_world.specs.Geometries.{layout_of}
use Rattle.r6_world.specs.Layouts.{IsRowOf, content}
use Rattle.r6_world.specs.PlainArray as world
use Rattle.r6_world.specs.PlainArray.{Array}
use Rattle.r6_world.specs.Values.{op_of, reply_of}
use Rattle.r6_world.specs.Worlds.{World}
use Rattle.r6_world.specs.Counting.{all_counted}
use Rattle.r6_world.specs.ShardStates.{Shard, limit}
use Rattle.r6_course.specs.Courses.{AreFailed, Mark, Reached, Start, looked_of}
use Rattle.r6_course.specs.Ledgers.{IsWellFormed, Leads, OthersStay}
use Rattle.r6_engine.specs.lists.Events.{Event, Request, numbers_of, tasks_of}
use Rattle.r6_shard.specs.declared.ledger.Asked.{Asked}
use Rattle.r6_shard.specs.Behind.{IsBehindAll, StandsBefore}
use Rattle.r6_shard.specs.Histories.{answered_before, asked_in, numbered, replied_in}
use Rattle.r6_shard.specs.Parts.{part_in}
use Rattle.r6_engine.specs.runner.Counted.{rows_of_shard}
use Rattle.r6_engine.specs.runner.Tasks.{scrubs_in}
use Rattle.r6_engine.specs.declared.ledger.Ledger.{Ledger}
use Rattle.r6_engine.specs.declared.ledger.LedgerEntry.{LedgerEntry}
use Rattle.r6_engine.specs.declared.part.ShardParts.{ShardParts}
use Rattle.r6_engine.specs.declared.reply.EventReply.{EventReply}
use Rattle.r6_engine.specs.declared.reply.EventReply.TheVariants.{Replied}
use Rattle.r6_engine.specs.Ledgers.{synced_in}

-- ---- what was asked and answered

-- what an event asks of the plain array, as the world has it: a request asks, and no other event does
abbrev pub op_in : Event → Option world.Op
op_in (Request o) = Some (op_of o)
op_in event = None

-- what the requests of a ledger ask, by their numbers
abbrev pub ops_in : List Event → List Asked → List world.Op
ops_in events requests = filter_map (λ a. option_and_then op_in (slice_get events a.event)) requests

-- what a request was answered, as the world has it; a refusal is no such answer
abbrev pub reply_in : EventReply → Option world.Reply
reply_in (Replied reply) = Some (reply_of reply)
reply_in said = None

-- what the request of an entry was answered, with its number in the shard
abbrev pub reply_to : List EventReply → LedgerEntry → Option (ℕ × world.Reply)
reply_to replies e = option_map (λ reply. (e.id.0, reply)) (option_and_then reply_in (slice_get replies e.event))

-- what the ledger and the replies tell the users saw of the shard: the requests that it accepted, what they were
-- answered, in this order, and how many replies were taken before each was handed in
pub record Tells (events : List Event) (replies : List EventReply) (ledger : Ledger) (history : List Mark)
    : Type 0 where
  pub asked : asked_in history ≡ numbered 0 (ops_in events ledger.requests.items)
  pub replied : replied_in history ≡ filter_map (reply_to replies) ledger.entries.items
  pub answered : answered_before 0 history ≡ map (λ a. a.answered) ledger.requests.items
  pub blocks : map (λ a. a.block) ledger.requests.items ≡ map world.block_of (ops_in events ledger.requests.items)

-- ---- what the parts hold

-- at most two slots are out in the shard, and it saw no failure
abbrev pub IsInService : Shape → Ledger → Type 0
IsInService shape ledger = (ledger.saw_failed ≡ false) × (shape.slots ≤ length ledger.in_sync.items + 2)

-- in each row of the shard the part of each slot in sync tells what the layout keeps of the array there, P and Q
abbrev pub PartsHold : {D : Type 0} → (D → Telling) → Shape → (shard : ℕ) → Array → Ledger → ShardParts D → Type 0
PartsHold told shape shard array ledger back =
    (row slot generation : ℕ) → IsRowOf (layout_of shape) shard row
    → Contains ledger.in_sync.items (slot, generation)
    → (telling : Telling) → part_in told back.parts.items slot generation ≡ Some telling
    → (blocks : Blocks) × (telling ≡ Some blocks) × (blocks row ≡ content (layout_of shape) array row slot)

-- ---- the shard as it ended

-- the ledger tells it as it is: the slots in sync, whether it saw the failure, the tokens that it gave
pub record TellsShard (slots : ℕ) (s : Shard) (ledger : Ledger) : Type 0 where
  pub in_sync : ledger.in_sync.items ≡ synced_in slots s
  pub saw_failed : ledger.saw_failed ≡ s.saw_failed
  pub tokens : ledger.tokens ≡ s.tokens

-- in service, and below 2^60 tokens and rows of all events, it has counted each of its rows once for each check and
-- repair, by the class in which it was read or as skipped
abbrev pub CountsEach : Shape → List Event → (shard : ℕ) → Shard → Ledger → Type 0
CountsEach shape events shard s ledger =
    IsInService shape ledger → ledger.tokens < limit → length events * shape.rows < limit
    → all_counted s
    ≡ length (scrubs_in shape shard events (numbers_of (tasks_of shape shard events))) * rows_of_shard shape shard

-- A run of the world of this shard leads to what the ledger and the replies tell: the shard as it ended, and the
-- attaches that it looked at last; in it a command that wasn't abandoned failed to each slot that the ledger names. One
-- plain array explains it: from what it held at the start it answers the requests as they were answered, in an order
-- that keeps to the time and to the waits, and in a shard in service it is what the parts hold in the end
pub record IsExplained {D : Type 0} (told : D → Telling) (shape : Shape) (shard : ℕ) (s : Start) (events : List Event)
    (replies : List EventReply) (ledger : Ledger) (back : ShardParts D) : Type 0 where
  pub history : List Mark
  pub tells : Tells events replies ledger history
  pub world : World
  pub reached : Reached s world history
  pub ends : TellsShard shape.slots (world.shard shard) ledger
  pub looked : looked_of 0 reached.moments ≡ ledger.last_look.attaches
  pub named : AreFailed shard ledger.named reached.moments
  pub counted : CountsEach shape events shard (world.shard shard) ledger
  pub array : Array
  pub leads : Leads s.array history array
  pub behind : (number : ℕ) → IsBehindAll ledger.requests.items number → (earlier later : ℕ) → earlier < number
      → number ≤ later → StandsBefore history leads.order earlier later
  pub parts : IsInService shape ledger → PartsHold told shape shard array ledger back
  pub others : OthersStay s array
  pub well_formed : IsWellFormed history
