-- What each event of an array was answered, and in which ledger its request stands (this project's own).
use Rattle.std.specs.Prelude.{◌≡◌, ◌≢◌, ℕ, ◌<◌, ◌≤◌, ◌==◌, ◌⊎◌, List, count_by, length, slice_get, Some, true}
use Rattle.r6_layout.specs.Shape.{Shape, blocks}
use Rattle.r6_layout.specs.Layout.{shard_of, row_of}
use Rattle.r6_world.specs.PlainArray.{block_of}
use Rattle.r6_world.specs.ShardStates.{limit}
use Rattle.r6_world.specs.declared.values.Op.{Op}
use Rattle.r6_world.specs.declared.values.Reply.{Reply}
use Rattle.r6_world.specs.Values.{buffer_back, buffer_of, op_of}
use Rattle.r6_core.specs.declared.refusal.Refusal.{Refusal}
use Rattle.r6_core.specs.declared.refusal.Refusal.TheVariants.{NoSuchBlock, WrongLength, ArrayFailed, Exhausted}
use Rattle.r6_shard.specs.Replying.{is_for, is_write}
use Rattle.r6_engine.specs.lists.Events.{Event, Request, Bring, Fail, Check, Repair, Wait}
use Rattle.r6_engine.specs.Found.{rows_of}
use Rattle.r6_engine.specs.declared.lists.bringing.Bringing.TheVariants as bringing
use Rattle.r6_engine.specs.declared.ledger.Ledger.{Ledger}
use Rattle.r6_engine.specs.declared.reply.EventReply.{EventReply}
use Rattle.r6_engine.specs.declared.reply.EventReply.TheVariants as reply

-- ---- requests

-- the block that a caller's request is for; the array may have no such block
abbrev pub block_in : Op → ℕ
block_in o = block_of (op_of o)

-- the shard that serves a block's row
abbrev pub shard_with : Shape → (block : ℕ) → ℕ
shard_with shape block = shard_of shape (row_of shape block)

-- a block of the array, in a buffer of one block
abbrev pub IsWell : Shape → Op → Type 0
IsWell shape o = (block_in o < blocks shape) × (length (buffer_of o) ≡ shape.block)

-- how many of a ledger's entries are of this event
abbrev pub entries_for : (event : ℕ) → Ledger → ℕ
entries_for event ledger = count_by (λ entry. entry.event == event) ledger.entries.items

-- one entry, in the ledger of the block's shard, and none in another's
pub record StandsOnce (shape : Shape) (ledgers : List Ledger) (event block : ℕ) : Type 0 where
  pub ledger : Ledger
  pub own : slice_get ledgers (shard_with shape block) ≡ Some ledger
  pub one : entries_for event ledger ≡ 1
  pub others : (shard : ℕ) (other : Ledger) → shard ≢ shard_with shape block → slice_get ledgers shard ≡ Some other
      → entries_for event other ≡ 0

-- no ledger has an entry of this event
abbrev pub StandsNowhere : List Ledger → (event : ℕ) → Type 0
StandsNowhere ledgers event =
    (shard : ℕ) (ledger : Ledger) → slice_get ledgers shard ≡ Some ledger → entries_for event ledger ≡ 0

-- what the ledger of the block's shard says
abbrev pub Says : Shape → List Ledger → Op → (Ledger → Type 0) → Type 0
Says shape ledgers o P =
    (ledger : Ledger) × (slice_get ledgers (shard_with shape (block_in o)) ≡ Some ledger) × P ledger

-- the array has no such block; its buffer is not one block; or its shard saw that the array has failed, or has given
-- 2^60 tokens or accepted as many requests
abbrev pub IsReason : Shape → List Ledger → Op → Refusal → Type 0
IsReason shape ledgers o NoSuchBlock = blocks shape ≤ block_in o
IsReason shape ledgers o WrongLength = (block_in o < blocks shape) × (length (buffer_of o) ≢ shape.block)
IsReason shape ledgers o ArrayFailed = IsWell shape o × Says shape ledgers o (λ ledger. ledger.saw_failed ≡ true)
IsReason shape ledgers o Exhausted = IsWell shape o × Says shape ledgers o (λ ledger.
    (limit ≤ ledger.tokens) ⊎ (limit ≤ length ledger.requests.items))
-- it is refused for no other reason
IsReason shape ledgers o refusal = ⊥

-- Data answers a read and Done a write, and ArrayFailed either, each with one block
abbrev pub IsAnswerTo : Shape → Op → Reply → Type 0
IsAnswerTo shape o answer = (is_for (is_write (op_of o)) answer ≡ true) × (length (buffer_back answer) ≡ shape.block)

-- ---- events

-- the reply of an event: a request was answered as what it was, and stands once, or it was refused for a reason; a check
-- and a repair went over each row
abbrev pub IsReplyTo : Shape → List Ledger → (event : ℕ) → Event → EventReply → Type 0
IsReplyTo shape ledgers event (Request o) (reply.Replied answer) =
    IsWell shape o × StandsOnce shape ledgers event (block_in o) × IsAnswerTo shape o answer
IsReplyTo shape ledgers event (Request o) (reply.Refused refusal) =
    IsReason shape ledgers o refusal × StandsNowhere ledgers event
IsReplyTo shape ledgers event (Fail slot) (reply.Failed answer) = Unit {0}
IsReplyTo shape ledgers event (Bring bringing.Attach slot part) (reply.Attached answer) = Unit {0}
IsReplyTo shape ledgers event (Bring bringing.Replace slot part) (reply.Replaced answer) = Unit {0}
IsReplyTo shape ledgers event Check (reply.Counted found) = rows_of found ≡ shape.rows
IsReplyTo shape ledgers event Repair (reply.Counted found) = rows_of found ≡ shape.rows
IsReplyTo shape ledgers event Wait reply.Waited = Unit {0}
IsReplyTo shape ledgers event asked answer = ⊥

-- each event has its reply, by its number
pub record AreReplies (shape : Shape) (events : List Event) (ledgers : List Ledger) (replies : List EventReply)
    : Type 0 where
  pub as_many : length replies ≡ length events
  pub each : (event : ℕ) (asked : Event) (answer : EventReply) → slice_get events event ≡ Some asked
      → slice_get replies event ≡ Some answer → IsReplyTo shape ledgers event asked answer
