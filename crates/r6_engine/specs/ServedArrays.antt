-- What became of an array that was served (this project's own).
use Rattle.std.specs.Prelude.{◌≡◌, ℕ, ◌*◌, ◌<◌, ◌≤◌, Bool, List, All, length, map, slice_get, Some, false}
use Rattle.r6_dev.specs.History.{Telling}
use Rattle.r6_dev.specs.Promises.{Promise}
use Rattle.r6_layout.specs.Shape.{Shape}
use Rattle.r6_health.specs.declared.history.View.{View}
use Rattle.r6_health.specs.Histories as history
use Rattle.r6_world.specs.Registers.{Snapshot}
use Rattle.r6_world.specs.ShardStates.{limit}
use Rattle.r6_engine.specs.lists.Events.{Event, tasks_of}
use Rattle.r6_shard.specs.declared.parts.Parts.{Parts}
use Rattle.r6_shard.specs.Whole.{IsClean}
use Rattle.r6_engine.specs.declared.feed.answer.EventAnswer.{EventAnswer}
use Rattle.r6_engine.specs.declared.feed.event.Event as feed
use Rattle.r6_engine.specs.feed.Events.{events_of}
use Rattle.r6_engine.specs.declared.found.Found.{Found}
use Rattle.r6_engine.specs.declared.ledger.Ledger.{Ledger}
use Rattle.r6_engine.specs.declared.part.ShardParts.{ShardParts}
use Rattle.r6_engine.specs.declared.reply.EventReply.{EventReply}
use Rattle.r6_engine.specs.declared.reply.EventReply.TheVariants.{Counted}
use Rattle.r6_engine.specs.declared.served.Served.{Served}
use Rattle.r6_engine.specs.Ending.{IsRebuilt}
use Rattle.r6_engine.specs.OneRuns.{RunAsOne}
use Rattle.r6_engine.specs.Replies.{reply_of_answer}
use Rattle.r6_engine.specs.ServedShards.{IsServedShard}
use Rattle.r6_engine.specs.Serves.{HasAnswered}

-- what the calling thread answered stands among the replies
abbrev pub AreToldIn : List EventReply → List EventAnswer → Type 0
AreToldIn replies answers = All (λ a. slice_get replies a.event ≡ Some (reply_of_answer a.outcome)) answers

-- the ledger names no slot, and the shard saw none lost, rebuilt or replaced, saw no failure, and gave no 2^60 tokens
abbrev pub IsCleanLedger : Ledger → Type 0
IsCleanLedger ledger = IsClean ledger.named ledger.saw_out × (ledger.saw_failed ≡ false) × (ledger.tokens < limit)

-- if so says each ledger, no check or repair skipped a row, of events whose checks and repairs are below 2^60 rows
abbrev pub SkipNone : Shape → (count : ℕ) → List Ledger → List EventReply → Type 0
SkipNone shape count ledgers replies =
    All IsCleanLedger ledgers → count * shape.rows < limit
    → (event : ℕ) (found : Found) → slice_get replies event ≡ Some (Counted found) → found.skipped ≡ 0

-- The events were handed out by a thread whose pass knew this first, and that failed, attached and replaced slots; each
-- shard did its part of them, from its parts on. The ledgers, the parts that come back and the replies are theirs, and
-- the snapshot is what the register held at last
pub record HasServedArray {D : Type 0} (told : D → Telling) (promised : D → Promise)
    (steady : (shard slot : ℕ) → Bool) (shape : Shape)
    (given : List (feed.Event D)) (start : Snapshot) (first : View) (parts : List (Parts D)) (served : Served D)
    : Type 0 where
  pub answers : List EventAnswer
  pub last : View
  pub answered : HasAnswered shape (events_of told given) first answers last
  pub told_in : AreToldIn served.replies.items answers
  pub held : served.snapshot ≡ history.held last.start last.seen
  pub legal : history.IsLegal last.start last.seen
  pub ledgers : length served.ledgers.items ≡ shape.shards
  pub devices : length served.devices.items ≡ shape.shards
  pub each : (shard : ℕ) (own : Parts D) (ledger : Ledger) (back : ShardParts D)
      → slice_get parts shard ≡ Some own → slice_get served.ledgers.items shard ≡ Some ledger
      → slice_get served.devices.items shard ≡ Some back
      → IsServedShard told promised steady shape given start answers last served.replies.items served.snapshot shard own ledger
      back
  pub one_run : RunAsOne told shape (events_of told given) start parts answers served.replies.items
      served.snapshot served.ledgers.items
  pub unskipped : SkipNone shape (length given) served.ledgers.items served.replies.items
  pub rebuilt : IsRebuilt served.snapshot (map (λ ledger. ledger.tokens) served.ledgers.items)

-- ---- while it begins

-- no shard has more tasks of these events
abbrev pub HasNoMore : Shape → List Event → (most : ℕ) → Type 0
HasNoMore shape events most = (shard : ℕ) → shard < shape.shards → length (tasks_of shape shard events) ≤ most
