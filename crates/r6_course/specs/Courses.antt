-- The course of one shard: what happened at its core, at its parts of the devices and at the register since the start,
-- as far as the thread that owns the core knows of it (this project's own).
use Rattle.std.specs.Prelude.{◌≡◌, ℕ, ◌+◌, ◌<◌, List, [], ◌∷◌, ◌++◌, Bool, true, false, Option, Some, None, slice_index_or}
use Rattle.r6_dev.specs.History.{Telling}
use Rattle.r6_health.specs.declared.history.HistoryEntry.{HistoryEntry}
use Rattle.r6_health.specs.Histories.{Name}
use Rattle.r6_layout.specs.PlainArray.{Block}
use Rattle.r6_world.specs.PlainArray.{Array, Op, Reply}
use Rattle.r6_world.specs.Layouts.{Layout, IsLayout, IsRowOf}
use Rattle.r6_world.specs.Registers.{Snapshot}
use Rattle.r6_world.specs.ShardStates.{Shard, Command}
use Rattle.r6_world.specs.Steps.{Event, Submit, Submit_all, Look, Take_command, Deliver, Completion, Good, Error, Read_error, Taken, Take_reply}
use Rattle.r6_world.specs.Worlds.{World, Devices, Happening, Core, Perform, Tell, Outside, Moment, Run}
use Rattle.r6_world.specs.Worlds.{started, shard_at_start}
use Rattle.r6_world.specs.Claims.{IsLawfulStart}
use Rattle.r6_world.specs.Laws.{AreOfShard, IsByAnyone}
use Rattle.r6_world.specs.Witness.{after_all}
use Rattle.r6_course.specs.Seen.{Sees}

-- how a shard began: of which array, which shard, with which register, and what the devices and the plain array held
pub record Start : Type 0 where
  pub layout : Layout
  pub number : ℕ
  pub register : Snapshot
  pub device : Devices
  pub array : Array

-- the layout is one-to-one, the number is one of its shards', and the start is lawful: at most two slots are lost, and
-- the devices in sync have the array by layout
pub record IsLawful (s : Start) : Type 0 where
  pub layout : IsLayout s.layout
  pub number : s.number < s.layout.shards
  pub start : IsLawfulStart s.layout s.register s.device s.array

-- the world as the shard's run begins: nothing has happened in any shard
abbrev pub first_world : Start → World
first_world s = started s.layout s.register s.device

-- What a shard's users see of it, in the order of time: a request is handed in, a reply is taken (a history of
-- invocations and responses: Herlihy and Wing, "Linearizability")
pub data Mark : Type 0 where
  Asked : (id : ℕ) → Op → Mark
  Replied : (id : ℕ) → Reply → Mark

-- requests that are handed in together are so one after another
abbrev pub asked_from : (first : ℕ) → List Op → List Mark
asked_from first [] = []
asked_from first (op ∷ ops) = Asked first op ∷ asked_from (first + 1) ops

-- the history after an event: a request or a list that is accepted and a reply that is taken leave marks, in order of
-- time. A reply that is only released leaves none
abbrev pub marked : Event → List Mark → List Mark
marked (Submit op id) history = history ++ Asked id op ∷ []
marked (Submit_all ops first) history = history ++ asked_from first ops
marked (Take_reply id reply) history = history ++ Replied id reply ∷ []
marked event history = history

-- the history after a happening: only calls of a core leave marks; devices and register leave none
abbrev pub history_after : Happening → List Mark → List Mark
history_after (Core n event new) history = marked event history
history_after (Perform n token c) history = history
history_after (Tell n call answer middle new) history = history
history_after (Outside call) history = history

-- the history after these moments, one after another
abbrev pub history_of : List Mark → List Moment → List Mark
history_of history [] = history
history_of history (m ∷ moments) = history_of (history_after m.happening history) moments

-- the attaches of the register that the core saw when it looked last, at first 0
abbrev pub looked_by : Event → ℕ → ℕ
looked_by (Look seen) looked = seen.attaches
looked_by event looked = looked

-- the same after a happening: only a look changes it, so an attach doesn't before the core looks
abbrev pub looked_after : Happening → ℕ → ℕ
looked_after (Core n event new) looked = looked_by event looked
looked_after (Perform n token c) looked = looked
looked_after (Tell n call answer middle new) looked = looked
looked_after (Outside call) looked = looked

-- the same after these moments, one after another
abbrev pub looked_of : ℕ → List Moment → ℕ
looked_of looked [] = looked
looked_of looked (m ∷ moments) = looked_of (looked_after m.happening looked) moments

-- an error of any kind, a read error too
abbrev pub IsError : Completion → Type 0
IsError (Good b) = ⊥
IsError Error = record {}
IsError Read_error = record {}

-- a command to the slot was taken, and then the core took its error, as it takes none of a command that was abandoned
-- (md(4): a device is failed where it answers a command by an error)
pub record HasFailed (n slot : ℕ) (moments : List Moment) : Type 0 where
  pub token : ℕ
  pub command : Command
  pub slot_is : command.slot ≡ slot
  pub before : List Moment
  pub taking : Moment
  pub between : List Moment
  pub failing : Moment
  pub behind : List Moment
  pub is : moments ≡ before ++ taking ∷ between ++ failing ∷ behind
  pub middle : Shard
  pub taken : taking.happening ≡ Core n (Take_command token command) middle
  pub new : Shard
  pub error : Completion
  pub is_error : IsError error
  pub failed : failing.happening ≡ Core n (Deliver token error Taken) new

-- the slot is named as failed; one after the list's end isn't
abbrev pub is_named : List Bool → (slot : ℕ) → Bool
is_named named slot = slice_index_or named slot false

-- only slots are named that have failed so
abbrev pub AreFailed : (n : ℕ) → (named : List Bool) → List Moment → Type 0
AreFailed n named moments = (slot : ℕ) → is_named named slot ≡ true → HasFailed n slot moments

-- a run of the shard, beside calls that anyone makes at the register, leads from its start to this world, and its
-- users saw this
pub record Reached (s : Start) (w : World) (history : List Mark) : Type 0 where
  pub moments : List Moment
  pub own : AreOfShard s.number moments
  pub run : Run s.layout IsByAnyone (first_world s) moments
  pub world : after_all s.layout (first_world s) moments ≡ w
  pub marks : history_of [] moments ≡ history

-- these commands, which were taken and aren't answered, are in flight, each with its block; no device has performed one
-- so far
abbrev pub AreInFlight : (n : ℕ) → World → (out : ℕ → Option Command) → Type 0
AreInFlight n w out =
    (token : ℕ) (c : Command) → out token ≡ Some c → (w.flight n token ≡ Some c) × (w.performed n token ≡ None)

-- where a shard stands: its core, the name of its pass, the register's history as that saw it last, what the register
-- held then, the attaches that its core saw when it looked last, the slots that it names as failed, the commands that
-- are out with its workers by token, what its parts tell by slot and generation once the completions that came were
-- answered (none: no part is there), and what its users saw
pub record Stand : Type 0 where
  pub shard : Shard
  pub by : Name
  pub log : List HistoryEntry
  pub register : Snapshot
  pub looked : ℕ
  pub named : List Bool
  pub out : ℕ → Option Command
  pub part : ℕ → ℕ → Option Telling
  pub history : List Mark

-- what a part tells is what its device has in the shard's rows
abbrev pub Tells : Start → (ℕ → Block) → Telling → Type 0
Tells s device None = ⊥
Tells s device (Some blocks) = (row : ℕ) → IsRowOf s.layout s.number row → device row ≡ blocks row

-- each part that has answered no error tells what its device has
abbrev pub AreParts : Start → Devices → (broken : ℕ → ℕ → Bool) → (ℕ → ℕ → Option Telling) → Type 0
AreParts s device broken part =
    (slot generation : ℕ) (telling : Telling) → part slot generation ≡ Some telling → broken slot generation ≡ false
    → Tells s (device slot generation) telling

-- all that happened since the start leads to where the shard stands
pub record Follows (s : Start) (at : Stand) : Type 0 where
  pub world : World
  pub reached : Reached s world at.history
  pub shard : world.shard s.number ≡ at.shard
  pub register : world.register ≡ at.register
  pub looked : looked_of 0 reached.moments ≡ at.looked
  pub sees : Sees s.layout s.number at.by at.log reached.moments
  pub named : AreFailed s.number at.named reached.moments
  pub in_flight : AreInFlight s.number world at.out
  pub parts : AreParts s world.device (world.broken s.number) at.part

-- at the start the core is made with the register, its pass has seen no history, no slot is named, and its users saw
-- nothing
abbrev pub first_stand : Start → (by : Name) → (ℕ → ℕ → Option Telling) → Stand
first_stand s by part =
    record {
      shard = shard_at_start s.layout s.register s.number;
      by = by;
      log = [];
      register = s.register;
      looked = 0;
      named = [];
      out = λ token. None;
      part = part;
      history = [];
    }
