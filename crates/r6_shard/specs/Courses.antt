-- That all that a shard's thread did is a course of its shard.
use Rattle.std.specs.Prelude.{◌≡◌, ℕ, ◌<◌, Bool, List, length, map, All, slice_index_or, Option, Some, None}
use Rattle.r6_dev.specs.History.{Telling}
use Rattle.r6_health.specs.declared.history.View.{View}
use Rattle.r6_health.specs.Histories.{held}
use Rattle.r6_world.specs.PlainArray.{Op, Reply, block_of}
use Rattle.r6_world.specs.ShardStates as world
use Rattle.r6_world.specs.declared.values.Command.{Command}
use Rattle.r6_world.specs.Values.{reply_of, world_command}
use Rattle.r6_core.specs.Shards.{CoreView, core_layout, world_shard}
use Rattle.r6_course.specs.Courses.{Start, IsLawful, Mark, Stand, Follows}
use Rattle.r6_course.specs.Steps.{Knows}
use Rattle.r6_shard.specs.Histories.{asked_in, replied_in, answered_before, numbered}
use Rattle.r6_shard.specs.declared.ledger.Asked.{Asked as Accepted}
use Rattle.r6_shard.specs.declared.ledger.Entry.{Entry}

-- where a core stands with its parts and the slots that are named, with a register that its pass has seen so far and of
-- which it looked at so many attaches, and with no command out
abbrev pub stand_of : CoreView → View → (looked : ℕ) → (named : List Bool) → (ℕ → ℕ → Option Telling) → List Mark
    → Stand
stand_of core v looked named part history =
    record {
      shard = world_shard core;
      by = v.name;
      log = v.seen;
      register = held v.start v.seen;
      looked = looked;
      named = named;
      out = λ token. None;
      part = part;
      history = history;
    }

-- each of these commands is among those, as it was taken
abbrev pub AreAmong : (taken : ℕ → Option world.Command) → (out : ℕ → Option Command) → Type 0
AreAmong taken out =
    (token : ℕ) (c : Command) → out token ≡ Some c
    → (frame : ℕ) × (abandoned : Bool) × (copy : Bool) × (taken token ≡ Some (world_command frame abandoned copy c))

-- a run from this start leads there, with these commands out
pub record Course (s : Start) (core : CoreView) (v : View) (looked : ℕ) (named : List Bool)
    (out : ℕ → Option Command) (part : ℕ → ℕ → Option Telling) (history : List Mark) : Type 0 where
  pub lawful : IsLawful s
  pub layout : s.layout ≡ core_layout core
  pub number : s.number ≡ core.shard
  pub pass : Knows s v v.name v.seen (held v.start v.seen)
  pub taken : ℕ → Option world.Command
  pub among : AreAmong taken out
  pub follows : Follows s (record (stand_of core v looked named part history) { out = taken })

-- ---- the history, as the thread's lists tell it

-- the number of an entry's request, and its reply as the world has it
abbrev pub replied_of : Entry → ℕ × Reply
replied_of e = (e.id.0, reply_of e.reply)

-- an entry has the number, the event and the block of one of the requests
abbrev pub IsOf : List Accepted → Entry → Type 0
IsOf accepted e =
    (e.id.0 < length accepted)
    × (slice_index_or (map (λ a. a.event) accepted) e.id.0 0 ≡ e.event)
    × (slice_index_or (map (λ a. a.block) accepted) e.id.0 0 ≡ e.block)

-- so it is of each entry; several may be of one request
abbrev pub AreOf : List Accepted → List Entry → Type 0
AreOf accepted entries = All (IsOf accepted) entries

-- the thread's lists tell a history in which these ops were handed in, in this order
pub record Tells (accepted : List Accepted) (entries : List Entry) (ops : List Op) (history : List Mark) : Type 0 where
  pub asked : asked_in history ≡ numbered 0 ops
  pub replied : replied_in history ≡ map replied_of entries
  pub answered : answered_before 0 history ≡ map (λ a. a.answered) accepted
  pub blocks : map (λ a. a.block) accepted ≡ map block_of ops
  pub linked : AreOf accepted entries

-- A course of the shard with such a history
pub record HasCourse (s : Start) (core : CoreView) (v : View) (looked : ℕ) (named : List Bool)
    (out : ℕ → Option Command) (part : ℕ → ℕ → Option Telling) (accepted : List Accepted) (entries : List Entry)
    (ops : List Op) : Type 0 where
  pub history : List Mark
  pub tells : Tells accepted entries ops history
  pub course : Course s core v looked named out part history
