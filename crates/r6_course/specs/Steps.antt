-- How the course of a shard begins, and how it goes on: by calls of its core, by commands that are taken and later
-- answered, and by calls at the register, others' and its own (this project's own).
use Rattle.std.specs.Prelude.{◌≡◌, ◌<◌, ◌≤◌, ◌⊎◌, ℕ, List, Bool, true, false, Option, Some, None}
use Rattle.r6_dev.specs.History.{Telling, Reads, Writes, Misses, Answers}
use Rattle.r6_health.specs.declared.history.HistoryEntry.{HistoryEntry}
use Rattle.r6_health.specs.declared.history.View.{View}
use Rattle.r6_health.specs.Histories.{Name, held, calls_by}
use Rattle.r6_health.specs.Views.{Looks, Answered}
use Rattle.r6_world.specs.Tables.{put, put_in}
use Rattle.r6_layout.specs.PlainArray.{Block}
use Rattle.r6_world.specs.Registers.{Snapshot, Told as Answer}
use Rattle.r6_world.specs.ShardStates.{Shard, Command, Transfer, Fetch, Store, Storing, Call}
use Rattle.r6_world.specs.Steps.{Event, Submit, Submit_all, Deliver, Good, Error, Read_error, Receipt, Taken, Look, Take_command, No_command, Take_call}
use Rattle.r6_world.specs.Steps.{No_call, Told, Take_reply, No_reply, Turn_started, Turn_skipped, Step}
use Rattle.r6_world.specs.Worlds.{Devices, as_made}
use Rattle.r6_course.specs.Courses.{Start, IsLawful, Stand, Tells, AreParts, Follows, is_named, first_stand, marked, looked_by}

-- parts that tell what the devices have at the start, and no slot is named
abbrev pub CoursesBegin : Type 0
CoursesBegin =
    (s : Start) (by : Name) (part : ℕ → ℕ → Option Telling) (named : List Bool)
    → AreParts s s.device (λ slot generation. false) part → ((slot : ℕ) → is_named named slot ≡ false)
    → Follows s (record (first_stand s by part) { named = named })

-- calls of the core that go with no device and with no call at the register; a look sees the register as it was last
-- seen
abbrev pub IsPlainCall : Snapshot → Event → Type 0
IsPlainCall register (Submit op id) = record {}
IsPlainCall register (Submit_all ops first) = record {}
IsPlainCall register (Look seen) = seen ≡ register
IsPlainCall register (Turn_started task) = record {}
IsPlainCall register (Turn_skipped task row) = record {}
IsPlainCall register No_command = record {}
IsPlainCall register No_call = record {}
IsPlainCall register (Take_reply id reply) = record {}
IsPlainCall register No_reply = record {}
IsPlainCall register event = ⊥

abbrev pub CallsGoOn : Type 0
CallsGoOn =
    (s : Start) → IsLawful s → (at : Stand) (event : Event) (new : Shard) → Follows s at
    → IsPlainCall at.register event → Step s.layout s.number at.shard event new
    → Follows s (record at { shard = new; looked = looked_by event at.looked; history = marked event at.history })

-- what a part does with a command: a read gives the block, a write puts the command's own
abbrev pub Does : Telling → Transfer → (row : ℕ) → Block → Telling → Type 0
Does telling Fetch row block new = Answers telling (Reads row block) new
Does telling (Store new_data) row block new = Answers telling (Writes row new_data) new
Does telling Storing row block new = ⊥

-- the other parts are as they were
abbrev pub OthersAreKept : (slot generation : ℕ) → (old new : ℕ → ℕ → Option Telling) → Type 0
OthersAreKept slot generation old new =
    (other g : ℕ) → ((other ≡ slot) × (g ≡ generation) → ⊥) → new other g ≡ old other g

-- its part answered a read of the row by a read error, and has every block as before
abbrev pub MissesRead : (slot generation row : ℕ) → (old new : ℕ → ℕ → Option Telling) → Type 0
MissesRead slot generation row old new =
    (before : Telling) × (after : Telling) × (old slot generation ≡ Some before) × (new slot generation ≡ Some after)
    × Answers before (Misses row) after

-- no slot is named but those of before, and that of a command whose error, a read error too, the core took
abbrev pub NamesIt : (slot : ℕ) → Receipt → (old new : List Bool) → Type 0
NamesIt slot receipt old new =
    (other : ℕ) → is_named new other ≡ true → (is_named old other ≡ true) ⊎ ((other ≡ slot) × (receipt ≡ Taken))

-- a command is taken, and from then on it is out
abbrev pub TakingGoesOn : Type 0
TakingGoesOn =
    (s : Start) → IsLawful s → (at : Stand) (token : ℕ) (c : Command) (new : Shard) → Follows s at
    → Step s.layout s.number at.shard (Take_command token c) new
    → Follows s (record at { shard = new; out = put at.out token (Some c) })

-- The good completion of a command that is out is delivered: its part has done what the command says. Nothing is asked
-- of when: the run that leads there has it performed just before, and whatever other parts do meanwhile, the devices
-- hold what all parts tell
abbrev pub AnsweringGoesOn : Type 0
AnsweringGoesOn =
    (s : Start) → IsLawful s → (at : Stand) (token : ℕ) (c : Command) (block : Block) (receipt : Receipt) (new : Shard)
    (before after : Telling) → Follows s at → at.out token ≡ Some c
    → Step s.layout s.number at.shard (Deliver token (Good block) receipt) new
    → at.part c.slot c.generation ≡ Some before → Does before c.transfer c.row block after
    → Follows s (record at {
      shard = new;
      out = put at.out token None;
      part = put_in at.part c.slot c.generation (Some after);
    })

-- the error of a command that is out is delivered, whatever its part did and tells from then on
abbrev pub LosingGoesOn : Type 0
LosingGoesOn =
    (s : Start) → IsLawful s → (at : Stand) (token : ℕ) (c : Command) (receipt : Receipt) (new : Shard)
    (part : ℕ → ℕ → Option Telling) (named : List Bool) → Follows s at → at.out token ≡ Some c
    → Step s.layout s.number at.shard (Deliver token Error receipt) new
    → OthersAreKept c.slot c.generation at.part part → NamesIt c.slot receipt at.named named
    → Follows s (record at { shard = new; named = named; out = put at.out token None; part = part })

-- the read error of a command that is out is delivered: a read leaves its part as it was, and any other part tells
-- what it will from then on
abbrev pub ErringGoesOn : Type 0
ErringGoesOn =
    (s : Start) → IsLawful s → (at : Stand) (token : ℕ) (c : Command) (receipt : Receipt) (new : Shard)
    (part : ℕ → ℕ → Option Telling) (named : List Bool) → Follows s at → at.out token ≡ Some c
    → Step s.layout s.number at.shard (Deliver token Read_error receipt) new
    → OthersAreKept c.slot c.generation at.part part
    → (c.transfer ≡ Fetch → MissesRead c.slot c.generation c.row at.part part)
    → NamesIt c.slot receipt at.named named
    → Follows s (record at { shard = new; named = named; out = put at.out token None; part = part })

-- commands go only to devices whose attach the core has looked at
abbrev pub SeenLaw : Type 0
SeenLaw =
    (s : Start) → IsLawful s → (at : Stand) (token : ℕ) (c : Command) → Follows s at
    → at.shard.command token ≡ Some c → c.generation ≤ at.looked

-- a pass knows the register as the shard last saw it: it is the shard's own, of this name, which has made its calls and
-- no others
pub record Knows (s : Start) (v : View) (by : Name) (log : List HistoryEntry) (register : Snapshot) : Type 0 where
  pub slots : v.start.slots ≡ s.layout.slots
  pub shards : v.start.shards ≡ s.layout.shards
  pub name : v.name ≡ by
  pub seen : v.seen ≡ log
  pub now : held v.start v.seen ≡ register
  pub own : calls_by by v.seen ≡ v.mine

-- the stand once the pass knows this
abbrev pub seen_by : Stand → View → Stand
seen_by at w = record at { log = w.seen; register = held w.start w.seen }

-- the register is seen as it is now: perhaps others made calls there
abbrev pub OthersGoOn : Type 0
OthersGoOn =
    (s : Start) → IsLawful s → (at : Stand) (v w : View) → Follows s at → Knows s v at.by at.log at.register → Looks v w
    → Follows s (seen_by at w) × Knows s w at.by w.seen (held w.start w.seen)

-- the shard makes its next call, perhaps after others', and is told the answer
abbrev pub TellingGoesOn : Type 0
TellingGoesOn =
    (s : Start) → IsLawful s → (at : Stand) (v w : View) (call : Call) (answer : Answer) (middle new : Shard)
    → Follows s at → Knows s v at.by at.log at.register → Step s.layout s.number at.shard (Take_call call) middle
    → Step s.layout s.number middle (Told call answer) new → Answered v (as_made s.number call) answer w
    → Follows s (record (seen_by at w) { shard = new }) × Knows s w at.by w.seen (held w.start w.seen)

-- the other devices have the same blocks
abbrev pub OthersAreAlike : (slot generation : ℕ) → Devices → Devices → Type 0
OthersAreAlike slot generation old new =
    (other g : ℕ) → ((other ≡ slot) × (g ≡ generation) → ⊥) → new other g ≡ old other g

-- A part is handed in of a device that the core hasn't looked at yet, though it may be attached already. The world has
-- the blocks of devices to come from the start on, and until the core sees the attach they play no part: whatever they
-- were taken to be, the same leads there from the start where they are what the part tells
abbrev pub HandingGoesOn : Type 0
HandingGoesOn =
    (s : Start) → IsLawful s → (device : Devices) (at : Stand) (slot generation : ℕ) (telling : Telling) → Follows s at
    → at.looked < generation → OthersAreAlike slot generation s.device device
    → Tells s (device slot generation) telling
    → Follows (record s { device = device }) (record at { part = put_in at.part slot generation (Some telling) })

-- parts are let go
abbrev pub LettingGoesOn : Type 0
LettingGoesOn =
    (s : Start) (at : Stand) (part : ℕ → ℕ → Option Telling) → Follows s at
    → ((slot generation : ℕ) (telling : Telling) → part slot generation ≡ Some telling
    → at.part slot generation ≡ Some telling)
    → Follows s (record at { part = part })
