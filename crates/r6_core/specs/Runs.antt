-- Runs of cores, which are runs of the world.
use Rattle.std.specs.Prelude.{◌≡◌, ℕ, ◌+◌, ◌<◌, List, [], ◌∷◌, map, false, None}
use Rattle.r6_layout.specs.Shape.{Shape, IsShape}
use Rattle.r6_world.specs.Tables.{put}
use Rattle.r6_world.specs.PlainArray.{Array}
use Rattle.r6_world.specs.Layouts.{Layout}
use Rattle.r6_world.specs.Geometries.{layout_of}
use Rattle.r6_world.specs.Registers.{Snapshot, RegisterCall, Told}
use Rattle.r6_world.specs.ShardStates as shards
use Rattle.r6_world.specs.ShardStates.{Command, Counts, IsLive}
use Rattle.r6_world.specs.Steps as steps
use Rattle.r6_world.specs.Steps.{Event, Take_call}
use Rattle.r6_world.specs.Worlds as worlds
use Rattle.r6_world.specs.Worlds.{World, Devices, MayCome, Possible, Run, IsAnswer, as_made, next, started}
use Rattle.r6_world.specs.Claims.{IsLawfulStart, IsQuiet, AllAnswered}
use Rattle.r6_world.specs.Laws.{ShardHolds, ArrayHolds, Explained, AtEach, IsOfOutside, IsByAnyone, at_start}
use Rattle.r6_world.specs.Counting.{AreCounted, IsCounted, changes_in, in_all, started_by, skipped_by, checks_held, dropped}
use Rattle.r6_world.specs.Witness.{after_all}
use Rattle.r6_world.specs.Sequential.{OneAtATime, FewOut, PlainThroughout}
use Rattle.r6_core.specs.Shards.{CoreView, Step, world_shard}
use Rattle.r6_core.specs.Effects.{IsMade}

-- One thing that happens. A call that is refused changes nothing, and isn't one
pub data Happening : Type 0 where
  -- a call of a shard's core, and the state that it leaves
  Call : (shard : ℕ) → Event → CoreView → Happening
  -- a device performs a command
  Perform : (shard token : ℕ) → Command → Happening
  -- a shard's next call is taken from its core, made at the register, and the core is told the answer
  Tell : (shard : ℕ) → shards.Call → Told → (middle new : CoreView) → Happening
  -- a call at the register from outside
  Outside : RegisterCall → Happening

-- with what stands on parts of devices that have answered an error
pub record Moment : Type 0 where
  pub happening : Happening
  pub noise : Devices

-- as the world has it
abbrev pub in_world : Happening → worlds.Happening
in_world (Call n event new) = worlds.Core n event (world_shard new)
in_world (Perform n token c) = worlds.Perform n token c
in_world (Tell n call answer middle new) = worlds.Tell n call answer (world_shard middle) (world_shard new)
in_world (Outside call) = worlds.Outside call

-- a moment of cores as one of the world: each core is the shard that it stands for, and the noise is the same
abbrev pub moment_of : Moment → worlds.Moment
moment_of m = record { happening = in_world m.happening; noise = m.noise }

-- the cores, by shard, after it
abbrev pub cores_after : (ℕ → CoreView) → Happening → ℕ → CoreView
cores_after cores (Call n event new) = put cores n new
cores_after cores (Perform n token c) = cores
cores_after cores (Tell n call answer middle new) = put cores n new
cores_after cores (Outside call) = cores

-- What may happen next, where these cores are ours and these calls come at the register from outside: a call of one of
-- ours that keeps its contract, with the world's completions and the register as it is and answers; and what the
-- devices and the register's other callers may do
abbrev pub MayHappen : Layout → (Ours : ℕ → Type 0) → (Comes : RegisterCall → Type 0) → World → (ℕ → CoreView)
    → Happening → Type 0
MayHappen l Ours Comes w cores (Call n event new) = Ours n × MayCome w n event × Step (cores n) event new
MayHappen l Ours Comes w cores (Perform n token c) = Ours n × Possible l Comes w (worlds.Perform n token c)
MayHappen l Ours Comes w cores (Tell n call answer middle new) =
    Ours n × IsAnswer l w.register (as_made n call) answer × Step (cores n) (Take_call call) middle
    × Step middle (steps.Told call answer) new
MayHappen l Ours Comes w cores (Outside call) = Comes call

-- a run of cores: each of these moments may happen in the world and with the cores that the moments before it leave
abbrev pub CoresRun : Layout → (Ours : ℕ → Type 0) → (Comes : RegisterCall → Type 0) → World → (ℕ → CoreView)
    → List Moment → Type 0
CoresRun l Ours Comes w cores [] = record {}
CoresRun l Ours Comes w cores (m ∷ moments) =
    MayHappen l Ours Comes w cores m.happening
    × CoresRun l Ours Comes (next l w (moment_of m)) (cores_after cores m.happening) moments

-- each of our cores is as Core::new makes it for its shard, all with the same copy of the register; cores that aren't
-- ours may be any
abbrev pub AreMade : Shape → (Ours : ℕ → Type 0) → Snapshot → (ℕ → CoreView) → Type 0
AreMade shape Ours r cores = (n : ℕ) → Ours n → IsMade shape r n (cores n)

-- the world's shards are the cores, at each moment
abbrev pub AreShards : (Ours : ℕ → Type 0) → World → (ℕ → CoreView) → Type 0
AreShards Ours w cores = (n : ℕ) → Ours n → w.shard n ≡ world_shard (cores n)

abbrev pub StayShards : Layout → (Ours : ℕ → Type 0) → World → (ℕ → CoreView) → List Moment → Type 0
StayShards l Ours w cores [] = AreShards Ours w cores
StayShards l Ours w cores (m ∷ moments) =
    AreShards Ours w cores × StayShards l Ours (next l w (moment_of m)) (cores_after cores m.happening) moments

-- every run of these cores, made at one register, is a run of the world, whose shards they are
abbrev pub AreRuns : Shape → (Ours : ℕ → Type 0) → (Comes : RegisterCall → Type 0) → Type 0
AreRuns shape Ours Comes =
    (r : Snapshot) (device : Devices) (cores : ℕ → CoreView) → AreMade shape Ours r cores
    → (moments : List Moment)
    → CoresRun (layout_of shape) Ours Comes (started (layout_of shape) r device) cores moments
    → Run (layout_of shape) Comes (started (layout_of shape) r device) (map moment_of moments)
    × StayShards (layout_of shape) Ours (started (layout_of shape) r device) cores moments

-- the cores of all shards, or the core of one
abbrev pub IsShard : Shape → ℕ → Type 0
IsShard shape n = n < shape.shards

abbrev pub IsThis : ℕ → ℕ → Type 0
IsThis n m = m ≡ n

-- So it is of the cores of all shards, beside calls from outside
abbrev pub RunsOfCores : Type 0
RunsOfCores = (shape : Shape) → IsShape shape → AreRuns shape (IsShard shape) IsOfOutside

-- and of the core of one shard, beside any calls at the register, whoever makes them
abbrev pub RunsOfOneCore : Type 0
RunsOfOneCore = (shape : Shape) → IsShape shape → (n : ℕ) → n < shape.shards → AreRuns shape (IsThis n) IsByAnyone

-- a law of every run of the cores of all shards from every lawful start
abbrev pub OfEveryRunOfCores : (Layout → Array → World → List worlds.Moment → Type 0) → Type 0
OfEveryRunOfCores Law =
    (shape : Shape) → IsShape shape → (r : Snapshot) (device : Devices) (array : Array)
    → IsLawfulStart (layout_of shape) r device array
    → (cores : ℕ → CoreView) → AreMade shape (IsShard shape) r cores
    → (moments : List Moment)
    → CoresRun (layout_of shape) (IsShard shape) IsOfOutside (started (layout_of shape) r device) cores moments
    → Law (layout_of shape) array (started (layout_of shape) r device) (map moment_of moments)

-- Every run of cores is explained by requests that act one by one on one plain array, and at each moment the rows, the
-- replies and the rebuilt slots are as the array law claims
abbrev pub ArrayOfCores : Type 0
ArrayOfCores =
    OfEveryRunOfCores (λ l array start moments. ArrayHolds l start start (at_start array)
    × Explained l (ArrayHolds l) start (at_start array) moments)

-- and whenever a core is quiet, every request that it accepted has its reply ready, or it was taken
abbrev pub QuietOfCores : Type 0
QuietOfCores =
    OfEveryRunOfCores
    (λ l array start moments. AtEach l (λ w. (n : ℕ) → n < l.shards → IsQuiet w n → AllAnswered w n) start moments)

-- and what the counts of each core say of the checks and repairs that have ended in the run, and of the rows passed
-- over
abbrev pub CountsOfCores : Type 0
CountsOfCores = OfEveryRunOfCores AreCounted

-- Of one core alone, with one request at a time, each submitted when the core is quiet, and at most two slots out
-- throughout: the replies are those of the plain array that runs the requests in the order of their submission
abbrev pub SequentialOfCores : Type 0
SequentialOfCores =
    OfEveryRunOfCores (λ l array start moments. l.shards ≡ 1 → OneAtATime l start moments → FewOut l start moments
    → PlainThroughout l start (at_start array) moments)

-- The core of one shard, whatever else happens at the register: its thread knows no more of the others. Its runs are
-- explained by requests that act one by one on one plain array, and at each moment its rows and replies are that
-- array's
abbrev pub ShardOfCores : Type 0
ShardOfCores =
    (shape : Shape) → IsShape shape → (n : ℕ) → n < shape.shards
    → (r : Snapshot) (device : Devices) (array : Array) → IsLawfulStart (layout_of shape) r device array
    → (core : CoreView) → IsMade shape r n core
    → (moments : List Moment)
    → CoresRun (layout_of shape) (IsThis n) IsByAnyone (started (layout_of shape) r device) (λ m. core) moments
    → let start = started (layout_of shape) r device in
    ShardHolds (layout_of shape) n start start (at_start array)
    × Explained (layout_of shape) (ShardHolds (layout_of shape) n) start (at_start array) (map moment_of moments)

-- ---- the counts of one core

-- the cores behind these moments
abbrev pub cores_behind : (ℕ → CoreView) → List Moment → ℕ → CoreView
cores_behind cores [] = cores
cores_behind cores (m ∷ moments) = cores_behind (cores_after cores m.happening) moments

-- the turns of a core's checks and repairs that were answered Started or Skipped: each has passed a row
abbrev pub rows_passed : ℕ → List Moment → ℕ
rows_passed n moments = in_all (started_by n) (map moment_of moments) + in_all (skipped_by n) (map moment_of moments)

-- the rows that were counted: by class, or as skipped
abbrev pub rows_counted : Counts → ℕ
rows_counted k = k.consistent + k.wrong_p + k.wrong_q + k.wrong_data + k.many + k.skipped

-- of one core behind such a run, which began with this start
pub record OneCoreCounts (l : Layout) (n : ℕ) (start : World) (moments : List Moment) (core : CoreView) : Type 0 where
  -- each count is the number of what ended in the run so, as in the law of all shards
  pub is_shard : (after_all l start (map moment_of moments)).shard n ≡ world_shard core
  pub counted : IsCounted l IsByAnyone n start (map moment_of moments)
  -- each row that was passed is counted, held yet, or was dropped when the core saw that the array failed
  pub passed : (run : Run l IsByAnyone start (map moment_of moments))
      → rows_passed n moments
      ≡ rows_counted (world_shard core).counts + checks_held (world_shard core)
      + dropped l (start.shard n) (changes_in l IsByAnyone n start (map moment_of moments) run)
  -- until then none is dropped
  pub unfailed : (world_shard core).saw_failed ≡ false
      → rows_passed n moments ≡ rows_counted (world_shard core).counts + checks_held (world_shard core)
  -- and of a live core with no command out each row that was passed is counted
  pub at_rest : IsLive l (world_shard core)
      → ((token : ℕ) → (world_shard core).command token ≡ None)
      → rows_passed n moments ≡ rows_counted (world_shard core).counts

-- The counts of the core of one shard, whatever else happens at the register
abbrev pub CountsOfOneCore : Type 0
CountsOfOneCore =
    (shape : Shape) → IsShape shape → (n : ℕ) → n < shape.shards
    → (r : Snapshot) (device : Devices) (array : Array) → IsLawfulStart (layout_of shape) r device array
    → (core : CoreView) → IsMade shape r n core
    → (moments : List Moment)
    → CoresRun (layout_of shape) (IsThis n) IsByAnyone (started (layout_of shape) r device) (λ m. core) moments
    → OneCoreCounts (layout_of shape) n (started (layout_of shape) r device) moments
    (cores_behind (λ m. core) moments n)
