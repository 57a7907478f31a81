-- Reads that hold no row, each with one of the direct buffers.
use Rattle.std.specs.Prelude.{◌≡◌, ℕ, ◌+◌, ◌<◌, ◌≤◌, ◌&&◌, is_none, is_some, Bool, true, false, List, [], ◌∷◌, ◌++◌, length, slice_index_or, Option, Some, None}
use Rattle.std.specs.FinMap as map
use Rattle.r6_kernels.specs.Blocks.{IsBlock, zeros}
use Rattle.r6_layout.specs.Shape.{Shape, blocks}
use Rattle.r6_layout.specs.Layout as layout
use Rattle.r6_world.specs.PlainArray as world
use Rattle.r6_world.specs.ShardStates as shards
use Rattle.r6_world.specs.ShardStates.{Stage, Waiting, Reading, InSyncFor, frames, direct_buffers}
use Rattle.r6_world.specs.Layouts.{IsRowOf}
use Rattle.r6_world.specs.Geometries.{layout_of}
use Rattle.r6_world.specs.declared.values.Op.TheVariants as op
use Rattle.r6_world.specs.declared.values.Request.{Request}
use Rattle.r6_frames.specs.declared.command.Action.TheVariants as action
use Rattle.r6_frames.specs.declared.command.Outstanding.{Outstanding}
use Rattle.r6_frames.specs.declared.directs.Direct.{Direct}
use Rattle.r6_frames.specs.declared.directs.DirectRead.{DirectRead}
use Rattle.r6_frames.specs.declared.slots.Slot.{Slot}
use Rattle.r6_frames.specs.Slots.{slot_in, states_of, is_abandoned, is_gone}
use Rattle.r6_frames.specs.FramesState.{FramesState, Commands}

-- what is no direct buffer is away
abbrev pub no_direct : Direct
no_direct = record { read = None; buffer = None }

abbrev pub direct_at : List Direct → ℕ → Direct
direct_at directs number = slice_index_or directs number no_direct

-- its buffer is home
abbrev pub returned : Direct → List ℕ → Direct
returned d buffer = record { read = d.read; buffer = Some buffer }

-- a read has it, and no read has it any more
abbrev pub lent_for : DirectRead → Direct
lent_for read = record { read = Some read; buffer = None }

abbrev pub left_by : Direct → Direct
left_by d = record { read = None; buffer = d.buffer }

-- a read can have it
abbrev pub is_free_direct : Direct → Bool
is_free_direct d = is_none d.read && is_some d.buffer

-- ---- requests

-- the request, with the caller's buffer
abbrev pub read_request : DirectRead → Request
read_request r = record { id = r.served.id; op = op.Read r.served.block r.buffer }

-- its command was abandoned, or answered by an error
abbrev pub is_stopped : List Slot → DirectRead → Bool
is_stopped slots r = is_gone (slot_in slots r.slot) r.token r.generation

-- then the request waits to be handed back
abbrev pub stage_of : (stopped : Bool) → (token : ℕ) → Stage
stage_of true token = Waiting
stage_of false token = Reading token

abbrev pub read_entry : DirectRead → Stage → ℕ × shards.Request
read_entry r stage = (r.served.id, record { op = world.Op.Read r.served.block; stage = stage })

abbrev pub read_by : List Slot → Option DirectRead → List (ℕ × shards.Request)
read_by slots None = []
read_by slots (Some r) = read_entry r (stage_of (is_stopped slots r) r.token) ∷ []

abbrev pub reads_from : List Slot → List Direct → List (ℕ × shards.Request)
reads_from slots [] = []
reads_from slots (d ∷ directs) = read_by slots d.read ++ reads_from slots directs

-- the requests that are read directly, each with its number, in the order of the direct buffers
abbrev pub read_requests : FramesState → List (ℕ × shards.Request)
read_requests fs = reads_from fs.slots fs.directs

-- ---- what is true of them

-- a direct buffer as it is made
abbrev pub unused : (size : ℕ) → Direct
unused size = record { read = None; buffer = Some (zeros size) }

abbrev pub home_of : Option (List ℕ) → ℕ
home_of None = 0
home_of (Some block) = 1

-- how many direct buffers are home
abbrev pub count_home_directs : List Direct → ℕ
count_home_directs [] = 0
count_home_directs (d ∷ directs) = home_of d.buffer + count_home_directs directs

-- the read is for a block of the shard, with a buffer of one block
pub record IsReadOf (shape : Shape) (shard : ℕ) (commands : Commands) (r : DirectRead) : Type 0 where
  pub there : r.served.block < blocks shape
  pub own : IsRowOf (layout_of shape) shard (layout.row_of shape r.served.block)
  pub slot : r.slot < shape.slots
  pub sized : IsBlock shape.block r.buffer
  pub given : r.token < commands.next

-- the command is that of the read
pub record IsCommandFor (commands : Commands) (number : ℕ) (r : DirectRead) (c : Outstanding) : Type 0 where
  pub there : map.get commands.entries r.token ≡ Some c
  pub frame : c.frame ≡ frames + number
  pub slot : c.slot ≡ r.slot
  pub generation : c.generation ≡ r.generation

-- the command has the direct buffer of the number, for a read unless it is abandoned
pub record IsOfDirect (slots : List Slot) (directs : List Direct) (token : ℕ) (c : Outstanding) (number : ℕ)
    : Type 0 where
  pub below : number < direct_buffers
  pub frame : c.frame ≡ frames + number
  pub reads : c.action ≡ action.Read
  pub away : (direct_at directs number).buffer ≡ None
  pub read : is_abandoned slots token c ≡ false
      → (r : DirectRead) × ((direct_at directs number).read ≡ Some r) × (r.token ≡ token) × (r.slot ≡ c.slot)
      × (r.generation ≡ c.generation)

pub record AreDirects (shape : Shape) (shard : ℕ) (slots : List Slot) (commands : Commands) (directs : List Direct)
    : Type 0 where
  pub count : length directs ≡ direct_buffers
  pub sized : (number : ℕ) (block : List ℕ) → (direct_at directs number).buffer ≡ Some block
      → length block ≡ shape.block
  pub reads : (number : ℕ) (r : DirectRead) → (direct_at directs number).read ≡ Some r
      → IsReadOf shape shard commands r
  -- a read has its command until that is abandoned
  pub going : (number : ℕ) (r : DirectRead) → (direct_at directs number).read ≡ Some r → is_stopped slots r ≡ false
      → (c : Outstanding) × IsCommandFor commands number r c
  -- and until then its device is in sync for its row
  pub synced : (number : ℕ) (r : DirectRead) → (direct_at directs number).read ≡ Some r → is_stopped slots r ≡ false
      → InSyncFor (states_of slots r.slot) (layout.row_of shape r.served.block) r.generation
  -- a direct buffer is away exactly while a command has it, and one command has it
  pub of_direct : (token : ℕ) (c : Outstanding) → map.get commands.entries token ≡ Some c → frames ≤ c.frame
      → (number : ℕ) × IsOfDirect slots directs token c number
  pub there : (number : ℕ) → number < direct_buffers → (direct_at directs number).buffer ≡ None
      → (token : ℕ) × (c : Outstanding) × (map.get commands.entries token ≡ Some c) × (c.frame ≡ frames + number)
  pub alone : (token other : ℕ) (c d : Outstanding) → map.get commands.entries token ≡ Some c
      → map.get commands.entries other ≡ Some d → frames ≤ c.frame → c.frame ≡ d.frame → token ≡ other
