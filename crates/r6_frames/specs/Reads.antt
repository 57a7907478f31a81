-- What the calls do that are for reads that hold no row.
use Rattle.std.specs.Prelude.{◌≡◌, ◌≢◌, ◌⊎◌, ℕ, ◌+◌, ◌<◌, ◌≤◌, true, List, ◌∷◌, ◌++◌, Some}
use Rattle.r6_kernels.specs.Blocks.{IsBlock}
use Rattle.r6_layout.specs.Shape.{blocks}
use Rattle.r6_layout.specs.Layout as layout
use Rattle.r6_stripe.specs.Holds.{Doubling, cell_at}
use Rattle.r6_world.specs.Tables.{put}
use Rattle.r6_world.specs.PlainArray as world
use Rattle.r6_layout.specs.PlainArray.{Block}
use Rattle.r6_world.specs.Geometries.{layout_of}
use Rattle.r6_world.specs.ShardStates as shards
use Rattle.r6_world.specs.ShardStates.{Stage, Waiting, Erred, Reading, Finished, frames, direct_buffers}
use Rattle.r6_world.specs.Changes.{Read_direct, Give_direct, Set_back, after, Allowed}
use Rattle.r6_world.specs.Steps.{Takes, Good, Taken}
use Rattle.r6_world.specs.declared.values.Op.TheVariants as op
use Rattle.r6_world.specs.declared.values.Request.{Request}
use Rattle.r6_frames.specs.declared.command.Outstanding.{Outstanding}
use Rattle.r6_frames.specs.declared.answer.Expected.{Expected}
use Rattle.r6_frames.specs.declared.answer.Expected.TheVariants as expected
use Rattle.r6_frames.specs.declared.directs.DirectRead.{DirectRead}
use Rattle.r6_frames.specs.declared.frames.HeldRow.{HeldRow}
use Rattle.r6_frames.specs.declared.frames.ServedRequest.{ServedRequest}
use Rattle.r6_frames.specs.FramesState.{FramesState}
use Rattle.r6_frames.specs.Views.{command_of, hold_at, outstanding, Rest, shard_with}
use Rattle.r6_frames.specs.Directs.{direct_at, is_free_direct, is_stopped, read_request, read_entry, read_requests}
use Rattle.r6_frames.specs.Calls.{IsAbandoned, IsAwaited, IsRequestOf, KeepsDirects, KeepsHolds, KeepsOthers}

-- a hold of the row had put out writes to both devices of the slot, and the first is out since
abbrev pub IsPassedOnIn : FramesState → (row slot : ℕ) → Type 0
IsPassedOnIn fs row slot =
    (frame : ℕ) × (h : HeldRow) × (hold_at fs.uses frame ≡ Some h) × (h.row ≡ row)
    × ((cell_at h.hold.planned.hold.cells (layout.position_at fs.geometry row slot)).doubling ≡ Doubling.Passed)

-- the hold of the frame has passed on a slot
abbrev pub PassesOne : FramesState → (frame : ℕ) → Type 0
PassesOne fs frame =
    (h : HeldRow) × (hold_at fs.uses frame ≡ Some h) × (position : ℕ)
    × ((cell_at h.hold.planned.hold.cells position).doubling ≡ Doubling.Passed)

-- or none
abbrev pub PassesNone : FramesState → (frame : ℕ) → Type 0
PassesNone fs frame = (h : HeldRow) → hold_at fs.uses frame ≡ Some h → (position : ℕ)
    → (cell_at h.hold.planned.hold.cells position).doubling ≢ Doubling.Passed

-- ---- a direct read

-- no read has the direct buffer, and it is home
abbrev pub IsFreeDirect : FramesState → (number : ℕ) → Type 0
IsFreeDirect fs number = (number < direct_buffers) × (is_free_direct (direct_at fs.directs number) ≡ true)

-- of the direct buffers this one is free no more, and no other became free
abbrev pub TakesDirect : FramesState → (number : ℕ) → FramesState → Type 0
TakesDirect old number new = (other : ℕ) → IsFreeDirect new other → (other ≢ number) × IsFreeDirect old other

-- no other became free
abbrev pub FreesDirect : FramesState → (number : ℕ) → FramesState → Type 0
FreesDirect old number new = (other : ℕ) → other ≢ number → IsFreeDirect new other → IsFreeDirect old other

-- one buffer came home: a frame's, or a direct one
abbrev pub FreesOne : FramesState → FramesState → Type 0
FreesOne old new =
    ((frame : ℕ) × KeepsOthers old frame new × KeepsDirects old new)
    ⊎ (KeepsHolds old new × (number : ℕ) × FreesDirect old number new)

-- the direct buffers have the reads that they had
abbrev pub KeepsReaders : FramesState → FramesState → Type 0
KeepsReaders old new = (number : ℕ) → (direct_at new.directs number).read ≡ (direct_at old.directs number).read

-- or no read any more
abbrev pub FewerReaders : FramesState → FramesState → Type 0
FewerReaders old new =
    (number : ℕ) (r : DirectRead) → (direct_at new.directs number).read ≡ Some r
    → (direct_at old.directs number).read ≡ Some r

-- a block of the shard, and a buffer for it
pub record IsReadable (fs : FramesState) (served : ServedRequest) (buffer : Block) : Type 0 where
  pub there : served.block < blocks fs.geometry
  pub own : layout.shard_of fs.geometry (layout.row_of fs.geometry served.block) ≡ fs.shard
  pub sized : IsBlock fs.geometry.block buffer

-- the command is that of a direct read
abbrev pub IsOfRead : FramesState → (token : ℕ) → Type 0
IsOfRead fs token = (c : Outstanding) × (outstanding fs token ≡ Some c) × (frames ≤ c.frame)

-- the command was taken and isn't answered: it is abandoned, or else that of a direct read or of a hold
abbrev pub IsExpected : FramesState → (token : ℕ) → Expected → Type 0
IsExpected fs token expected.Late = IsAwaited fs token × IsAbandoned fs token
IsExpected fs token expected.Read = IsAwaited fs token × (IsAbandoned fs token → ⊥) × IsOfRead fs token
IsExpected fs token expected.Hold = IsAwaited fs token × (IsAbandoned fs token → ⊥) × (IsOfRead fs token → ⊥)

-- the list has one more entry
pub record IsWithEntry (few : List (ℕ × shards.Request)) (entry : ℕ × shards.Request)
    (more : List (ℕ × shards.Request)) : Type 0 where
  pub before : List (ℕ × shards.Request)
  pub behind : List (ℕ × shards.Request)
  pub without : few ≡ before ++ behind
  pub with : more ≡ before ++ entry ∷ behind

abbrev pub reading : (id block : ℕ) → Stage → ℕ × shards.Request
reading id block stage = (id, record { op = world.Op.Read block; stage = stage })

-- the request stands so among those that the shard has beside its frames
abbrev pub StandsIn : Rest → ℕ × shards.Request → Type 0
StandsIn rest entry = rest.request entry.0 ≡ Some entry.1

abbrev pub with_request : Rest → ℕ × shards.Request → Rest
with_request rest entry = record rest { request = put rest.request entry.0 (Some entry.1) }

-- the request, which waited, is read directly
pub record ReadsDirectly (old : FramesState) (number : ℕ) (served : ServedRequest) (new : FramesState) : Type 0 where
  pub requests : IsWithEntry (read_requests old) (reading served.id served.block (Reading old.commands.next))
      (read_requests new)
  pub same : (new.geometry ≡ old.geometry) × (new.shard ≡ old.shard)
  pub generation : ℕ
  pub shard : (rest : Rest) → StandsIn rest (reading served.id served.block Waiting)
      → let l = layout_of old.geometry in
      let change = Read_direct (frames + number) served.id served.block generation in
      Allowed l old.shard (shard_with rest old) change
      × (shard_with (with_request rest (reading served.id served.block (Reading old.commands.next))) new
      ≡ after l (shard_with rest old) change)

-- the good completion of its command is taken, and the request has the block in its buffer
pub record AnswersRead (old : FramesState) (token : ℕ) (block : Block) (request : Request) (new : FramesState)
    : Type 0 where
  pub number : ℕ
  pub read : DirectRead
  pub there : (direct_at old.directs number).read ≡ Some read
  pub own : read.token ≡ token
  pub is : request ≡ record (read_request read) { op = op.Read read.served.block block }
  pub requests : IsWithEntry (read_requests new) (read_entry read (Reading token)) (read_requests old)
  pub same : (new.geometry ≡ old.geometry) × (new.shard ≡ old.shard)
  pub shard : (rest : Rest) → StandsIn rest (read_entry read (Reading token))
      → let l = layout_of old.geometry in
      let c = command_of old.slots old.next_taken token in
      (own : Outstanding) × (outstanding old token ≡ Some own)
      × Takes l (shard_with rest old) token (Good block) Taken
      (Give_direct token (c own) read.served.id read.served.block block)
      × Allowed l old.shard (shard_with rest old) (Give_direct token (c own) read.served.id read.served.block block)
      × (shard_with (with_request rest (read_entry read (Finished (world.Reply.Data block)))) new
      ≡ after l (shard_with rest old) (Give_direct token (c own) read.served.id read.served.block block))

-- a read error of its command is taken: the request comes back with the caller's buffer, and is to be held
pub record SetsBack (old : FramesState) (token : ℕ) (request : Request) (new : FramesState) : Type 0 where
  pub number : ℕ
  pub read : DirectRead
  pub there : (direct_at old.directs number).read ≡ Some read
  pub own : read.token ≡ token
  pub is : request ≡ read_request read
  pub of : IsRequestOf old request
  pub requests : IsWithEntry (read_requests new) (read_entry read (Reading token)) (read_requests old)
  pub same : (new.geometry ≡ old.geometry) × (new.shard ≡ old.shard)
  pub shard : (rest : Rest) → StandsIn rest (read_entry read (Reading token))
      → let l = layout_of old.geometry in
      let c = command_of old.slots old.next_taken token in
      (own : Outstanding) × (outstanding old token ≡ Some own) × ((c own).taken ≡ true)
      × Allowed l old.shard (shard_with rest old) (Set_back token (c own) read.served.id read.served.block)
      × (shard_with (with_request rest (read_entry read Erred)) new
      ≡ after l (shard_with rest old) (Set_back token (c own) read.served.id read.served.block))

-- ---- direct reads whose commands are gone or abandoned

-- the read waits to be handed back
abbrev pub IsStoppedAt : FramesState → (number : ℕ) → DirectRead → Type 0
IsStoppedAt fs number r = ((direct_at fs.directs number).read ≡ Some r) × (is_stopped fs.slots r ≡ true)

abbrev pub NoneStopped : FramesState → Type 0
NoneStopped fs = (number : ℕ) (r : DirectRead) → IsStoppedAt fs number r → ⊥

-- of those that wait it is the one with the lowest token
abbrev pub IsFirstStopped : FramesState → (number : ℕ) → DirectRead → Type 0
IsFirstStopped fs number r =
    IsStoppedAt fs number r
    × ((other : ℕ) (s : DirectRead) → IsStoppedAt fs other s → r.token ≤ s.token)

-- the first of them is handed back: it waits still, with its buffer, and the shard is as it was
pub record HandsBack (old : FramesState) (request : Request) (new : FramesState) : Type 0 where
  pub number : ℕ
  pub read : DirectRead
  pub lowest : IsFirstStopped old number read
  pub is : request ≡ read_request read
  pub own : IsRequestOf old request
  pub requests : IsWithEntry (read_requests new) (read_entry read Waiting) (read_requests old)
  pub same : (new.geometry ≡ old.geometry) × (new.shard ≡ old.shard)
  pub shard : (rest : Rest) → shard_with rest new ≡ shard_with rest old
