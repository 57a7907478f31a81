-- With one or two slots lost a resync is no help, since a block that is lost is what P and Q say. A journal is: before
-- a device performs a write of a batch, the batch stands in the journal, and a start performs again what stands there
-- (mdadm(8), `--consistency-policy=journal`: data and parity of a stripe are written to the journal first).
use Rattle.std.specs.Prelude.{◌≡◌, ◌≢◌, ℕ, ◌<◌, ◌⊎◌, List, Bool, true, false, Some, None}
use Rattle.r6_stripe.specs.Holds.{cell_at}
use Rattle.r6_stripe.specs.Holds.Kind.{Write}
use Rattle.r6_stripe.specs.Holds.Writing.{Sent, Confirmed}
use Rattle.r6_layout.specs.PlainArray.{Block}
use Rattle.r6_world.specs.PlainArray.{Array, Plain, Write as Write_of}
use Rattle.r6_world.specs.Layouts.{Layout}
use Rattle.r6_world.specs.Registers.{Snapshot}
use Rattle.r6_world.specs.Tasks.{Hold}
use Rattle.r6_world.specs.ShardStates.{Held, Command, Transfer, Fetch, Store, frames}
use Rattle.r6_world.specs.Worlds.{World}
use Rattle.r6_world.specs.Claims.{IsLawfulStart}
use Rattle.r6_world.specs.Laws.{OfEveryRun, at_start}
use Rattle.r6_world.specs.Witness.{after_all}
use Rattle.r6_crash.specs.Crashes.{Remains, IsServed, IsRegisterOf, held_by, as_first, plain_after_all}
use Rattle.r6_crash.specs.Caches.{IsOpenWrite}
use Rattle.r6_crash.specs.Replays.{HasNew, ArePutOut}

-- ---- what is out of a batch

-- a write of a hold to this device's row is put out, and neither answered nor abandoned; it was taken, or is still in
-- the core
pub record IsPut (w : World) (n slot generation row : ℕ) : Type 0 where
  pub token : ℕ
  pub frame : ℕ
  pub kept : Transfer
  pub taken : Bool
  pub copy : Bool
  pub here : (w.shard n).command token
      ≡ Some (record {
        frame = frame;
        slot = slot;
        generation = generation;
        row = row;
        transfer = kept;
        taken = taken;
        abandoned = false;
        copy = copy;
      })
  pub of_hold : frame < frames
  pub is_write : kept ≢ Fetch

-- it was taken
abbrev pub IsTaken : (w : World) (n slot generation row : ℕ) → IsPut w n slot generation row → Type 0
IsTaken w n slot generation row put = (flying : Command) × (w.flight n put.token ≡ Some flying)

-- it was taken, with this block
pub record IsOut (w : World) (n slot generation row : ℕ) (b : Block) : Type 0 where
  pub put : IsPut w n slot generation row
  pub flying : Command
  pub flies : w.flight n put.token ≡ Some flying
  pub carries : flying.transfer ≡ Store b

-- the hold's own write to the slot is put out, and not confirmed
abbrev pub IsSent : Layout → Hold → (slot : ℕ) → Type 0
IsSent l h slot = (cell_at h.course.cells (l.position h.row slot)).writing ≡ Sent

-- no hold of the row has sent its own write to the slot: what it has put out there is a fix
abbrev pub IsFix : Layout → World → (n slot row : ℕ) → Type 0
IsFix l w n slot row = (f : ℕ) (h : Hold) → (w.shard n).frame f ≡ Some h → h.row ≡ row → IsSent l h slot → ⊥

-- ---- what the law asks of cores

-- each write that a hold has sent to a device in sync, and that isn't confirmed, is out, in the core or outside
abbrev pub SentIsPut : Layout → (lost : ℕ → Bool) → (device_of : ℕ → ℕ) → World → Type 0
SentIsPut l lost device_of w =
    (n f : ℕ) (h : Hold) (slot : ℕ) → n < l.shards → (w.shard n).frame f ≡ Some h → slot < l.slots → lost slot ≡ false
    → IsSent l h slot → IsPut w n slot (device_of slot) h.row

-- all writes of a hold of which a new block was computed are put out: they are one batch
abbrev pub BatchesAreWhole : Layout → World → Type 0
BatchesAreWhole l w =
    (n f : ℕ) (h : Hold) → n < l.shards → (w.shard n).frame f ≡ Some h → HasNew h.course → ArePutOut h.course

-- ---- what it asks of a journal

-- Which rows' batches stand in the journal when the run ends. A row's batch is all writes of the hold that writes it,
-- but no fix
pub record IsJournaled (l : Layout) (lost : ℕ → Bool) (device_of : ℕ → ℕ) (w : World) (plain : Plain)
    (logged : ℕ → Bool) : Type 0 where
  -- of a row in the journal that is being written there is a batch: a new block was computed
  pub computed : (n f : ℕ) (h : Hold) → n < l.shards → (w.shard n).frame f ≡ Some h → logged h.row ≡ true
      → (batch : List (ℕ × Block)) → h.course.kind ≡ Write batch → HasNew h.course
  -- and all of it was taken
  pub drained : (row slot : ℕ) → row < l.rows → slot < l.slots → lost slot ≡ false → logged row ≡ true
      → (put : IsPut w (l.shard_of row) slot (device_of slot) row)
      → IsTaken w (l.shard_of row) slot (device_of slot) row put
  -- before it stands there no write of it is performed. So of a row that isn't in the journal none is confirmed
  pub none_confirmed : (n f : ℕ) (h : Hold) (slot : ℕ) → n < l.shards → (w.shard n).frame f ≡ Some h → slot < l.slots
      → lost slot ≡ false → logged h.row ≡ false
      → (cell_at h.course.cells (l.position h.row slot)).writing ≢ Confirmed
  -- none that is out is performed
  pub none_performed : (n f : ℕ) (h : Hold) (slot : ℕ) → n < l.shards → (w.shard n).frame f ≡ Some h → slot < l.slots
      → lost slot ≡ false → logged h.row ≡ false → IsSent l h slot
      → (put : IsPut w n slot (device_of slot) h.row) → w.performed n put.token ≡ None
  -- and none of its requests has acted, not at a slot that was lost since either
  pub none_acted : (n f id block : ℕ) (new_data : Block) (h : Hold) → n < l.shards → (w.shard n).frame f ≡ Some h
      → logged h.row ≡ false
      → (w.shard n).request id ≡ Some (record { op = Write_of block new_data; stage = Held f })
      → plain.answers n id ≡ None

-- A replay: of each slot that isn't lost every write that is out, of a row in the journal, is performed, be it again; a
-- fix may be; and nothing else is
pub record IsReplayed (l : Layout) (lost : ℕ → Bool) (device_of : ℕ → ℕ) (w : World) (logged : ℕ → Bool)
    (left : Remains) : Type 0 where
  pub puts : (row slot : ℕ) (b : Block) → row < l.rows → slot < l.slots → lost slot ≡ false → logged row ≡ true
      → IsOut w (l.shard_of row) slot (device_of slot) row b → left slot row ≡ b
  pub nothing_else : (row slot : ℕ) → row < l.rows → slot < l.slots → lost slot ≡ false
      → (left slot row ≡ held_by device_of w.device slot row)
      ⊎ ((b : Block) × IsOut w (l.shard_of row) slot (device_of slot) row b × (left slot row ≡ b)
      × ((logged row ≡ true) ⊎ IsFix l w (l.shard_of row) slot row))

-- ---- the law

-- a start with what is left, lawful of a list of which each block is that of the plain array or of an open write
pub record StartsAgain (l : Layout) (r : Snapshot) (w : World) (plain : Plain) (left : Remains) : Type 0 where
  pub list : Array
  pub lawful : IsLawfulStart l r (as_first left) list
  pub blocks : (block : ℕ) → block < l.blocks
      → (list block ≡ plain.array block) ⊎ IsOpenWrite w block (list block)

-- whichever batches stand in the journal, a replay leaves such a start, with these slots lost
abbrev pub ReplayStarts : Layout → (lost : ℕ → Bool) → (device_of : ℕ → ℕ) → World → Plain → Type 0
ReplayStarts l lost device_of w plain =
    (logged : ℕ → Bool) → IsJournaled l lost device_of w plain logged
    → (left : Remains) → IsReplayed l lost device_of w logged left
    → (r : Snapshot) → IsRegisterOf l lost r → StartsAgain l r w plain left

-- Wherever a run ends, with at most two slots lost, of whatever cores that send their batches so
abbrev pub JournalLaw : Type 0
JournalLaw =
    OfEveryRun (λ l array start moments.
    let w = after_all l start moments in
    (lost : ℕ → Bool) (device_of : ℕ → ℕ) → IsServed l lost device_of w
    → SentIsPut l lost device_of w → BatchesAreWhole l w
    → ReplayStarts l lost device_of w (plain_after_all l start (at_start array) moments))
