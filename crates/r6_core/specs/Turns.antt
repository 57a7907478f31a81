-- In which order requests start: from the oldest to the newest each has its turn, and a write that starts takes with it
-- those that wait for other blocks of its row.
use Rattle.std.specs.Prelude.{◌≡◌, ℕ, ◌⊎◌, Bool, true, false, List, [], ◌∷◌, map, IsPermutation, Some}
use Rattle.r6_world.specs.PlainArray as world
use Rattle.r6_world.specs.Layouts.{Layout}
use Rattle.r6_world.specs.Tasks.{Task, ReadFor, WriteFor, Write}
use Rattle.r6_world.specs.ShardStates.{Shard, Held, IsLive, CouldStart, CouldHold}
use Rattle.r6_world.specs.Changes.{Read_direct, Start, after, Allowed}
use Rattle.r6_world.specs.Steps.{Through}
use Rattle.r6_world.specs.declared.values.Op.{Op}
use Rattle.r6_world.specs.declared.values.Op.TheVariants as op
use Rattle.r6_core.specs.declared.queued.Queued.{Queued}
use Rattle.r6_world.specs.Values.{op_of, buffer_of}
use Rattle.r6_frames.specs.Calls.{PutsFirst}
use Rattle.r6_core.specs.Batches.{others_of, joined}
pub use Rattle.r6_core.specs.Queued.{IsWaiting}

-- ---- where a request stands

abbrev pub row_for : Layout → Op → ℕ
row_for l o = l.row_of (world.block_of (op_of o))

-- a row is held for it
abbrev pub IsHeld : Shard → Queued → Type 0
IsHeld s q = (frame : ℕ) × (s.request q.id ≡ Some (record { op = op_of q.op; stage = Held frame }))

-- what waits could start: after a read error with a hold alone
abbrev pub CouldLeave : (erred : Bool) → Layout → Shard → world.Op → Type 0
CouldLeave false l s op = CouldStart l s op
CouldLeave true l s op = CouldHold l s op

abbrev pub MustWait : Layout → Shard → Queued → Type 0
MustWait l s q = IsLive l s → CouldLeave q.erred l s (op_of q.op) → ⊥

-- ---- a request starts

-- the blocks whose writes start with what is asked: with a write those of the other blocks of its row
abbrev pub wanted_with : Layout → Op → ℕ → Bool
wanted_with l (op.Read block buffer) = λ other. false
wanted_with l (op.Write block buffer) = others_of l (l.row_of block) block

-- a write as the world has it
abbrev pub write_for : Queued → Write
write_for q = record { id = q.id; block = world.block_of (op_of q.op); new_data = buffer_of q.op }

-- What the row is held for: the read; or, in some order, the write and of the newer requests those that start with it
abbrev pub IsTaskOf : Layout → Queued → Op → (newer : List Queued) → Task → Type 0
IsTaskOf l q (op.Read block buffer) newer task = task ≡ ReadFor q.id block
IsTaskOf l q (op.Write block buffer) newer task =
    (served : List Queued)
    × IsPermutation (q ∷ joined (wanted_with l (op.Write block buffer)) newer) served
    × (task ≡ WriteFor (map write_for served))

-- the request is a read, and is read directly, with one command and a direct buffer
abbrev pub IsRead : Layout → ℕ → Shard → (id : ℕ) → Op → Shard → Type 0
IsRead l n old id (op.Read block buffer) new =
    (direct : ℕ) × (generation : ℕ) × Allowed l n old (Read_direct direct id block generation)
    × (new ≡ after l old (Read_direct direct id block generation))
IsRead l n old id (op.Write block buffer) new = ⊥

-- its row is held for it in a frame, and the hold puts out what comes first
abbrev pub IsHeldFor : Layout → ℕ → Shard → Queued → (newer : List Queued) → Shard → Type 0
IsHeldFor l n old q newer new =
    (frame : ℕ) × (task : Task) × IsTaskOf l q q.op newer task × Allowed l n old (Start frame (row_for l q.op) task)
    × Through l n PutsFirst (after l old (Start frame (row_for l q.op) task)) new

-- the request starts: it is read directly, unless it met a read error, or its row is held for it
abbrev pub Starts : Layout → ℕ → Shard → Queued → (newer : List Queued) → Shard → Type 0
Starts l n old q newer new =
    ((q.erred ≡ false) × IsRead l n old q.id q.op new) ⊎ IsHeldFor l n old q newer new

-- ---- all have their turns

-- Each request has its turn, from the oldest to the newest: it has started with an older one, or it waits still, and
-- then it starts if it can, and else goes on waiting
abbrev pub InTurn : Layout → ℕ → (old : Shard) → List Queued → (new : Shard) → (waiting : List Queued) → Type 0
InTurn l n old [] new waiting = (new ≡ old) × (waiting ≡ [])
InTurn l n old (q ∷ newer) new waiting =
    (IsHeld old q × InTurn l n old newer new waiting)
    ⊎ (IsWaiting old q
    × (((mid : Shard) × Starts l n old q newer mid × InTurn l n mid newer new waiting)
    ⊎ (MustWait l old q × (others : List Queued) × (waiting ≡ q ∷ others) × InTurn l n old newer new others)))
