-- The write hole (md(4), "UNCLEAN SHUTDOWN"): why a resync is no help once a slot is lost. A run of the smallest array
-- in which block 0 is being written and block 1 by nobody; of the three devices that are to be written only that of
-- block 0 has performed. If the slot of block 1 is lost by the next start, no list of which that start is lawful has
-- block 1 as it was.
use Rattle.std.specs.Prelude.{◌≡◌, ℕ, List, [], ◌∷◌, ◌++◌, Bool, ◌==◌, ◌||◌}
use Rattle.r6_kernels.specs.Blocks.{IsBlock}
use Rattle.r6_layout.specs.PlainArray.{Block}
use Rattle.r6_world.specs.PlainArray.{Array}
use Rattle.r6_world.specs.Layouts.{IsArray}
use Rattle.r6_world.specs.Registers.{Snapshot, InSync, status_of}
use Rattle.r6_world.specs.Worlds.{World, Devices, Moment, Run, started}
use Rattle.r6_world.specs.Claims.{IsLawfulStart}
use Rattle.r6_world.specs.Laws.{IsOfOutside, AtEach}
use Rattle.r6_world.specs.Witness.{small, after_all}
use Rattle.r6_crash.specs.Crashes.{IsWhole, IsRegisterOf}
use Rattle.r6_crash.specs.Caches.{IsOpenWrite}

-- at this moment one request was accepted, the write of block 0, and its device has performed it
pub record IsHalfWritten (w : World) (new_data : Block) : Type 0 where
  pub one_request : (w.shard 0).accepted ≡ 1
  pub is_open : IsOpenWrite w 0 new_data
  pub is_put : w.device 1 0 0 ≡ new_data

-- the slots of Q and of block 1
abbrev pub two_lost : ℕ → Bool
two_lost slot = (slot == 0) || (slot == 2)

-- a start and a run from it, after which the slot of block 1 must not be lost
pub record HoleFrom (array : Array) (new_data : Block) : Type 0 where
  pub r : Snapshot
  pub device : Devices
  pub lawful : IsLawfulStart small r device array
  -- a run, and its last moment, at which that device performs: no slot is lost before it or after it
  pub before : List Moment
  pub last : Moment
  pub is_run : Run small IsOfOutside (started small r device) (before ++ last ∷ [])
  pub whole : AtEach small (IsWhole small (λ slot. 0)) (after_all small (started small r device) before) (last ∷ [])
  pub stood : (after_all small (started small r device) before).device 1 0 0 ≡ array 0
  pub half_written : IsHalfWritten (after_all small (started small r device) (before ++ last ∷ [])) new_data
  -- a start on what stands then, in which the slots of block 0 and of P are in sync, whichever of the others are lost
  pub hole : (r' : Snapshot) → status_of r' 1 ≡ InSync 0 → status_of r' 3 ≡ InSync 0 → (list : Array)
      → IsLawfulStart small r' (after_all small (started small r device) (before ++ last ∷ [])).device list
      → list 1 ≡ array 1 → new_data ≡ array 0
  -- and with the slot of Q lost too nothing shows that block 1 is wrong: such a start is lawful of some list
  pub unseen : (r' : Snapshot) → IsRegisterOf small two_lost r'
      → (list : Array)
      × IsLawfulStart small r' (after_all small (started small r device) (before ++ last ∷ [])).device list

-- there are such, whatever the array's blocks are, and whatever is written
abbrev pub HoleLaw : Type 0
HoleLaw =
    (array : Array) (new_data : Block) → IsArray small array → IsBlock small.size new_data → HoleFrom array new_data
