-- The premises of the journal's law can be met with a batch that is performed in part (this project's own): a run of
-- the smallest array in which block 0 is being written, all three writes are taken and stand in the journal, one device
-- has performed, and the slot of block 1 is lost.
use Rattle.std.specs.Prelude.{◌≡◌, ◌≢◌, ◌==◌, ℕ, List, Bool, true, None}
use Rattle.r6_kernels.specs.Blocks.{IsBlock}
use Rattle.r6_layout.specs.PlainArray.{Block}
use Rattle.r6_world.specs.PlainArray.{Array}
use Rattle.r6_world.specs.Layouts.{IsArray}
use Rattle.r6_world.specs.Registers.{Snapshot}
use Rattle.r6_world.specs.Worlds.{World, Devices, Moment, Run, started}
use Rattle.r6_world.specs.Claims.{IsLawfulStart}
use Rattle.r6_world.specs.Laws.{IsOfOutside, at_start}
use Rattle.r6_world.specs.Witness.{small, after_all}
use Rattle.r6_crash.specs.Crashes.{Remains, IsServed, plain_after_all}
use Rattle.r6_crash.specs.Journals.{SentIsPut, BatchesAreWhole, IsJournaled, IsReplayed}

-- slot 2 is lost, which has block 1
abbrev pub one_lost : ℕ → Bool
one_lost slot = slot == 2

-- every row's batch stands in the journal
abbrev pub all_logged : ℕ → Bool
all_logged row = true

-- of three writes that are out one is performed
pub record IsPartDone (w : World) : Type 0 where
  pub block_put : w.performed 0 1 ≢ None
  pub p_out : w.performed 0 2 ≡ None
  pub q_out : w.performed 0 3 ≡ None

-- a start and a run from it that ends in the midst of a batch, with all that the journal's law asks
pub record MidwayFrom (array : Array) (new_data : Block) : Type 0 where
  pub r : Snapshot
  pub device : Devices
  pub lawful : IsLawfulStart small r device array
  pub moments : List Moment
  pub is_run : Run small IsOfOutside (started small r device) moments
  pub part_done : IsPartDone (after_all small (started small r device) moments)
  pub served : IsServed small one_lost (λ slot. 0) (after_all small (started small r device) moments)
  pub sent : SentIsPut small one_lost (λ slot. 0) (after_all small (started small r device) moments)
  pub whole : BatchesAreWhole small (after_all small (started small r device) moments)
  pub journaled : IsJournaled small one_lost (λ slot. 0) (after_all small (started small r device) moments)
      (plain_after_all small (started small r device) (at_start array) moments) all_logged
  pub left : Remains
  pub replayed : IsReplayed small one_lost (λ slot. 0) (after_all small (started small r device) moments) all_logged
      left

-- there are such, whatever the array's blocks are, and whatever is written
abbrev pub JournalWitness : Type 0
JournalWitness =
    (array : Array) (new_data : Block) → IsArray small array → IsBlock small.size new_data → MidwayFrom array new_data
