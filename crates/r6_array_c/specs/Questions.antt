-- What the library tells a program that asks: the state of a slot, counts, room, commands at work, rows, blocks. No
-- question changes anything (this project's own; `embed/c/raid6.h` has a function for each).
use Rattle.std.specs.Prelude.{◌≡◌, ◌≢◌, ◌+◌, ◌<◌, ◌≤◌, ℕ, List, length, slice_index, Option, Some, None, MatchOption}
use Rattle.std.specs.Int.{from_bool}
use Rattle.r6_layout.specs.Shape.{Shape, blocks}
use Rattle.r6_layout.specs.Layout.{first_row}
use Rattle.r6_health.specs.Registers.{state_at}
use Rattle.r6_health.specs.declared.snapshot.Snapshot.{Snapshot}
use Rattle.r6_core.specs.Progress.{IsFirstUnbuilt, IsNotRebuilt}
use Rattle.r6_core.specs.Refusals.{most_unanswered}
use Rattle.r6_core.specs.Shards.{CoreView, world_shard}
use Rattle.r6_core.specs.declared.turn.Task.{Task}
use Rattle.r6_core.specs.declared.turn.Task.TheVariants.{Rebuild, Check, Repair}
use Rattle.r6_array.specs.Arrays.{ShardView, ArrayView, Has}
use Rattle.r6_array.specs.Effects.{shard_of_block}
use Rattle.r6_array.specs.Handles.{HandleView, core_in, number_of}
use Rattle.r6_array_c.specs.declared.handle.Mail.{Mail}
use Rattle.r6_array_c.specs.Numbers.{no_such, state_number, state_generation, count_told, task_of}

-- what the program has written to the mail stays there
pub record KeepsAsked (old new : Mail) : Type 0 where
  pub verb : new.verb ≡ old.verb
  pub task : new.task ≡ old.task
  pub shard : new.shard_asked ≡ old.shard_asked
  pub slot : new.slot_asked ≡ old.slot_asked
  pub block : new.block_asked ≡ old.block_asked
  pub name : new.name_asked ≡ old.name_asked

-- a number is told, or there is none
abbrev pub TellsNumber : Option ℕ → (answer : ℕ) → Mail → Type 0
TellsNumber told answer mail = MatchOption told (answer ≡ no_such) (λ number. (answer ≡ 0) × (mail.number ≡ number))

-- ---- of a register

-- the state of a slot in a register of so many, and whether the array has failed
pub record TellsSlot (slots : ℕ) (register : Snapshot) (slot answer : ℕ) (mail : Mail) : Type 0 where
  pub state : slot < slots → (answer ≡ 0) × (mail.kind ≡ state_number (state_at register slot))
      × (mail.generation ≡ state_generation (state_at register slot)) × (mail.number ≡ from_bool register.failed)
  pub none : slots ≤ slot → answer ≡ no_such

-- ---- of a shard

-- a shard's first row, and the row behind its last
pub record TellsRows (shape : Shape) (shard answer : ℕ) (mail : Mail) : Type 0 where
  pub rows : shard < shape.shards → (answer ≡ 0) × (mail.slot ≡ first_row shape shard)
      × (mail.number ≡ first_row shape (shard + 1))
  pub none : shape.shards ≤ shard → answer ≡ no_such

-- one of its counts since it was made
abbrev pub TellsCount : CoreView → (which answer : ℕ) → Mail → Type 0
TellsCount core which answer mail = TellsNumber (count_told (world_shard core).counts which) answer mail

-- the row that a task takes up next in a shard; of a rebuild the first that isn't rebuilt on the slot
abbrev pub IsNextRow : CoreView → Option Task → (slot row : ℕ) → Type 0
IsNextRow core (Some Rebuild) slot row = IsFirstUnbuilt core slot row
IsNextRow core (Some Check) slot row = row ≡ (world_shard core).check_row
IsNextRow core (Some Repair) slot row = row ≡ (world_shard core).repair_row
IsNextRow core None slot row = ⊥

-- there is no such task, or the slot has no device that is rebuilt in the shard
abbrev pub HasNoNextRow : CoreView → Option Task → (slot : ℕ) → Type 0
HasNoNextRow core (Some Rebuild) slot = IsNotRebuilt core slot
HasNoNextRow core (Some Check) slot = ⊥
HasNoNextRow core (Some Repair) slot = ⊥
HasNoNextRow core None slot = Unit {0}

-- how many requests a shard has room for
abbrev pub IsRoomOf : CoreView → (room : ℕ) → Type 0
IsRoomOf core room = room + core.unanswered ≡ most_unanswered

-- how many commands of a slot were handed out and aren't delivered, of a list by slot
pub record TellsAtWork (slots : ℕ) (at_work : List ℕ) (slot answer : ℕ) (mail : Mail) : Type 0 where
  pub count : slot < slots → (answer ≡ 0) × (mail.number ≡ slice_index at_work slot)
  pub none : slots ≤ slot → answer ≡ no_such

-- ---- of an array

-- one of the counts of a shard, if there is this shard
pub record TellsCountOf (a : ArrayView) (shard which answer : ℕ) (mail : Mail) : Type 0 where
  pub count : (s : ShardView) → Has a shard s → TellsCount s.core which answer mail
  pub none : length a.shards ≤ shard → answer ≡ no_such

-- how many requests the shard of a block has room for
pub record TellsRoom (a : ArrayView) (block answer : ℕ) (mail : Mail) : Type 0 where
  pub room : block < blocks a.shape → (answer ≡ 0)
      × (s : ShardView) × Has a (shard_of_block a.shape block) s × IsRoomOf s.core mail.number
  pub none : answer ≢ 0 → (answer ≡ no_such) × (blocks a.shape ≤ block)

-- how far a task is in a shard
pub record TellsNextRow (a : ArrayView) (shard slot : ℕ) (task : Option Task) (answer : ℕ) (mail : Mail) : Type 0 where
  pub row : answer ≡ 0 → (s : ShardView) × Has a shard s × IsNextRow s.core task slot mail.number
  pub none : answer ≢ 0 → (answer ≡ no_such)
      × ((s : ShardView) → Has a shard s → HasNoNextRow s.core task slot)

-- what the question in the mail is answered; there is no other
pub record Answers (asked : Mail) (a : ArrayView) (answer : ℕ) (mail : Mail) : Type 0 where
  pub slot : asked.verb ≡ 10 → TellsSlot a.shape.slots a.register asked.slot_asked answer mail
  pub count : asked.verb ≡ 11 → TellsCountOf a asked.shard_asked asked.task answer mail
  pub room : asked.verb ≡ 12 → TellsRoom a asked.block_asked answer mail
  pub at_work : asked.verb ≡ 13 → TellsAtWork a.shape.slots a.at_work asked.slot_asked answer mail
  pub rows : asked.verb ≡ 14 → TellsRows a.shape asked.shard_asked answer mail
  pub next_row : asked.verb ≡ 15
      → TellsNextRow a asked.shard_asked asked.slot_asked (task_of asked.task) answer mail
  pub blocks : asked.verb ≡ 16 → (answer ≡ 0) × (mail.number ≡ blocks a.shape)
  pub other : asked.verb ≢ 10 → asked.verb ≢ 11 → asked.verb ≢ 12 → asked.verb ≢ 13 → asked.verb ≢ 14
      → asked.verb ≢ 15 → asked.verb ≢ 16 → answer ≡ no_such

-- ---- of a handle of a shard

pub record HandleTellsNextRow (h : HandleView) (slot : ℕ) (task : Option Task) (answer : ℕ) (mail : Mail) : Type 0 where
  pub row : answer ≡ 0 → IsNextRow (core_in h) task slot mail.number
  pub none : answer ≢ 0 → (answer ≡ no_such) × HasNoNextRow (core_in h) task slot

pub record AnswersOfShard (asked : Mail) (h : HandleView) (answer : ℕ) (mail : Mail) : Type 0 where
  pub count : asked.verb ≡ 11 → TellsCount (core_in h) asked.task answer mail
  pub room : asked.verb ≡ 12 → (answer ≡ 0) × IsRoomOf (core_in h) mail.number
  pub at_work : asked.verb ≡ 13 → TellsAtWork (core_in h).shape.slots h.at_work asked.slot_asked answer mail
  pub rows : asked.verb ≡ 14 → TellsRows (core_in h).shape (number_of h) answer mail
  pub next_row : asked.verb ≡ 15 → HandleTellsNextRow h asked.slot_asked (task_of asked.task) answer mail
  pub other : asked.verb ≢ 11 → asked.verb ≢ 12 → asked.verb ≢ 13 → asked.verb ≢ 14 → asked.verb ≢ 15
      → answer ≡ no_such
