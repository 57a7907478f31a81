-- What the numbers of the library mean (this project's own; `embed/c/raid6.h` names them).
use Rattle.std.specs.Prelude.{ℕ, ◌==◌, if◌then◌else◌, List, [], ◌∷◌, slice_get, Result, Ok, Err, Option, Some, None}
use Rattle.r6_core.specs.declared.call.Call.{Call}
use Rattle.r6_core.specs.declared.turn.Task.{Task}
use Rattle.r6_core.specs.declared.turn.Task.TheVariants.{Rebuild, Check, Repair}
use Rattle.r6_core.specs.declared.call.Call.TheVariants.{DeclareLost, ReportRebuilt}
use Rattle.r6_health.specs.declared.call.Answer.{Answer}
use Rattle.r6_health.specs.declared.call.Answer.TheVariants.{Degraded, Failed, Generation, More, Complete, Kept}
use Rattle.r6_health.specs.declared.slots.SlotState.{SlotState}
use Rattle.r6_health.specs.declared.slots.SlotState.TheVariants.{InSync, Lost, Rebuilding, Replacing}
use Rattle.r6_world.specs.ShardStates as shards
use Rattle.r6_world.specs.declared.values.FaultKind.{FaultKind}
use Rattle.r6_world.specs.declared.values.FaultKind.TheVariants.{ReadFault, WriteFault, Gone, Length}
use Rattle.r6_world.specs.declared.values.DeviceFault.{DeviceFault}
use Rattle.r6_world.specs.declared.values.CommandKind.{CommandKind}
use Rattle.r6_world.specs.declared.values.CommandKind.TheVariants as kind
use Rattle.r6_world.specs.declared.values.Reply.{Reply}
use Rattle.r6_world.specs.declared.values.Reply.TheVariants as reply

-- ---- refusals: the core's by the core's numbers, the register's by 100 and its own, and these of the library itself

-- there is no spare buffer, or no room to gather
abbrev pub busy_now : ℕ
busy_now = 4

-- the order has nothing to deliver
abbrev pub not_out : ℕ
not_out = 7

-- there is no such shard, slot, block, task, count or call
abbrev pub no_such : ℕ
no_such = 90

-- there is nothing to hand out now
abbrev pub nothing_now : ℕ
nothing_now = 91

-- the order has a command that isn't delivered, or the shard is open
abbrev pub still_in_use : ℕ
still_in_use = 92

-- ---- the states of a slot

abbrev pub in_sync : ℕ
in_sync = 0

abbrev pub lost : ℕ
lost = 1

abbrev pub rebuilding : ℕ
rebuilding = 2

-- while a slot is being replaced its old device serves: it is in sync
abbrev pub state_number : SlotState → ℕ
state_number (InSync generation) = in_sync
state_number Lost = lost
state_number (Rebuilding generation reported) = rebuilding
state_number (Replacing old new reported) = in_sync

-- of a slot that is rebuilt the generation of its device; of any other none is told
abbrev pub state_generation : SlotState → ℕ
state_generation (InSync generation) = 0
state_generation Lost = 0
state_generation (Rebuilding generation reported) = generation
state_generation (Replacing old new reported) = 0

-- ---- the counts of a shard

-- in this order: CONSISTENT, WRONG_P, WRONG_Q, WRONG_DATA, MANY, SKIPPED, REPAIRED, REBUILT
abbrev pub counts_told : shards.Counts → List ℕ
counts_told k =
    k.consistent ∷ k.wrong_p ∷ k.wrong_q ∷ k.wrong_data ∷ k.many ∷ k.skipped ∷ k.repaired ∷ k.rebuilt ∷ []

-- the count of this number
abbrev pub count_told : shards.Counts → (which : ℕ) → Option ℕ
count_told k which = slice_get (counts_told k) which

-- ---- faults, completions, replies, changes, tasks

abbrev pub ok : ℕ
ok = 0

abbrev pub read_fault : ℕ
read_fault = 1

abbrev pub write_fault : ℕ
write_fault = 2

abbrev pub gone : ℕ
gone = 3

-- how a device failed, if it did; each higher number is of one that ends before the row
abbrev pub fault_of : ℕ → Option FaultKind
fault_of n =
    if n == ok then None
    else if n == read_fault then Some ReadFault
    else if n == write_fault then Some WriteFault
    else if n == gone then Some Gone
    else Some Length

-- the completion of a command with this block
abbrev pub completion_by : Option FaultKind → List ℕ → Result (List ℕ) DeviceFault
completion_by None block = Ok block
completion_by (Some kind) block = Err (record { kind = kind; buffer = block })

abbrev pub kind_number : CommandKind → ℕ
kind_number kind.Read = 0
kind_number kind.Write = 1

abbrev pub read_done : ℕ
read_done = 0

abbrev pub write_done : ℕ
write_done = 1

abbrev pub failed : ℕ
failed = 2

-- a reply's number, and its block
abbrev pub reply_number : Reply → ℕ
reply_number (reply.Data block) = read_done
reply_number (reply.Done block) = write_done
reply_number (reply.ArrayFailed block) = failed

abbrev pub reply_block : Reply → List ℕ
reply_block (reply.Data block) = block
reply_block (reply.Done block) = block
reply_block (reply.ArrayFailed block) = block

-- a change: 0 a slot is lost, or 1 a shard has rebuilt its rows of it; the slot, and its generation
abbrev pub call_numbers : Call → ℕ × ℕ × ℕ
call_numbers (DeclareLost slot generation) = (0, slot, generation)
call_numbers (ReportRebuilt slot generation) = (1, slot, generation)

-- of the loss of a device: 1 if the slot's other one has it in sync, and else 0
abbrev pub kept_number : Answer → ℕ
kept_number Kept = 1
kept_number Degraded = 0
kept_number Failed = 0
kept_number (Generation generation) = 0
kept_number More = 0
kept_number Complete = 0

abbrev pub rebuild : ℕ
rebuild = 0

abbrev pub check : ℕ
check = 1

abbrev pub repair : ℕ
repair = 2

abbrev pub task_of : ℕ → Option Task
task_of n =
    if n == rebuild then Some Rebuild
    else if n == check then Some Check
    else if n == repair then Some Repair
    else None
