-- The values that a shard is handed and hands out, as the world has them.
use Rattle.std.specs.Prelude.{ℕ, Bool, false, List, [], ◌∷◌, codes, Result, Ok, Err}
use Rattle.std.specs.List.{join_with_byte}
use Rattle.r6_kernels.specs.Texts.{block_text}
use Rattle.r6_layout.specs.PlainArray.{Block}
use Rattle.r6_world.specs.PlainArray as world
use Rattle.r6_world.specs.ShardStates as shards
use Rattle.r6_world.specs.ShardStates.{Transfer, Fetch, Store}
use Rattle.r6_world.specs.Steps as steps
use Rattle.r6_world.specs.declared.values.Op.{Op}
use Rattle.r6_world.specs.declared.values.Op.TheVariants as op
use Rattle.r6_world.specs.declared.values.Request.{Request}
use Rattle.r6_world.specs.declared.values.Reply.{Reply}
use Rattle.r6_world.specs.declared.values.Reply.TheVariants as reply
use Rattle.r6_world.specs.declared.values.Command.{Command}
use Rattle.r6_world.specs.declared.values.CommandKind.{CommandKind}
use Rattle.r6_world.specs.declared.values.CommandKind.TheVariants as command
use Rattle.r6_world.specs.declared.values.DeviceFault.{DeviceFault}
use Rattle.r6_world.specs.declared.values.FaultKind.{FaultKind}
use Rattle.r6_world.specs.declared.values.FaultKind.TheVariants as fault_kind
use Rattle.r6_world.specs.declared.values.Receipt.{Receipt}
use Rattle.r6_world.specs.declared.values.Receipt.TheVariants as receipt

-- ---- requests

-- what a caller asks for, as the world has it: the same block, and of a write the buffer's bytes; those of a read's
-- buffer don't matter
abbrev pub op_of : Op → world.Op
op_of (op.Read block buffer) = world.Op.Read block
op_of (op.Write block buffer) = world.Op.Write block buffer

abbrev pub buffer_of : Op → Block
buffer_of (op.Read block buffer) = buffer
buffer_of (op.Write block buffer) = buffer

-- a request with its number
abbrev pub numbered : Request → ℕ × world.Op
numbered request = (request.id, op_of request.op)

-- ---- commands and completions

-- the command that a device is handed
abbrev pub given_transfer : CommandKind → Block → Transfer
given_transfer command.Read block = Fetch
given_transfer command.Write block = Store block

-- the command in the frame that was not taken yet
abbrev pub world_command : ℕ → (abandoned copy : Bool) → Command → shards.Command
world_command frame abandoned copy c =
    record {
      frame = frame;
      slot = c.slot;
      generation = c.generation;
      row = c.row;
      transfer = given_transfer c.kind c.buffer;
      taken = false;
      abandoned = abandoned;
      copy = copy;
    }

-- how a device failed, as the world has it: only a block that can't be read is a read error; all else is an error like
-- any other
abbrev pub error_of : FaultKind → steps.Completion
error_of fault_kind.ReadFault = steps.Read_error
error_of fault_kind.WriteFault = steps.Error
error_of fault_kind.Gone = steps.Error
error_of fault_kind.Length = steps.Error

-- how a device answered a command, as the world has it: the buffer's bytes, or the error, where those of the buffer
-- don't matter
abbrev pub completion_of : Result (List ℕ) DeviceFault → steps.Completion
completion_of (Ok buffer) = steps.Good buffer
completion_of (Err fault) = error_of fault.kind

-- whether a completion still mattered, as the world has it: the two cases have the same names there
abbrev pub receipt_of : Receipt → steps.Receipt
receipt_of receipt.Taken = steps.Taken
receipt_of receipt.Late = steps.Late

-- the command's buffer
abbrev pub buffer_in : Result (List ℕ) DeviceFault → List ℕ
buffer_in (Ok buffer) = buffer
buffer_in (Err fault) = fault.buffer

-- ---- replies

-- what a caller is answered, as the world has it: of a read the buffer's bytes; with Done and ArrayFailed the buffer's
-- bytes don't matter
abbrev pub reply_of : Reply → world.Reply
reply_of (reply.Data buffer) = world.Reply.Data buffer
reply_of (reply.Done buffer) = world.Reply.Done
reply_of (reply.ArrayFailed buffer) = world.Reply.ArrayFailed

-- the caller's buffer
abbrev pub buffer_back : Reply → List ℕ
buffer_back (reply.Data buffer) = buffer
buffer_back (reply.Done buffer) = buffer
buffer_back (reply.ArrayFailed buffer) = buffer

-- what is printed of a reply
abbrev pub reply_words : Reply → List (List ℕ)
reply_words (reply.Data buffer) = codes "data" ∷ block_text buffer ∷ []
reply_words (reply.Done buffer) = codes "done" ∷ []
reply_words (reply.ArrayFailed buffer) = codes "failed" ∷ []

abbrev pub reply_text : Reply → List ℕ
reply_text answer = join_with_byte 32 (reply_words answer)
