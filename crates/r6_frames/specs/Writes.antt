-- The writes that one hold serves: of each block of the row at most one.
use Rattle.std.specs.Prelude.{◌≡◌, ℕ, ◌<◌, Bool, List, [], ◌∷◌, map}
use Rattle.r6_kernels.specs.Blocks.{IsBlock}
use Rattle.r6_layout.specs.Shape.{Shape, blocks}
use Rattle.r6_layout.specs.Layout as layout
use Rattle.r6_stripe.specs.Plans.{names}
use Rattle.r6_layout.specs.PlainArray.{Block}
use Rattle.r6_world.specs.Tasks.{Task, Write, WriteFor}
use Rattle.r6_world.specs.declared.values.Op.TheVariants as op
use Rattle.r6_world.specs.declared.values.Request.{Request}
use Rattle.r6_frames.specs.declared.frames.ServedRequest.{ServedRequest}

-- a write: its request, the index of its block in the row, and the new data
pub record Entry : Type 0 where
  pub served : ServedRequest
  pub index : ℕ
  pub new_data : Block

-- the requests, and the new blocks with their indices, side by side
abbrev pub served_in : List Entry → List ServedRequest
served_in writes = map (λ (write : Entry). write.served) writes

abbrev pub blocks_in : List Entry → List (ℕ × Block)
blocks_in writes = map (λ (write : Entry). (write.index, write.new_data)) writes

-- and the writes whose requests and new blocks these are
abbrev pub entries_of : List ServedRequest → List (ℕ × Block) → List Entry
entries_of [] blocks = []
entries_of (one ∷ served) [] = []
entries_of (one ∷ served) (block ∷ blocks) =
    record { served = one; index = block.0; new_data = block.1 } ∷ entries_of served blocks

abbrev pub has_index : List Entry → ℕ → Bool
has_index writes index = names (blocks_in writes) index

-- the request of a write, with its new data in the caller's buffer
abbrev pub request_of : Entry → Request
request_of write = record { id = write.served.id; op = op.Write write.served.block write.new_data }

-- the write by the world
abbrev pub write_of : Entry → Write
write_of write = record { id = write.served.id; block = write.served.block; new_data = write.new_data }

abbrev pub write_task : List Entry → Task
write_task writes = WriteFor (map write_of writes)

-- a write of a block of the row
pub record IsWriteIn (shape : Shape) (row : ℕ) (write : Entry) : Type 0 where
  pub there : write.served.block < blocks shape
  pub in_row : row ≡ layout.row_of shape write.served.block
  pub index : write.index ≡ layout.index_of shape write.served.block
  pub sized : IsBlock shape.block write.new_data
