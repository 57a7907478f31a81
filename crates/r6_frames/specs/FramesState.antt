-- The rows that a shard holds and their commands, as callers see them.
use Rattle.std.specs.Prelude.{ℕ, Bool, List}
use Rattle.std.specs.Ordering.{nat_cmp}
use Rattle.std.specs.FinMap.{FinMap}
use Rattle.r6_layout.specs.Shape.{Shape}
use Rattle.r6_frames.specs.declared.command.Outstanding.{Outstanding}
use Rattle.r6_frames.specs.declared.directs.Direct.{Direct}
use Rattle.r6_frames.specs.declared.frames.FrameUse.{FrameUse}
use Rattle.r6_frames.specs.declared.slots.Slot.{Slot}

-- the commands that are outstanding, by token, and the token that comes next
pub record Commands : Type 0 where
  pub next : ℕ
  pub entries : FinMap nat_cmp Outstanding

pub record FramesState : Type 0 where
  pub geometry : Shape  -- of the array
  pub shard : ℕ  -- which of its shards
  pub slots : List Slot
  pub saw_failed : Bool  -- a look has seen that the array failed
  pub live : Bool  -- holds go on
  pub uses : List FrameUse  -- of the frames
  pub spare : ℕ  -- of how many frames the buffers are home
  pub commands : Commands
  pub next_taken : ℕ  -- the token of the command that is taken next: so many were taken
  pub directs : List Direct  -- the reads that hold no row, each by its direct buffer

-- the state as the tuple of its fields, by which a proof tells states apart
abbrev pub Fields : Type 0
Fields =
    Shape × (ℕ × (List Slot × (Bool × (Bool
    × (List FrameUse × (ℕ × ((ℕ × FinMap nat_cmp Outstanding) × (ℕ × List Direct))))))))

abbrev pub fields : FramesState → Fields
fields fs =
    (fs.geometry, (fs.shard, (fs.slots, (fs.saw_failed, (fs.live, (fs.uses, (fs.spare, ((fs.commands.next, fs.commands.entries), (fs.next_taken, fs.directs)))))))))

abbrev pub of_fields : Fields → FramesState
of_fields f =
    record {
      geometry = f.0;
      shard = f.1.0;
      slots = f.1.1.0;
      saw_failed = f.1.1.1.0;
      live = f.1.1.1.1.0;
      uses = f.1.1.1.1.1.0;
      spare = f.1.1.1.1.1.1.0;
      commands = record { next = f.1.1.1.1.1.1.1.0.0; entries = f.1.1.1.1.1.1.1.0.1 };
      next_taken = f.1.1.1.1.1.1.1.1.0;
      directs = f.1.1.1.1.1.1.1.1.1;
    }
