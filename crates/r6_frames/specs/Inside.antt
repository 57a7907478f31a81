-- What the code has of the rows, and the room that it keeps.
use Rattle.std.specs.Prelude.{◌≡◌, ◌≤◌, ℕ, List, length, vec_capacity}
use Rattle.std.specs.List.{All}
use Rattle.std.specs.Global.{Vec}
use Rattle.r6_layout.specs.Shape.{Shape}
use Rattle.r6_stripe.specs.Frames as buffers
use Rattle.r6_tables.specs.Table.{Numbered, capacity_of, next_of, entries_of}
use Rattle.r6_world.specs.ShardStates.{frames}
use Rattle.r6_frames.specs.declared.command.Outstanding.{Outstanding}
use Rattle.r6_frames.specs.declared.frames.FrameUse.{FrameUse}
use Rattle.r6_frames.specs.declared.frames.Frames.TheInside.{Inside}
use Rattle.r6_frames.specs.FramesState.{FramesState, Commands}
use Rattle.r6_frames.specs.Sound.{most_commands, IsSound}
use Rattle.r6_frames.specs.declared.holders.Holders.{Holders}
use Rattle.r6_frames.specs.Holders.{AreMarked}
use Rattle.r6_frames.specs.Uses.{IsForRow}

abbrev pub commands_in : Numbered Outstanding → Commands
commands_in table = record { next = next_of table; entries = entries_of table }

-- the rows as callers see them
abbrev pub view_of : Inside → FramesState
view_of rows =
    record {
      geometry = rows.geometry;
      shard = rows.shard;
      slots = rows.slots;
      saw_failed = rows.saw_failed;
      live = rows.live;
      uses = rows.uses.items;
      spare = length rows.spare.items;
      commands = commands_in rows.commands;
      next_taken = rows.next_taken;
      directs = rows.directs;
    }

-- there is room for the buffers of all frames, each frame's are for a row of the array, each buffer may have a command,
-- which frames are free is known, and which hold a row
pub record IsRoom (shape : Shape) (spare : Vec buffers.Shape) (commands : Numbered Outstanding) (free_frames : ℕ)
    (holders : Holders) (held : List FrameUse) : Type 0 where
  pub buffer_room : frames ≤ vec_capacity spare
  pub shapes : All (IsForRow shape) spare.items
  pub command_room : capacity_of commands ≡ most_commands shape
  pub marked : AreMarked free_frames holders held

abbrev pub HasRoom : Inside → Type 0
HasRoom rows = IsRoom rows.geometry rows.spare rows.commands rows.free_frames rows.holders rows.uses.items

abbrev pub IsSoundInside : Inside → Type 0
IsSoundInside rows = IsSound (view_of rows) × HasRoom rows
