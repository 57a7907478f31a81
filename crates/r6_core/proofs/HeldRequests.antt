-- What holds of all requests of held rows.
use Rattle.std.proofs.Common.{ℕ, ◌+◌, List, [], ◌∷◌, map, Option, Some, None}
use Rattle.std.specs.List.{AllByRecursion}
use Rattle.r6_world.specs.PlainArray as world
use Rattle.r6_world.specs.ShardStates as shards
use Rattle.r6_frames.specs.declared.frames.FrameUse.{FrameUse}
use Rattle.r6_frames.specs.declared.frames.FrameUse.TheVariants as uses
use Rattle.r6_frames.specs.Views.{held_entry, kind_in, request_at, requests_by, requests_from}
use Rattle.r6_frames.specs.declared.directs.Direct.{Direct}
use Rattle.r6_frames.specs.declared.directs.DirectRead.{DirectRead}
use Rattle.r6_frames.specs.declared.slots.Slot.{Slot}
use Rattle.r6_frames.specs.Directs.{is_stopped, read_by, read_entry, reads_from, stage_of}
use Rattle.r6_frames.proofs.Held.{all_append}

pub all_entries : (Fact : ℕ × shards.Request → Type 0) (frame : ℕ) (requests : List (ℕ × world.Op)) → ((r : ℕ × world.Op) → Fact (held_entry frame r))
    → AllByRecursion Fact (map (held_entry frame) requests)
all_entries Fact frame [] each = tt
all_entries Fact frame (r ∷ requests) each = (each r, all_entries Fact frame requests each)

all_in_frame : (Fact : ℕ × shards.Request → Type 0) (frame : ℕ) (u : FrameUse) → ((r : ℕ × world.Op) → Fact (held_entry frame r)) → AllByRecursion Fact (request_at frame u)
all_in_frame Fact frame uses.Free each = tt
all_in_frame Fact frame (uses.Held h) each = all_entries Fact frame (requests_by h.job (kind_in h)) each
all_in_frame Fact frame (uses.Returning r successor) each = tt

pub all_held : (Fact : ℕ × shards.Request → Type 0) → ((frame : ℕ) (r : ℕ × world.Op) → Fact (held_entry frame r)) → (start : ℕ) (held : List FrameUse)
    → AllByRecursion Fact (requests_from start held)
all_held Fact each start [] = tt
all_held Fact each start (u ∷ held) =
    all_append Fact (request_at start u) (requests_from (start + 1) held) (all_in_frame Fact start u (each start)) (all_held Fact each (start + 1) held)

-- and of all direct reads
pub all_read : (Fact : ℕ × shards.Request → Type 0) (slots : List Slot) → ((r : DirectRead) → Fact (read_entry r (stage_of (is_stopped slots r) r.token)))
    → (directs : List Direct) → AllByRecursion Fact (reads_from slots directs)
all_read Fact slots each [] = tt
all_read Fact slots each (d ∷ directs) =
    all_append Fact (read_by slots d.read) (reads_from slots directs) (by_read d.read) (all_read Fact slots each directs)
  where
    by_read : (o : Option DirectRead) → AllByRecursion Fact (read_by slots o)
    by_read None = tt
    by_read (Some r) = (each r, tt)
