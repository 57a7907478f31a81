-- The writes that start with a write: of the requests that wait the oldest write of each block that is wanted.
use Rattle.std.specs.Prelude.{ℕ, ◌==◌, ◌&&◌, not, Bool, false, List, [], ◌∷◌, Option, Some, None, if◌then◌else◌}
use Rattle.r6_world.specs.Tables.{put}
use Rattle.r6_world.specs.Layouts.{Layout}
use Rattle.r6_world.specs.declared.values.Op.{Op}
use Rattle.r6_world.specs.declared.values.Op.TheVariants as op
use Rattle.r6_core.specs.declared.queued.Queued.{Queued}
use Rattle.r6_waiters.specs.Line.{Entries}

-- the block that is to be written; of a read there is none
abbrev pub block_written : Op → Option ℕ
block_written (op.Read block buffer) = None
block_written (op.Write block buffer) = Some block

-- the other blocks of the row
abbrev pub others_of : Layout → (row own : ℕ) → ℕ → Bool
others_of l row own block = (l.row_of block == row) && not (block == own)

-- it is one of those that are wanted
abbrev pub is_wanted : (ℕ → Bool) → Option ℕ → Bool
is_wanted wanted None = false
is_wanted wanted (Some block) = wanted block

-- and then wanted no more
abbrev pub but : (ℕ → Bool) → Option ℕ → ℕ → Bool
but wanted None = wanted
but wanted (Some block) = put wanted block false

-- of requests from the oldest to the newest: of each block that is wanted the oldest write
abbrev pub joined : (ℕ → Bool) → List Queued → List Queued
joined wanted [] = []
joined wanted (q ∷ newer) =
    let block = block_written q.op in
    if is_wanted wanted block then q ∷ joined (but wanted block) newer else joined wanted newer

-- and the others
abbrev pub left : (ℕ → Bool) → List Queued → List Queued
left wanted [] = []
left wanted (q ∷ newer) =
    let block = block_written q.op in
    if is_wanted wanted block then left (but wanted block) newer else q ∷ left wanted newer

-- so of the entries of a line
abbrev pub entries_left : (ℕ → Bool) → Entries Queued → Entries Queued
entries_left wanted [] = []
entries_left wanted (entry ∷ newer) =
    if is_wanted wanted (block_written entry.1.op) then entries_left (but wanted (block_written entry.1.op)) newer
    else entry ∷ entries_left wanted newer
