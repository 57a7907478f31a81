-- At which shard an event happens. This is the project's own.
use Rattle.std.specs.Prelude.{ℕ, if◌then◌else◌, nat_lt}
use Rattle.r6_layout.specs.Layout.{row_of, shard_of}
use Rattle.r6_layout.specs.Shape.{Shape, blocks}

-- the shard of a block; one that isn't there goes to shard 0
abbrev pub shard_of_block : Shape → (block : ℕ) → ℕ
shard_of_block shape block = if nat_lt block (blocks shape) then shard_of shape (row_of shape block) else 0
