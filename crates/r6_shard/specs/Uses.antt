-- Which devices of a slot a shard uses.
use Rattle.std.specs.Prelude.{◌≡◌, ℕ, ◌<◌, Some}
use Rattle.r6_world.specs.ShardStates as world
use Rattle.r6_world.specs.ShardStates.{Command}
use Rattle.r6_course.specs.Ends.{IsInUse}

-- the devices of this slot that a shard uses, and those that it has given commands, are among these
abbrev pub UsesOnly : (slots : ℕ) → (Has : ℕ → Type 0) → (slot : ℕ) → world.Shard → Type 0
UsesOnly slots Has slot s =
    (slot < slots → (generation : ℕ) → IsInUse (s.slot slot) generation → Has generation)
    × ((token : ℕ) (c : Command) → s.command token ≡ Some c → c.slot ≡ slot → Has c.generation)
