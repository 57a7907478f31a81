-- The passes of a test's shards.
use Rattle.std.specs.Prelude.{ℕ, ◌<◌, List, length, slice_index_or}
use Rattle.r6_layout.specs.Shape.{Shape}
use Rattle.r6_health.specs.declared.pass.Pass.{Pass}
use Rattle.r6_health.specs.declared.register.Register.{Register}
use Rattle.r6_health.specs.Passes.{IsPassOf, view_of}
use Rattle.r6_health.specs.Registers.{starting}
use Rattle.r6_shard.specs.Beginnings.{IsFirstPass}

-- the pass is that of the shard of this number, as it begins at a register of which no slot is lost
abbrev pub IsFirst : Register → Shape → (number : ℕ) → Pass → Type 0
IsFirst register geometry number pass =
    IsPassOf register pass × IsFirstPass geometry number (starting 0) (view_of pass)

-- they are those of the shards from the first on
abbrev pub AreFirst : Register → Shape → List Pass → Type 0
AreFirst register geometry passes =
    (k : ℕ) (d : Pass) → k < length passes → IsFirst register geometry k (slice_index_or passes k d)
