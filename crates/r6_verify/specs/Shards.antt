-- The same array, with another number of shards (this project's own).
use Rattle.std.specs.Prelude.{ℕ, max, min}
use Rattle.r6_layout.specs.Shape.{Shape, chunk_rows}

-- the array whose rows so many shards share. No place of a block depends on the shards, so its layout is the same
abbrev pub with_shards : Shape → (shards : ℕ) → Shape
with_shards shape shards = record shape { shards = shards }

-- so many shards, or as many as the array may have: at least one, at most 16, and at most one for each chunk row
abbrev pub allowed_shards : Shape → (wanted : ℕ) → ℕ
allowed_shards shape wanted = max (min wanted (min 16 (chunk_rows shape))) 1
