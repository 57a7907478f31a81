-- What the command `geometry` prints. The words are this project's own.
use Rattle.std.specs.Prelude.{ℕ, ◌+◌, ◌-◌, ◌*◌, min, [], ◌∷◌, ◌++◌, codes, decimal}
use Rattle.r6_layout.specs.Layout.{first_row, role_at}
use Rattle.r6_layout.specs.Shape.{Shape, blocks, chunk_rows}
use Rattle.r6_layout.specs.declared.place.Role.{Role}
use Rattle.r6_layout.specs.declared.place.Role.TheVariants.{Data, P, Q}
use Rattle.r6_script.specs.Script.{Text}
use Rattle.r6_script.specs.Texts.{line, texts_below}

-- what a slot keeps
abbrev pub role_text : Role → Text
role_text (Data index) = codes " d" ++ decimal index
role_text P = codes " p"
role_text Q = codes " q"

-- the numbers of the array
abbrev pub shape_line : Shape → Text
shape_line shape = line (codes "slots" ∷ decimal shape.slots ∷ codes "chunk" ∷ decimal shape.chunk
    ∷ codes "block" ∷ decimal shape.block ∷ codes "rows" ∷ decimal shape.rows
    ∷ codes "shards" ∷ decimal shape.shards ∷ codes "blocks" ∷ decimal (blocks shape) ∷ [])

-- a shard, with its first and its last device row
abbrev pub shard_line : Shape → (shard : ℕ) → Text
shard_line shape shard = line (codes "shard" ∷ decimal shard
    ∷ codes "rows" ∷ decimal (first_row shape shard) ∷ codes "to" ∷ decimal (first_row shape (shard + 1) - 1) ∷ [])

-- a chunk row, with what each slot keeps there
abbrev pub chunk_row_line : Shape → (chunk_row : ℕ) → Text
chunk_row_line shape chunk_row = codes "chunk row " ++ decimal chunk_row ++ codes ":"
    ++ texts_below (λ slot. role_text (role_at shape (chunk_row * shape.chunk) slot)) shape.slots ++ 10 ∷ []

-- after as many chunk rows as there are slots the layout begins again
abbrev pub layout_text : Shape → Text
layout_text shape = shape_line shape ++ texts_below (shard_line shape) shape.shards
    ++ texts_below (chunk_row_line shape) (min shape.slots (chunk_rows shape))
