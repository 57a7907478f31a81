-- The keys of a settings file. They are this project's own.
use Rattle.std.specs.Prelude.{ℕ, Bool, List, [], ◌∷◌, codes}
use Rattle.std.specs.List.{list_any}
use Rattle.std.specs.Str.{bytes_eq}
use Rattle.r6_settings.specs.declared.key.Key.{Key}
use Rattle.r6_settings.specs.declared.key.Key.TheVariants.{Slots, Chunk, Block, Rows, Shards, Window, Workers, Lost, Devices}

-- a key as a settings file writes it
abbrev pub name_of : Key → List ℕ
name_of Slots = codes "slots"
name_of Chunk = codes "chunk"
name_of Block = codes "block"
name_of Rows = codes "rows"
name_of Shards = codes "shards"
name_of Window = codes "window"
name_of Workers = codes "workers"
name_of Lost = codes "lost"
name_of Devices = codes "devices"

-- all the keys that settings have, in the order in which they are checked
abbrev pub keys : List Key
keys = Slots ∷ Chunk ∷ Block ∷ Rows ∷ Shards ∷ Window ∷ Workers ∷ Lost ∷ Devices ∷ []

-- the word names a key
abbrev pub is_key : List ℕ → Bool
is_key word = list_any (λ key. bytes_eq (name_of key) word) keys
