-- A block as text. The words are this project's own.
use Rattle.std.specs.Prelude.{ℕ, ◌/◌, ◌%◌, ◌==◌, List, [], ◌∷◌, Option, Some, None, if◌then◌else◌}
use Rattle.std.specs.Char.{digit_char}
use Rattle.std.specs.List.{flat_map, list_all}
use Rattle.std.specs.Option.{option_map_or}

-- a byte, with its word of two hexadecimal digits
abbrev pub byte_word : ℕ → List ℕ
byte_word byte = digit_char (byte / 16) ∷ digit_char (byte % 16) ∷ []

-- the byte that all bytes of a block are, if they are equal
abbrev pub only_byte : List ℕ → Option ℕ
only_byte [] = None
only_byte (byte ∷ bytes) = if list_all (λ other. other == byte) bytes then Some byte else None

-- a block: its byte, if all its bytes are equal, else all of them
abbrev pub block_text : List ℕ → List ℕ
block_text block = option_map_or byte_word (only_byte block) (flat_map byte_word block)
