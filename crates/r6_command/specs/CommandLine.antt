-- What the words of a command line say. The commands are this project's own; that the first `--` only ends
-- the options is POSIX's rule (Utility Conventions, guideline 10).
use Rattle.std.specs.Prelude.{◌≡◌, ℕ, ◌==◌, ◌||◌, Bool, false, List, [], ◌∷◌, Option, Some, None, codes, if◌then◌else◌, map, string_bytes, String}
use Rattle.std.specs.Str.{bytes_eq}
use Rattle.std.specs.declared.alloc.Global.{Global}
use Rattle.r6_command.specs.declared.invocation.Invocation.{Invocation}
use Rattle.r6_command.specs.declared.invocation.Invocation.TheVariants as invocation

abbrev pub Text : Type 0
Text = List ℕ

-- a command with the paths that it was given
pub data Asked : Type 0 where
  geometry : (config : Text) → Asked
  create : (config : Text) → Asked
  verify : (config : Text) → Asked
  simulate : (script : Text) → Asked
  run : (config script : Text) → Asked

-- the words without the first `--`
abbrev pub operands : List Text → List Text
operands [] = []
operands (word ∷ words) = if bytes_eq word (codes "--") then words else word ∷ operands words

-- the command of this name with these paths
abbrev pub command_with : (name : Text) (paths : List Text) → Option Asked
command_with name (path ∷ []) =
    if bytes_eq (codes "geometry") name then Some (geometry path)
    else if bytes_eq (codes "create") name then Some (create path)
    else if bytes_eq (codes "verify") name then Some (verify path)
    else if bytes_eq (codes "simulate") name then Some (simulate path)
    else None
command_with name (config ∷ script ∷ []) = if bytes_eq (codes "run") name then Some (run config script) else None
command_with name _ = None

-- what the words say: the program's own name, the command's name, and its paths
abbrev pub said : List Text → Option Asked
said (program ∷ name ∷ words) = command_with name (operands words)
said _ = None

-- the word is an option's: a hyphen, with more behind it
abbrev pub is_option : Text → Bool
is_option (letter ∷ next ∷ rest) = letter == 45
is_option _ = false

-- an option stands among the words, before the first `--`
abbrev pub has_option : List Text → Bool
has_option [] = false
has_option (word ∷ words) = if bytes_eq word (codes "--") then false else is_option word || has_option words

-- an option stands among the words after the command's name
abbrev pub asks_option : List Text → Bool
asks_option (program ∷ name ∷ words) = has_option words
asks_option _ = false

-- the words say no command, unless they ask for an option, as for help
abbrev pub SaysNoCommand : List Text → Type 0
SaysNoCommand words = asks_option words ≡ false → said words ≡ None

-- a command as the program holds it
abbrev pub asked_of : Invocation → Asked
asked_of (invocation.Geometry config) = geometry config.now
asked_of (invocation.Create config) = create config.now
asked_of (invocation.Verify config) = verify config.now
asked_of (invocation.Simulate script) = simulate script.now
asked_of (invocation.Run config script) = run config.now script.now

-- the texts of strings
abbrev pub texts : List (String Global) → List Text
texts = map string_bytes

-- the settings file that a command reads, and its script
abbrev pub config_of : Asked → Option Text
config_of (geometry config) = Some config
config_of (create config) = Some config
config_of (verify config) = Some config
config_of (simulate script) = None
config_of (run config script) = Some config

abbrev pub script_of : Asked → Option Text
script_of (simulate script) = Some script
script_of (run config script) = Some script
script_of other = None
