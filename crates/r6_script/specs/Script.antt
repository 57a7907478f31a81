-- How a script is written. The words are this project's own.
use Rattle.std.specs.Prelude.{◌≡◌, ◌≢◌, ℕ, ◌-◌, ◌^◌, ◌<◌, ◌++◌, ◌==◌, Bool, true, not, List, [], ◌∷◌, codes, decimal, map, filter, take, Option, Some, None, option_map, MatchOption}
use Rattle.std.specs.Char.{digit_char}
use Rattle.std.specs.List.{All, join_with_byte, slice_split}
pub use Rattle.r6_kernels.specs.Texts.{byte_word}
use Rattle.r6_layout.specs.Shape.{Shape, IsShape}
use Rattle.r6_script.specs.declared.script.Call.{Call}
use Rattle.r6_script.specs.declared.script.Call.TheVariants.{Perform, Answer, Do, Tell, Look, Turn}
use Rattle.r6_script.specs.declared.script.Completion.{Completion}
use Rattle.r6_script.specs.declared.script.Completion.TheVariants.{Good, Error, Gone}
use Rattle.r6_script.specs.declared.script.Task.{Task}
use Rattle.r6_script.specs.declared.script.Task.TheVariants.{Rebuild, Check, Repair}
use Rattle.r6_script.specs.declared.script.Event.{Event}
use Rattle.r6_script.specs.declared.script.Event.TheVariants.{Read, Write, At, Fail, Attach, Replace}
use Rattle.r6_script.specs.declared.script.Script.{Script}
use Rattle.r6_script.specs.declared.script.ScriptFault.{ScriptFault}
use Rattle.r6_script.specs.declared.script.ScriptFault.TheVariants.{Line, Memory}

abbrev pub Text : Type 0
Text = List ℕ

-- ---- words

-- a number, by which blocks, shards and commands are named, is below 2^64, and its word is decimal
abbrev pub IsNumber : ℕ → Type 0
IsNumber n = n < 2 ^ 64

-- a byte, whose word is two hexadecimal digits
abbrev pub IsByte : ℕ → Type 0
IsByte byte = byte < 256

-- the word of a shard's command
abbrev pub command_word : (shard token : ℕ) → Text
command_word shard token = decimal shard ++ 58 ∷ decimal token

-- the word of a completion
abbrev pub completion_word : Completion → Text
completion_word Good = codes "ok"
completion_word Error = codes "error"
completion_word Gone = codes "gone"

abbrev pub IsCompletion : Completion → Type 0
IsCompletion completion = Unit {0}

-- the word of a task
abbrev pub task_word : Task → Text
task_word Rebuild = codes "rebuild"
task_word Check = codes "check"
task_word Repair = codes "repair"

abbrev pub IsTask : Task → Type 0
IsTask task = Unit {0}

-- ---- lines: words, with one space between them

abbrev pub words_of_call : (shard : ℕ) → Call → List Text
words_of_call shard (Perform token) = codes "perform" ∷ command_word shard token ∷ []
words_of_call shard (Answer token completion) =
    codes "answer" ∷ command_word shard token ∷ completion_word completion ∷ []
words_of_call shard (Do token) = codes "do" ∷ command_word shard token ∷ []
words_of_call shard Tell = codes "tell" ∷ decimal shard ∷ []
words_of_call shard Look = codes "look" ∷ decimal shard ∷ []
words_of_call shard (Turn task) = codes "turn" ∷ decimal shard ∷ task_word task ∷ []

abbrev pub words_of : Event → List Text
words_of (Read block) = codes "read" ∷ decimal block ∷ []
words_of (Write block byte) = codes "write" ∷ decimal block ∷ byte_word byte ∷ []
words_of (At shard call) = words_of_call shard call
words_of (Fail slot) = codes "fail" ∷ decimal slot ∷ []
words_of (Attach slot) = codes "attach" ∷ decimal slot ∷ []
words_of (Replace slot) = codes "replace" ∷ decimal slot ∷ []

abbrev pub words_of_array : Shape → List Text
words_of_array shape =
    codes "array" ∷ decimal shape.slots ∷ decimal shape.chunk ∷ decimal shape.block ∷ decimal shape.rows
    ∷ decimal shape.shards ∷ []

abbrev pub line_of : Event → Text
line_of event = join_with_byte 32 (words_of event)

abbrev pub array_line : Shape → Text
array_line shape = join_with_byte 32 (words_of_array shape)

-- the numbers of an event are numbers, and its byte is one
abbrev pub IsCall : Call → Type 0
IsCall (Perform token) = IsNumber token
IsCall (Answer token completion) = IsNumber token
IsCall (Do token) = IsNumber token
IsCall Tell = Unit {0}
IsCall Look = Unit {0}
IsCall (Turn task) = IsTask task

abbrev pub IsEvent : Event → Type 0
IsEvent (Read block) = IsNumber block
IsEvent (Write block byte) = IsNumber block × IsByte byte
IsEvent (At shard call) = IsNumber shard × IsCall call
IsEvent (Fail slot) = IsNumber slot
IsEvent (Attach slot) = IsNumber slot
IsEvent (Replace slot) = IsNumber slot

-- ---- scripts

-- what a script says: its array and its events, or nothing
abbrev pub Said : Type 0
Said = Option (Shape × List Event)

abbrev pub IsSaid : Said → Type 0
IsSaid None = Unit {0}
IsSaid (Some said) = IsShape said.0 × All IsEvent said.1

-- the lines that say it
abbrev pub lines_saying : Said → List Text
lines_saying None = []
lines_saying (Some said) = array_line said.0 ∷ map line_of said.1

-- lines end by a newline. What follows the last one is a line too, which may be empty
abbrev pub lines_of : Text → List Text
lines_of text = slice_split (λ byte. byte == 10) text

-- empty lines, and lines that begin with `#`, are passed over
abbrev pub is_passed_over : Text → Bool
is_passed_over [] = true
is_passed_over (byte ∷ bytes) = byte == 35

abbrev pub without_comments : List Text → List Text
without_comments lines = filter (λ line. not (is_passed_over line)) lines

abbrev pub Say : List Text → Said → Type 0
Say lines said = IsSaid said × (without_comments lines ≡ lines_saying said)

abbrev pub IsScript : List Text → Type 0
IsScript lines = (said : Said) × Say lines said

-- the first line with which the lines are no script of a kind, counted from 1
abbrev pub IsFirstFault : (IsOfKind : List Text → Type 0) → List Text → ℕ → Type 0
IsFirstFault IsOfKind lines number = IsOfKind (take (number - 1) lines) × ¬ IsOfKind (take number lines)

-- want of memory can come at any place
abbrev pub ExplainsBy : (IsOfKind : List Text → Type 0) → List Text → ScriptFault → Type 0
ExplainsBy IsOfKind lines (Line number) = IsFirstFault IsOfKind lines number
ExplainsBy IsOfKind lines Memory = Unit {0}

abbrev pub Explains : List Text → ScriptFault → Type 0
Explains lines fault = ExplainsBy IsScript lines fault

-- the same, as the program holds it
abbrev pub said_of : Option Script → Said
said_of script = option_map (λ s. (s.geometry, s.events.items)) script

-- how a fault is printed
abbrev pub fault_text : ScriptFault → Text
fault_text (Line number) = codes "script: line " ++ decimal number
fault_text Memory = codes "memory"

-- a line after those that were read, and what they say then
abbrev pub Adds : Said → Text → Said → Type 0
Adds before line said = IsSaid said × (lines_saying said ≡ lines_saying before ++ line ∷ [])

abbrev pub CannotAdd : Said → Text → Type 0
CannotAdd before line = (said : Said) → ¬ Adds before line said

-- the answer of a reader of one hexadecimal digit
abbrev pub ReadsDigit : ℕ → Option ℕ → Type 0
ReadsDigit byte answer =
    MatchOption answer ((d : ℕ) → d < 16 → byte ≢ digit_char d) (λ d. (d < 16) × (byte ≡ digit_char d))

-- the answer of a reader of one thing: the value whose text it is, if there is one
abbrev pub Reads : {A : Type 0} → (text_of : A → Text) → (Is : A → Type 0) → Text → Option A → Type 0
Reads text_of Is text answer =
    MatchOption answer ((value : _) → Is value → text ≢ text_of value) (λ value. Is value × (text ≡ text_of value))
