-- How a script of `run` is written. The words are this project's own.
use Rattle.std.specs.Prelude.{◌≡◌, ◌≢◌, ℕ, ◌++◌, List, [], ◌∷◌, codes, decimal, map}
use denote.Ref.{Bor}
use Rattle.std.specs.List.{All, join_with_byte}
use Rattle.r6_script.specs.Script.{Text, ExplainsBy, IsByte, IsNumber, byte_word, without_comments}
use Rattle.r6_script.specs.declared.script.ScriptFault.{ScriptFault}
use Rattle.r6_script.specs.declared.run_event.RunEvent.{RunEvent}
use Rattle.r6_script.specs.declared.run_event.RunEvent.TheVariants.{Read, Write, Wait, Fail, Attach, Replace, Check, Repair}

-- a slot, and the path of its new device, which isn't empty
abbrev pub device_text : ℕ × Bor Text → Text
device_text device = decimal device.0 ++ 32 ∷ device.1.now

abbrev pub IsDevice : ℕ × Bor Text → Type 0
IsDevice device = IsNumber device.0 × (device.1.now ≢ [])

-- a line is words with one space between them; a path, which is the rest of its line, may have more of them
abbrev pub run_words_of : RunEvent → List Text
run_words_of (Read block) = codes "read" ∷ decimal block ∷ []
run_words_of (Write block byte) = codes "write" ∷ decimal block ∷ byte_word byte ∷ []
run_words_of Wait = codes "wait" ∷ []
run_words_of (Fail slot) = codes "fail" ∷ decimal slot ∷ []
run_words_of (Attach slot path) = codes "attach" ∷ decimal slot ∷ path.now ∷ []
run_words_of (Replace slot path) = codes "replace" ∷ decimal slot ∷ path.now ∷ []
run_words_of Check = codes "check" ∷ []
run_words_of Repair = codes "repair" ∷ []

abbrev pub run_line_of : RunEvent → Text
run_line_of event = join_with_byte 32 (run_words_of event)

-- the numbers of an event are numbers, its byte is one, and its path isn't empty
abbrev pub IsRunEvent : RunEvent → Type 0
IsRunEvent (Read block) = IsNumber block
IsRunEvent (Write block byte) = IsNumber block × IsByte byte
IsRunEvent Wait = Unit {0}
IsRunEvent (Fail slot) = IsNumber slot
IsRunEvent (Attach slot path) = IsDevice (slot, path)
IsRunEvent (Replace slot path) = IsDevice (slot, path)
IsRunEvent Check = Unit {0}
IsRunEvent Repair = Unit {0}

-- the lines of these events, comments and empty lines aside
abbrev pub SayRun : List Text → List RunEvent → Type 0
SayRun lines events = All IsRunEvent events × (without_comments lines ≡ map run_line_of events)

abbrev pub IsRunScript : List Text → Type 0
IsRunScript lines = (events : List RunEvent) × SayRun lines events

-- the first line with which the lines are no script; want of memory can come at any place
abbrev pub ExplainsRun : List Text → ScriptFault → Type 0
ExplainsRun lines fault = ExplainsBy IsRunScript lines fault
