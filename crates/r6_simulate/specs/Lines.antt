-- The lines that the command `simulate` prints. The words are this project's own.
use Rattle.std.specs.Prelude.{ℕ, List, [], ◌∷◌, ◌++◌, codes, decimal}
use Rattle.std.specs.List.{flat_map, join_with_byte}
use Rattle.r6_core.specs.declared.call.Call.{Call}
use Rattle.r6_core.specs.declared.call.Call.TheVariants as call
use Rattle.r6_world.specs.declared.values.Receipt.TheVariants.{Taken, Late}
use Rattle.r6_core.specs.declared.turn.Turn.TheVariants.{Started, Skipped}
use Rattle.r6_world.specs.declared.values.OpId.{OpId}
use Rattle.r6_world.specs.declared.values.Reply.{Reply}
use Rattle.r6_core.specs.declared.Command.{Command}
use Rattle.r6_core.specs.declared.CommandKind.{CommandKind}
use Rattle.r6_core.specs.declared.CommandKind.TheVariants as kind
use Rattle.r6_script.specs.Script.{Text, command_word}
use Rattle.r6_world.specs.Values as values
use Rattle.r6_kernels.specs.Texts.{block_text}
use Rattle.r6_health.specs.Texts.{answer_text}
use Rattle.r6_core.specs.Refusals.{refused_text}
use Rattle.r6_simulate.specs.declared.lines.EventOutcome.{EventOutcome}
use Rattle.r6_simulate.specs.declared.lines.EventOutcome.TheVariants.{Accepted, Performed, PerformedAlready, NoSuchCommand, NotPerformed, Received, Looked, Turned, Refused, Told, Nothing, Called, NoSuchShard}

-- a call at the register
abbrev pub call_text : Call → Text
call_text (call.DeclareLost slot generation) = codes "declare_lost " ++ decimal slot ++ 32 ∷ decimal generation
call_text (call.ReportRebuilt slot generation) = codes "report_rebuilt " ++ decimal slot ++ 32 ∷ decimal generation

-- what became of an event
abbrev pub outcome_text : EventOutcome → Text
outcome_text (Accepted shard id) = codes "op " ++ command_word shard id.0
outcome_text Performed = codes "performed"
outcome_text PerformedAlready = codes "performed already"
outcome_text NoSuchCommand = codes "no such command"
outcome_text NotPerformed = codes "not performed"
outcome_text (Received Taken) = codes "taken"
outcome_text (Received Late) = codes "late"
outcome_text Looked = codes "looked"
outcome_text (Turned Started) = codes "started"
outcome_text (Turned Skipped) = codes "skipped"
outcome_text (Refused refusal) = refused_text refusal
outcome_text (Told made answered) = call_text made.0 ++ codes ": " ++ answer_text answered.0
outcome_text Nothing = codes "nothing"
outcome_text (Called answered) = answer_text answered.0
outcome_text NoSuchShard = codes "no such shard"

-- a reply, behind what stands in its line
abbrev pub reply_text : (shard id : ℕ) → Reply → Text
reply_text shard id answer = codes " | reply " ++ command_word shard id ++ 32 ∷ values.reply_text answer

-- the block of a write goes with it
abbrev pub block_words : CommandKind → List ℕ → List Text
block_words kind.Read block = []
block_words kind.Write block = block_text block ∷ []

abbrev pub kind_word : CommandKind → Text
kind_word kind.Read = codes "read"
kind_word kind.Write = codes "write"

-- a command, behind what stands in its line
abbrev pub command_text : (shard : ℕ) → Command → Text
command_text shard command = codes " | " ++ join_with_byte 32 (
    command_word shard command.token ∷ kind_word command.kind ∷ codes "slot" ∷ decimal command.slot
    ∷ codes "gen" ∷ decimal command.generation ∷ codes "row" ∷ decimal command.row
    ∷ block_words command.kind command.buffer)

-- what a shard puts out
abbrev pub replies_text : (shard : ℕ) → List (OpId × Reply) → Text
replies_text shard replies = flat_map (λ r. reply_text shard (r.0).0 r.1) replies

abbrev pub commands_text : (shard : ℕ) → List Command → Text
commands_text shard commands = flat_map (command_text shard) commands
