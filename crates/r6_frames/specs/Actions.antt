-- What a command does at its device.
use Rattle.std.specs.Prelude.{Bool, true, false}
use Rattle.r6_frames.specs.declared.command.Action.{Action}
use Rattle.r6_frames.specs.declared.command.Action.TheVariants as action
use Rattle.r6_world.specs.declared.values.CommandKind.{CommandKind}
use Rattle.r6_world.specs.declared.values.CommandKind.TheVariants as command

abbrev pub is_read : Action → Bool
is_read action.Read = true
is_read action.Write = false
is_read action.Copy = false

abbrev pub is_write : Action → Bool
is_write action.Read = false
is_write action.Write = true
is_write action.Copy = true

-- it goes to the second of two devices
abbrev pub is_copy : Action → Bool
is_copy action.Read = false
is_copy action.Write = false
is_copy action.Copy = true

abbrev pub kind_of : Action → CommandKind
kind_of action.Read = command.Read
kind_of action.Write = command.Write
kind_of action.Copy = command.Write
