-- A field of clap's command, as its contracts speak of it.
use Rattle.std.proofs.Common.{Bool}
use Rattle.clap.specs.declared.builder.command.Command.{Command}
use Rattle.clap.specs.declared.builder.command.Command.TheOpen.{Command-F}

abbrev pub has_globals_of : Command-F Command → Bool
has_globals_of fields = fields.has_globals
