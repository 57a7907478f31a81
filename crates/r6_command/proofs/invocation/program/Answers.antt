use Rattle.std.proofs.Common.{ap, ◌∙◌, true}
use Rattle.std.proofs.lemmas.Result.{IfOk-weaker}
use Rattle.clap.specs.Simple.{app_of_fields}
use Rattle.clap.specs.Words.{App}
use Rattle.clap.specs.declared.builder.command.Command.{Command}
use Rattle.clap.specs.declared.builder.command.Command.TheOpen.{Command-F}
use Rattle.r6_command.proofs.invocation.program.Goals as goal

abbrev Fields : Type 0
Fields = Command-F Command

pub returns : goal.returns
returns c =
    IfOk-weaker c.bin_name.result _ _
    (λ made is. ap app_of_fields is.0
    ∙ (ap app_of_fields c.disable_help_subcommand.ensures
    ∙ (ap (λ (f : Fields). app_of_fields (record f { disable_help_subcommand = true })) c.arg_required_else_help.ensures
    ∙ (ap (λ (f : Fields). app_of_fields (record f { arg_required_else_help = true; disable_help_subcommand = true })) c.subcommand_required.ensures
    ∙ (ap (λ (f : Fields). app_of_fields (record f { subcommand_required = true; arg_required_else_help = true; disable_help_subcommand = true })) c.about.ensures
    ∙ (ap (λ (f : Fields). app_of_fields (record f { subcommand_required = true; arg_required_else_help = true; disable_help_subcommand = true })) c.version.ensures
    ∙ ap (λ (a : App). record a { top = record a.top { subcommand_required = true; arg_required_else_help = true; disable_help_subcommand = true; has_version = true } }) c.new.ensures.app))))))
    c.bin_name.ensures
