use Rattle.std.proofs.Common.{ap, ◌∙◌}
use Rattle.std.proofs.lemmas.Result.{IfOk-weaker}
use Rattle.clap.specs.Simple.{app_of_fields}
use Rattle.clap.specs.Words.{App, app_of, with_subcommand}
use Rattle.r6_command.proofs.Built.{has_globals_of}
use Rattle.r6_command.proofs.invocation.with_shown.Goals as goal

pub returns : goal.returns
returns c =
    let command = ap app_of_fields c.about.ensures ∙ c.in_ok-with_paths.ensures.app in
    IfOk-weaker c.subcommand.result _ _
    (λ made h. h.shape (ap has_globals_of c.about.ensures ∙ c.in_ok-with_paths.ensures.local) ∙ ap (λ (a : App). with_subcommand (app_of c.args.program) a.top) command)
    c.subcommand.ensures
