use Rattle.std.proofs.Common.{ap, codes, ◌∙◌}
use Rattle.std.proofs.lemmas.Result.{IfOk-weaker}
use Rattle.clap.specs.Words.{App}
use Rattle.r6_command.specs.Grammar.{with_command}
use Rattle.r6_command.specs.declared.invocation.Paths.TheVariants.{Config}
use Rattle.r6_command.proofs.invocation.with_settings.Goals as goal

pub returns : goal.returns
returns c =
    IfOk-weaker c.with_shown-3.result _ _
    (λ made is. is
    ∙ ap (λ (a : App). with_command a Config (codes "verify")) (c.in_ok-program-2.ensures
    ∙ ap (λ (a : App). with_command a Config (codes "create")) c.in_ok-program.ensures))
    c.with_shown-3.ensures
