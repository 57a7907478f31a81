use Rattle.std.proofs.Common.{ap, codes, ◌∙◌}
use Rattle.std.proofs.lemmas.Result.{IfOk-weaker}
use Rattle.clap.specs.Words.{App}
use Rattle.r6_command.specs.Grammar.{with_command}
use Rattle.r6_command.specs.declared.invocation.Paths.TheVariants.{Config, Script, Both}
use Rattle.r6_command.proofs.invocation.grammar.Goals as goal

abbrev with_three : App → App
with_three a = with_command (with_command (with_command a Config (codes "geometry")) Config (codes "create")) Config (codes "verify")

pub returns : goal.returns
returns c =
    IfOk-weaker c.with_shown-2.result _ _
    (λ made is. is
    ∙ ap (λ (a : App). with_command a Both (codes "run")) (c.in_ok-program-3.ensures
    ∙ ap (λ (a : App). with_command a Script (codes "simulate")) (c.in_ok-program-2.ensures
    ∙ ap with_three c.in_ok-program.ensures)))
    c.with_shown-2.ensures
