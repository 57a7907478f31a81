use Rattle.std.proofs.Common.{◌≡◌, Some, ap, ap₂, sym, ◌∙◌, codes}
use Rattle.std.specs.Box.{box_value}
use Rattle.clap.specs.Matches.{found_of}
use Rattle.clap.specs.Walk.{rows_of}
use Rattle.clap.specs.Words.{subcommand_rows_of}
use Rattle.clap.specs.declared.parser.matches.ArgMatches.TheViews.{out-ArgMatches, out-SubCommand}
use Rattle.clap.proofs.WalkLemmas.{first_value-rows}
use Rattle.r6_command.specs.Grammar.{asked_in, named}
use Rattle.r6_command.proofs.GrammarLemmas.{paired}
use Rattle.r6_command.proofs.invocation.asked.Goals as goal

pub returns-in-Some : goal.returns-in-Some
returns-in-Some c =
    let name = c.in-Some.name.now in
    let rows = rows_of (found_of c.in-Some.paths.now) in
    let found : subcommand_rows_of c.args.matches.now ≡ Some (name, rows) = paired (λ b. (out-SubCommand (box_value b)).name.now) (λ b. rows_of (found_of (out-SubCommand (box_value b)).matches))
    (out-ArgMatches c.args.matches.now).subcommand name rows c.in-Some.ensures.name c.in-Some.ensures.rows in
    c.named.ensures ∙ ap₂ (named name) (c.get_str.ensures ∙ first_value-rows (found_of c.in-Some.paths.now) (codes "first")) (c.get_str-in-Some.ensures ∙ first_value-rows (found_of c.in-Some.paths.now) (codes "second")) ∙ sym (ap asked_in found)
