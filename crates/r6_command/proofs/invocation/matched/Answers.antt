use Rattle.std.proofs.Common.{ap, subst, sym, ◌∙◌}
use Rattle.clap.specs.Kinds.{FailsBy, Kinds}
use Rattle.clap.specs.Words.{App, is_simple, subcommand_of}
use Rattle.clap.specs.Faults.{fault_of, is_simple_and_free}
use Rattle.r6_command.specs.CommandLine.{texts}
use Rattle.r6_command.specs.Grammar.{asked_in}
use Rattle.r6_command.proofs.GrammarLemmas.{IfOk-faultless, accepted}
use Rattle.r6_command.proofs.Taken.{refusal_says_none}
use Rattle.r6_command.proofs.invocation.matched.Goals as goal

pub returns-clause-ok : goal.returns-clause-ok
returns-clause-ok c =
    let words = texts c.args.words.now in
    let parse = c.try_get_matches_from in
    let is = c.in_ok-grammar.ensures in
    IfOk-faultless parse.result _ _ _ parse.ensures.matches (parse.ensures.kinds (ap is_simple_and_free is))
    (λ m found none.
    let asked = accepted words (sym (ap (λ (a : App). fault_of a words) is) ∙ none) in
    let entered = (found (ap is_simple is)).1 ∙ ap (λ (a : App). subcommand_of a words) is in
    (asked.0, ap asked_in entered ∙ asked.1, asked.2))

pub returns-clause-err : goal.returns-clause-err
returns-clause-err c =
    let words = texts c.args.words.now in
    let parse = c.try_get_matches_from in
    let is = c.in_ok-grammar.ensures in
    refusal_says_none parse.result words (subst (λ (kinds : Kinds). FailsBy kinds parse.result) (ap (λ (a : App). fault_of a words) is) (parse.ensures.kinds (ap is_simple_and_free is)))
