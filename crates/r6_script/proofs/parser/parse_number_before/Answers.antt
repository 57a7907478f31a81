use Rattle.std.proofs.Common.{◌++◌, ◌∷◌, Some, ap, ◌∙◌}
use Rattle.std.proofs.lemmas.Str.Pattern.{split_parts}
use Rattle.r6_script.specs.Script.{Text}
use Rattle.r6_script.proofs.ScriptLemmas.{uncut, cut_elsewhere}
use Rattle.r6_script.proofs.parser.parse_number_before.Goals as goal

pub returns-in_err-word : goal.returns-in_err-word
returns-in_err-word c =
    rw c.from_residual.ensures (uncut c.args.end c.requires.ascii c.requires.no_digit c.args.text.now c.in_err-word.ensures.cases)

pub returns-in_err-parse_number : goal.returns-in_err-parse_number
returns-in_err-parse_number c =
    rw c.from_residual-in_err-parse_number.ensures (cut_elsewhere c.args.end c.requires.ascii c.requires.no_digit c.args.text.now (c.in_ok-word.word, c.in_ok-word.rest) c.in_ok-word.ensures.cases c.in_err-parse_number.ensures)

pub returns : goal.returns
returns c = (
  c.in_ok-parse_number.ensures.0,
  (split_parts c.args.end c.args.text.now (Some (c.in_ok-word.word, c.in_ok-word.rest)) c.in_ok-word.ensures.cases c.requires.ascii).0
      ∙ ap (λ (word : Text). word ++ c.args.end ∷ c.in_ok-word.rest.now) c.in_ok-parse_number.ensures.1,
)
