use Rattle.std.proofs.Common.{◌++◌, ◌∷◌, lit≤, sym, ◌∙◌, decimal}
use Rattle.r6_script.specs.Script.{completion_word}
use Rattle.r6_script.proofs.ScriptLemmas.{cut_number, only_answer}
use Rattle.r6_script.proofs.parser.parse_answer.Goals as goal

pub returns-in_err-token : goal.returns-in_err-token
returns-in_err-token c =
    let found = c.in_ok-shard.ensures in
    rw c.from_residual-in_err-token.ensures (λ event is e. let said = only_answer c.args.text.now event e is in
    c.in_err-token.ensures said.1 (completion_word said.2) said.4
    (cut_number 58 (lit≤ tt) c.in_ok-shard.shard said.0 c.in_ok-shard.rest.now (decimal said.1 ++ 32 ∷ completion_word said.2) found.0 said.3 (sym found.1 ∙ said.5)).1)

pub returns-in_err-parse_completion : goal.returns-in_err-parse_completion
returns-in_err-parse_completion c =
    let shard = c.in_ok-shard.ensures in
    let token = c.in_ok-token.ensures in
    rw c.from_residual-in_err-parse_completion.ensures (λ event is e. let said = only_answer c.args.text.now event e is in
    let rest = cut_number 58 (lit≤ tt) c.in_ok-shard.shard said.0 c.in_ok-shard.rest.now (decimal said.1 ++ 32 ∷ completion_word said.2) shard.0 said.3 (sym shard.1 ∙ said.5) in
    c.in_err-parse_completion.ensures said.2 tt
    (cut_number 32 (lit≤ tt) c.in_ok-token.token said.1 c.in_ok-token.word.now (completion_word said.2) token.0 said.4 (sym token.1 ∙ rest.1)).1)
