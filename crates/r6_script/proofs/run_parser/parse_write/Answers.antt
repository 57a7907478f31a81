use Rattle.std.proofs.Common.{lit≤, sym, ◌∙◌}
use Rattle.r6_script.specs.Script.{byte_word}
use Rattle.r6_script.proofs.ScriptLemmas.{cut_number}
use Rattle.r6_script.proofs.RunLemmas.{only_write}
use Rattle.r6_script.proofs.run_parser.parse_write.Goals as goal

pub returns-in_err-parse_byte : goal.returns-in_err-parse_byte
returns-in_err-parse_byte c =
    let found = c.in_ok-block.ensures in
    rw c.from_residual-in_err-parse_byte.ensures (λ event is e. let said = only_write c.args.text.now event e is in
    c.in_err-parse_byte.ensures said.1 said.3
    (cut_number 32 (lit≤ tt) c.in_ok-block.block said.0 c.in_ok-block.word.now (byte_word said.1) found.0 said.2 (sym found.1 ∙ said.4)).1)
