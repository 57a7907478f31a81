use Rattle.std.proofs.Common.{lit≤, sym, ◌∙◌, decimal}
use Rattle.r6_script.proofs.ScriptLemmas.{cut_number}
use Rattle.r6_script.proofs.parser.parse_command.Goals as goal

pub returns-in_err-parse_number : goal.returns-in_err-parse_number
returns-in_err-parse_number c =
    let found = c.in_ok-shard.ensures in
    rw c.from_residual-in_err-parse_number.ensures (λ shard token s t e. c.in_err-parse_number.ensures token t
    (cut_number 58 (lit≤ tt) c.in_ok-shard.shard shard c.in_ok-shard.token.now (decimal token) found.0 s (sym found.1 ∙ e)).1)
