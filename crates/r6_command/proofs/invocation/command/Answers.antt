use Rattle.std.proofs.lemmas.Result.{err_from_is_err_and}
use Rattle.r6_command.proofs.invocation.command.Goals as goal

pub returns-in_err-matches-clause-err : goal.returns-in_err-matches-clause-err
returns-in_err-matches-clause-err c =
    let p = err_from_is_err_and c.from_residual.result c.from_residual.ensures.1 in
    rw p.1 (λ other plain. c.in_err-matches.ensures.err (λ memory. other (p.2.0 memory)) plain)
