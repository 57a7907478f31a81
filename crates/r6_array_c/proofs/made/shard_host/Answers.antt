use Rattle.std.proofs.lemmas.Result.{err_from_is_err_and}
use Rattle.r6_array.specs.declared.error.ArrayError.TheVariants.{NoMemory}
use Rattle.r6_array_c.proofs.made.shard_host.Goals as goal

pub returns-in_err-gathered-clause-refused : goal.returns-in_err-gathered-clause-refused
returns-in_err-gathered-clause-refused c =
    let p = err_from_is_err_and c.from_residual-in_err-gathered.result c.from_residual-in_err-gathered.ensures.1 in
    rw (p.1, p.2) (NoMemory, c.in-Ok.ensures.right, c.in_err-gathered.ensures.refused)
