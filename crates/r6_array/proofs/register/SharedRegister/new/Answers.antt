use Rattle.std.proofs.Common.{sym, subst}
use Rattle.r6_array.specs.Inside.{ReplacesOne}
use Rattle.r6_array.proofs.Replacing.{replaces-at-first}
use Rattle.r6_array.proofs.register.SharedRegister.new.Goals as goal

pub invariant_of-result : goal.invariant_of-result
invariant_of-result c = record { replaces = subst ReplacesOne (sym c.start-snapshot.ensures) (replaces-at-first c.args.lost) }
