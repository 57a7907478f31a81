use Rattle.std.proofs.Common.{sym, subst}
use Rattle.r6_array.specs.Inside.{ReplacesOne}
use Rattle.r6_array.proofs.Replacing.{replaces-after}
use Rattle.r6_array.proofs.register.SharedRegister.come.Goals as goal

pub invariant_of-self : goal.invariant_of-self
invariant_of-self c =
    let old = c.args.self.now in
    record { replaces = subst ReplacesOne (sym c.in-Ok.ensures.1) (replaces-after _ _ old.snapshot c.args.call c.in-Ok.answer c.in-Ok.ensures.0 old.replaces) }
