use Rattle.std.proofs.Common.{refl, rules}
use Rattle.r6_simulate.proofs.Performing.{may_perform}
use Rattle.r6_simulate.proofs.devices.Devices.perform.Goals as goal

pub returns : goal.returns
returns c =
    may_perform c.perform_on.result c.args.self.now _ c.args.command.now _ c.in-Some.place c.index_mut.result.now _ c.in-Some.ensures (search rules, c.index_mut.ensures.value)
    c.perform_on.ensures refl (refl, refl)
