use Rattle.std.proofs.Common.{refl, sym}
use Rattle.r6_exchange.proofs.Labels.{labels-set}
use Rattle.r6_exchange.proofs.Parts.{does-there}
use Rattle.r6_exchange.proofs.worker.Worker.perform_at.Goals as goal

pub returns-clause-does : goal.returns-clause-does
returns-clause-does g c =
    let here = c.index_mut-served.result.now in
    let done = c.perform_on-result.ensures in
    does-there g.D.BlockDevice.told g.D.BlockDevice.promised c.args.self.now.parts.items c.args.at here
    (record { part = record { slot = here.part.slot; generation = here.part.generation; device = c.perform_on-result.new.device }; steady = here.steady })
    c.args.command (record { token = c.args.command.token; slot = c.args.command.slot; result = c.perform_on-result.result })
    c.requires.place (sym c.index_mut-served.ensures.value) refl refl refl done.answers done.promised done.sound refl refl done.same_length

pub returns-clause-labels : goal.returns-clause-labels
returns-clause-labels g c =
    let here = c.index_mut-served.result.now in
    labels-set c.args.self.now.parts.items c.args.at here
    (record { part = record { slot = here.part.slot; generation = here.part.generation; device = c.perform_on-result.new.device }; steady = here.steady })
    c.requires.within (sym c.index_mut-served.ensures.value) refl
