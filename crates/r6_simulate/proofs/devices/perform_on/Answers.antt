use Rattle.std.proofs.Common.{refl, subst, sym}
use Rattle.r6_simulate.specs.Devices.{MayPerformOn}
use Rattle.r6_simulate.proofs.Serving.{read_done, write_done}
use Rattle.r6_simulate.proofs.devices.perform_on.Goals as goal

pub returns-in-Read : goal.returns-in-Read
returns-in-Read c =
    let command = c.args.command.now in
    let done = record command { buffer = c.read.new.buffer } in
    let e = c.read.ensures in
    subst (λ performed. MayPerformOn performed c.args.device.now command c.read.new.self done) (sym c.is_ok.ensures.value)
    (read_done c.read.result c.args.device.now c.read.new.self command done c.in-Read.is e.answers e.kept e.unread e.refused e.nothing_else refl)

pub returns-in-Write : goal.returns-in-Write
returns-in-Write c =
    let command = c.args.command.now in
    let e = c.write.ensures in
    subst (λ performed. MayPerformOn performed c.args.device.now command c.write.new.self command) (sym c.is_ok-in-Write.ensures.value)
    (write_done c.write.result c.args.device.now c.write.new.self command c.in-Write.is e.answers e.unwritten e.refused e.nothing_else)
