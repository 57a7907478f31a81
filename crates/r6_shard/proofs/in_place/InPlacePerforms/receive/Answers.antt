use Rattle.std.proofs.Common.{sym, ◌∙◌}
use Rattle.r6_shard.proofs.Waiting.{receives}
use Rattle.r6_shard.proofs.in_place.InPlacePerforms.receive.Goals as goal

pub returns-clause-received : goal.returns-clause-received
returns-clause-received g c =
    let done = c.perform-result.ensures in
    receives g.D.BlockDevice.told g.D.BlockDevice.promised c.args.self.now c.perform-result.new.self c.in_ok-command.command c.perform-result.result
    (sym c.take.ensures.value ∙ c.in_ok-command.was) (done.waiting ∙ c.take.ensures.after) done.performed done.sound done.promised done.labels
    done.part_room
