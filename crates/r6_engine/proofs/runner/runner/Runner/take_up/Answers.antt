use Rattle.std.proofs.Common.{◌∙◌, Some, refl, ap, sym, subst}
use Rattle.r6_engine.specs.lists.Events.{Serves, Checks, Repairs, task}
use Rattle.r6_engine.specs.lists.Lists.{duty_in}
use Rattle.r6_world.specs.declared.values.Op.TheVariants as op
use Rattle.r6_exchange.specs.declared.task.Part.{Part}
use Rattle.r6_engine.proofs.RunnerLemmas.Awaiting.{put-awaited, handed-awaited}
use Rattle.r6_engine.proofs.RunnerLemmas.Done.{put-on, handed-on}
use Rattle.r6_engine.proofs.RunnerLemmas.Keeping.{still-sound}
use Rattle.r6_engine.proofs.RunnerLemmas.Taken.{put-counted, put-self, put-count, handed-counted, handed-self, handed-count}
use Rattle.r6_engine.proofs.RunnerLemmas.Coming.{put-come, handed-come}
use Rattle.r6_engine.proofs.RunnerLemmas.Parts.{handed-own, put-own}
use Rattle.r6_engine.specs.runner.Parts.{HasPartRoom}
use Rattle.r6_engine.proofs.runner.runner.Runner.take_up.Goals as goal

pub returns-in-Read-clause-course : goal.returns-in-Read-clause-course
returns-in-Read-clause-course g c = λ numbers geometry snapshot before x.
    let i = c.args.item in
    put-on g.L.Events.shape g.L.Events.events geometry i.shard snapshot before numbers c.args.self.now c.put.new.self _
    i.number i.waits (Serves (op.Read c.in-Read.block c.in-Read.buffer))
    (i.of_event ∙ ap (λ w. Some (task i.number i.waits (duty_in g.D.BlockDevice.told w))) c.in-Read.is)
    refl refl refl c.put.ensures x

pub returns-in-Write-clause-course : goal.returns-in-Write-clause-course
returns-in-Write-clause-course g c = λ numbers geometry snapshot before x.
    let i = c.args.item in
    put-on g.L.Events.shape g.L.Events.events geometry i.shard snapshot before numbers c.args.self.now c.put-in-Write.new.self _
    i.number i.waits (Serves (op.Write c.in-Write.block c.in-Write.buffer))
    (i.of_event ∙ ap (λ w. Some (task i.number i.waits (duty_in g.D.BlockDevice.told w))) c.in-Write.is)
    refl refl refl c.put-in-Write.ensures x

pub returns-in-TakeUp-clause-course : goal.returns-in-TakeUp-clause-course
returns-in-TakeUp-clause-course g c = λ numbers geometry snapshot before x.
    let i = c.args.item in
    let part : Part _ = record { slot = c.in-TakeUp.slot; generation = c.in-TakeUp.generation; device = c.in-TakeUp.device } in
    handed-on g.D.BlockDevice.told g.D.BlockDevice.promised g.L.Events.shape g.L.Events.events geometry i.shard snapshot before numbers c.args.self.now c.hand_in.new.self
    i.number i.waits part
    (i.of_event ∙ ap (λ w. Some (task i.number i.waits (duty_in g.D.BlockDevice.told w))) c.in-TakeUp.is)
    c.hand_in.ensures.handed x

pub returns-in-Check-clause-course : goal.returns-in-Check-clause-course
returns-in-Check-clause-course g c = λ numbers geometry snapshot before x.
    let i = c.args.item in
    put-on g.L.Events.shape g.L.Events.events geometry i.shard snapshot before numbers c.args.self.now c.put-in-Check.new.self _
    i.number i.waits Checks
    (i.of_event ∙ ap (λ w. Some (task i.number i.waits (duty_in g.D.BlockDevice.told w))) c.in-Check.is)
    refl refl refl c.put-in-Check.ensures x

pub returns-in-Repair-clause-course : goal.returns-in-Repair-clause-course
returns-in-Repair-clause-course g c = λ numbers geometry snapshot before x.
    let i = c.args.item in
    put-on g.L.Events.shape g.L.Events.events geometry i.shard snapshot before numbers c.args.self.now c.put-in-Repair.new.self _
    i.number i.waits Repairs
    (i.of_event ∙ ap (λ w. Some (task i.number i.waits (duty_in g.D.BlockDevice.told w))) c.in-Repair.is)
    refl refl refl c.put-in-Repair.ensures x

pub returns-in-Read-clause-awaited : goal.returns-in-Read-clause-awaited
returns-in-Read-clause-awaited g c =
    let i = c.args.item in
    put-awaited g.L.Events.shape i.shard g.L.Events.events c.args.self.now c.put.new.self _ i.number i.waits _ i.of_event refl refl c.put.ensures

pub returns-in-Write-clause-awaited : goal.returns-in-Write-clause-awaited
returns-in-Write-clause-awaited g c =
    let i = c.args.item in
    put-awaited g.L.Events.shape i.shard g.L.Events.events c.args.self.now c.put-in-Write.new.self _ i.number i.waits _ i.of_event refl refl c.put-in-Write.ensures

pub returns-in-Check-clause-awaited : goal.returns-in-Check-clause-awaited
returns-in-Check-clause-awaited g c =
    let i = c.args.item in
    put-awaited g.L.Events.shape i.shard g.L.Events.events c.args.self.now c.put-in-Check.new.self _ i.number i.waits _ i.of_event refl refl c.put-in-Check.ensures

pub returns-in-Repair-clause-awaited : goal.returns-in-Repair-clause-awaited
returns-in-Repair-clause-awaited g c =
    let i = c.args.item in
    put-awaited g.L.Events.shape i.shard g.L.Events.events c.args.self.now c.put-in-Repair.new.self _ i.number i.waits _ i.of_event refl refl c.put-in-Repair.ensures

pub returns-in-TakeUp-clause-awaited : goal.returns-in-TakeUp-clause-awaited
returns-in-TakeUp-clause-awaited g c =
    let part : Part _ = record { slot = c.in-TakeUp.slot; generation = c.in-TakeUp.generation; device = c.in-TakeUp.device } in
    handed-awaited g.D.BlockDevice.told g.D.BlockDevice.promised g.L.Events.events c.args.self.now c.hand_in.new.self c.args.item.number part c.hand_in.ensures.handed

pub returns-in-Read-clause-sound : goal.returns-in-Read-clause-sound
returns-in-Read-clause-sound g c = λ slot promise x.
    still-sound g.L.Events.shape c.args.item.shard slot c.args.self.now.shard c.put.new.self.shard
    c.put.ensures.shard x

pub returns-in-Write-clause-sound : goal.returns-in-Write-clause-sound
returns-in-Write-clause-sound g c = λ slot promise x.
    still-sound g.L.Events.shape c.args.item.shard slot c.args.self.now.shard c.put-in-Write.new.self.shard
    c.put-in-Write.ensures.shard x

pub returns-in-Check-clause-sound : goal.returns-in-Check-clause-sound
returns-in-Check-clause-sound g c = λ slot promise x.
    still-sound g.L.Events.shape c.args.item.shard slot c.args.self.now.shard c.put-in-Check.new.self.shard
    c.put-in-Check.ensures.shard x

pub returns-in-Repair-clause-sound : goal.returns-in-Repair-clause-sound
returns-in-Repair-clause-sound g c = λ slot promise x.
    still-sound g.L.Events.shape c.args.item.shard slot c.args.self.now.shard c.put-in-Repair.new.self.shard
    c.put-in-Repair.ensures.shard x

pub returns-in-TakeUp-clause-sound : goal.returns-in-TakeUp-clause-sound
returns-in-TakeUp-clause-sound g c = λ slot promise x.
    let i = c.args.item in
    let own = c.in-TakeUp.slot in
    c.hand_in.ensures.sound g.L.Events.shape i.shard slot
    (λ same. i.promised own c.in-TakeUp.generation c.in-TakeUp.device c.in-TakeUp.is (subst (g.L.Events.sound i.shard) (sym same) promise)) x

pub returns-in-Read-clause-counted : goal.returns-in-Read-clause-counted
returns-in-Read-clause-counted g c = put-counted c.args.self.now c.put.new.self _ c.put.ensures

pub returns-in-Read-clause-same : goal.returns-in-Read-clause-same
returns-in-Read-clause-same g c = put-self c.args.self.now c.put.new.self _ c.put.ensures

pub returns-in-Read-clause-count : goal.returns-in-Read-clause-count
returns-in-Read-clause-count g c = put-count c.args.self.now c.put.new.self _ c.put.ensures

pub returns-in-Write-clause-counted : goal.returns-in-Write-clause-counted
returns-in-Write-clause-counted g c = put-counted c.args.self.now c.put-in-Write.new.self _ c.put-in-Write.ensures

pub returns-in-Write-clause-same : goal.returns-in-Write-clause-same
returns-in-Write-clause-same g c = put-self c.args.self.now c.put-in-Write.new.self _ c.put-in-Write.ensures

pub returns-in-Write-clause-count : goal.returns-in-Write-clause-count
returns-in-Write-clause-count g c = put-count c.args.self.now c.put-in-Write.new.self _ c.put-in-Write.ensures

pub returns-in-Check-clause-counted : goal.returns-in-Check-clause-counted
returns-in-Check-clause-counted g c = put-counted c.args.self.now c.put-in-Check.new.self _ c.put-in-Check.ensures

pub returns-in-Check-clause-same : goal.returns-in-Check-clause-same
returns-in-Check-clause-same g c = put-self c.args.self.now c.put-in-Check.new.self _ c.put-in-Check.ensures

pub returns-in-Check-clause-count : goal.returns-in-Check-clause-count
returns-in-Check-clause-count g c = put-count c.args.self.now c.put-in-Check.new.self _ c.put-in-Check.ensures

pub returns-in-Repair-clause-counted : goal.returns-in-Repair-clause-counted
returns-in-Repair-clause-counted g c = put-counted c.args.self.now c.put-in-Repair.new.self _ c.put-in-Repair.ensures

pub returns-in-Repair-clause-same : goal.returns-in-Repair-clause-same
returns-in-Repair-clause-same g c = put-self c.args.self.now c.put-in-Repair.new.self _ c.put-in-Repair.ensures

pub returns-in-Repair-clause-count : goal.returns-in-Repair-clause-count
returns-in-Repair-clause-count g c = put-count c.args.self.now c.put-in-Repair.new.self _ c.put-in-Repair.ensures

pub returns-in-TakeUp-clause-counted : goal.returns-in-TakeUp-clause-counted
returns-in-TakeUp-clause-counted g c =
    let part : Part _ = record { slot = c.in-TakeUp.slot; generation = c.in-TakeUp.generation; device = c.in-TakeUp.device } in
    handed-counted g.D.BlockDevice.told g.D.BlockDevice.promised c.args.self.now c.hand_in.new.self c.args.item.number part c.hand_in.ensures.handed

pub returns-in-TakeUp-clause-same : goal.returns-in-TakeUp-clause-same
returns-in-TakeUp-clause-same g c =
    let part : Part _ = record { slot = c.in-TakeUp.slot; generation = c.in-TakeUp.generation; device = c.in-TakeUp.device } in
    handed-self g.D.BlockDevice.told g.D.BlockDevice.promised c.args.self.now c.hand_in.new.self c.args.item.number part c.hand_in.ensures.handed

pub returns-in-TakeUp-clause-count : goal.returns-in-TakeUp-clause-count
returns-in-TakeUp-clause-count g c =
    let part : Part _ = record { slot = c.in-TakeUp.slot; generation = c.in-TakeUp.generation; device = c.in-TakeUp.device } in
    handed-count g.D.BlockDevice.told g.D.BlockDevice.promised c.args.self.now c.hand_in.new.self c.args.item.number part c.hand_in.ensures.handed

pub returns-in-Read-clause-own : goal.returns-in-Read-clause-own
returns-in-Read-clause-own g c = put-own c.args.self.now c.put.new.self _ c.put.ensures

pub returns-in-Write-clause-own : goal.returns-in-Write-clause-own
returns-in-Write-clause-own g c = put-own c.args.self.now c.put-in-Write.new.self _ c.put-in-Write.ensures

pub returns-in-Check-clause-own : goal.returns-in-Check-clause-own
returns-in-Check-clause-own g c = put-own c.args.self.now c.put-in-Check.new.self _ c.put-in-Check.ensures

pub returns-in-Repair-clause-own : goal.returns-in-Repair-clause-own
returns-in-Repair-clause-own g c = put-own c.args.self.now c.put-in-Repair.new.self _ c.put-in-Repair.ensures

pub returns-in-TakeUp-clause-own : goal.returns-in-TakeUp-clause-own
returns-in-TakeUp-clause-own g c =
    let part : Part _ = record { slot = c.in-TakeUp.slot; generation = c.in-TakeUp.generation; device = c.in-TakeUp.device } in
    handed-own g.D.BlockDevice.told g.D.BlockDevice.promised c.args.self.now c.hand_in.new.self c.args.item.number part c.hand_in.ensures.handed

pub returns-in-Read-clause-parts : goal.returns-in-Read-clause-parts
returns-in-Read-clause-parts g c = λ numbers x.
    let i = c.args.item in
    put-come g.L.Events.shape g.L.Events.events i.shard c.args.self.now c.put.new.self _ numbers i.number i.waits (Serves (op.Read c.in-Read.block c.in-Read.buffer))
    (i.of_event ∙ ap (λ w. Some (task i.number i.waits (duty_in g.D.BlockDevice.told w))) c.in-Read.is) refl c.put.ensures x

pub returns-in-Write-clause-parts : goal.returns-in-Write-clause-parts
returns-in-Write-clause-parts g c = λ numbers x.
    let i = c.args.item in
    put-come g.L.Events.shape g.L.Events.events i.shard c.args.self.now c.put-in-Write.new.self _ numbers i.number i.waits (Serves (op.Write c.in-Write.block c.in-Write.buffer))
    (i.of_event ∙ ap (λ w. Some (task i.number i.waits (duty_in g.D.BlockDevice.told w))) c.in-Write.is) refl c.put-in-Write.ensures x

pub returns-in-Check-clause-parts : goal.returns-in-Check-clause-parts
returns-in-Check-clause-parts g c = λ numbers x.
    let i = c.args.item in
    put-come g.L.Events.shape g.L.Events.events i.shard c.args.self.now c.put-in-Check.new.self _ numbers i.number i.waits Checks
    (i.of_event ∙ ap (λ w. Some (task i.number i.waits (duty_in g.D.BlockDevice.told w))) c.in-Check.is) refl c.put-in-Check.ensures x

pub returns-in-Repair-clause-parts : goal.returns-in-Repair-clause-parts
returns-in-Repair-clause-parts g c = λ numbers x.
    let i = c.args.item in
    put-come g.L.Events.shape g.L.Events.events i.shard c.args.self.now c.put-in-Repair.new.self _ numbers i.number i.waits Repairs
    (i.of_event ∙ ap (λ w. Some (task i.number i.waits (duty_in g.D.BlockDevice.told w))) c.in-Repair.is) refl c.put-in-Repair.ensures x

pub returns-in-TakeUp-clause-parts : goal.returns-in-TakeUp-clause-parts
returns-in-TakeUp-clause-parts g c = λ numbers x.
    let i = c.args.item in
    let part : Part _ = record { slot = c.in-TakeUp.slot; generation = c.in-TakeUp.generation; device = c.in-TakeUp.device } in
    handed-come g.L.Events.shape g.L.Events.events i.shard g.D.BlockDevice.told g.D.BlockDevice.promised c.args.self.now c.hand_in.new.self
    numbers i.number i.waits part
    (i.of_event ∙ ap (λ w. Some (task i.number i.waits (duty_in g.D.BlockDevice.told w))) c.in-TakeUp.is) c.hand_in.ensures.handed x

pub hand_in-requires-clause-part_room : goal.hand_in-requires-clause-part_room
hand_in-requires-clause-part_room g c = subst (λ w. HasPartRoom w c.args.self.now) c.in-TakeUp.is c.requires.part_room
