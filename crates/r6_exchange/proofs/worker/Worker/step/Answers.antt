use Rattle.std.proofs.Common.{◌++◌, ◌∷◌, [], refl, sym, ap, subst, ◌∙◌, arith}
use Rattle.r6_exchange.specs.declared.pass.WorkerPass.{WorkerPass}
use Rattle.r6_exchange.specs.declared.task.WorkerTask.{WorkerTask}
use Rattle.r6_exchange.specs.Exchanges.{IsWorkerPass, taken_by, given_by, room_of}
use Rattle.r6_exchange.proofs.Workers.{honest-answer, worker-performed, worker-took-up, room-there, worker-ended}
use Rattle.r6_exchange.proofs.worker.Worker.step.Goals as goal

pub give-requires-clause-honest : goal.give-requires-clause-honest
give-requires-clause-honest g c =
    let before = taken_by c.args.self.now.pass in
    honest-answer g.D.BlockDevice.told g.D.BlockDevice.promised c.args.exchange.now c.args.self.now c.perform-completion.new.self.pass c.in-Perform.command
    c.perform-completion.result c.perform-completion.new.self.parts.items c.requires
    (ap (λ (p : WorkerPass g.row.D.Denot). taken_by p) c.perform-completion.ensures.pass ∙ c.in-Some.ensures.taken
    ∙ ap (λ (t : WorkerTask g.row.D.Denot). before ++ t ∷ []) c.in-Perform.is)
    (ap (λ (p : WorkerPass g.row.D.Denot). given_by p) c.perform-completion.ensures.pass ∙ c.take.ensures.given)
    c.perform-completion.ensures.does

pub take_up-requires : goal.take_up-requires
take_up-requires g c =
    let before = taken_by c.args.self.now.pass in
    let r = room-there g.D.BlockDevice.told g.D.BlockDevice.promised c.args.exchange.now c.args.self.now c.take.new.pass c.in-TakeUp.served c.requires c.take.ensures.pass
    (c.in-Some.ensures.taken ∙ ap (λ (t : WorkerTask g.row.D.Denot). before ++ t ∷ []) c.in-TakeUp.is) c.take.ensures.room in
    let a = r.0 in
    let b = r.1 in
    record { room = (omega arith, omega arith) }

pub returns-in-Perform-clause-worker : goal.returns-in-Perform-clause-worker
returns-in-Perform-clause-worker g c =
    let before = taken_by c.args.self.now.pass in
    let e = c.perform-completion.ensures in
    let new = c.perform-completion.new.self in
    worker-performed g.D.BlockDevice.told g.D.BlockDevice.promised c.args.exchange.now c.args.self.now
    (record new { pass = c.give.new.pass }) c.in-Perform.command
    c.perform-completion.result c.requires c.give.ensures.pass
    (c.give.ensures.taken ∙ ap (λ (p : WorkerPass g.row.D.Denot). taken_by p) e.pass ∙ c.in-Some.ensures.taken
    ∙ ap (λ (t : WorkerTask g.row.D.Denot). before ++ t ∷ []) c.in-Perform.is)
    (c.give.ensures.given ∙ ap (λ (p : WorkerPass g.row.D.Denot). given_by p ++ c.perform-completion.result ∷ []) e.pass
    ∙ ap (λ y. y ++ c.perform-completion.result ∷ []) c.take.ensures.given)
    (c.give.ensures.room ∙ ap (λ (p : WorkerPass g.row.D.Denot). room_of p) e.pass ∙ c.take.ensures.room)
    e.does e.labels e.capacity e.replaced

pub returns-in-TakeUp-clause-worker : goal.returns-in-TakeUp-clause-worker
returns-in-TakeUp-clause-worker g c =
    let before = taken_by c.args.self.now.pass in
    let e = c.take_up.ensures in
    worker-took-up g.D.BlockDevice.told g.D.BlockDevice.promised c.args.exchange.now c.args.self.now c.take_up.new.self c.in-TakeUp.served c.requires
    (subst (λ (p : WorkerPass g.row.D.Denot). IsWorkerPass g.D.BlockDevice.told g.D.BlockDevice.promised c.args.exchange.now p) (sym e.pass) c.take.ensures.pass)
    (ap (λ (p : WorkerPass g.row.D.Denot). taken_by p) e.pass ∙ c.in-Some.ensures.taken
    ∙ ap (λ (t : WorkerTask g.row.D.Denot). before ++ t ∷ []) c.in-TakeUp.is)
    (ap (λ (p : WorkerPass g.row.D.Denot). given_by p) e.pass ∙ c.take.ensures.given)
    (ap (λ (p : WorkerPass g.row.D.Denot). room_of p) e.pass ∙ c.take.ensures.room)
    e.takes e.labels e.capacity.0 e.capacity.1

pub returns-in-End-clause-worker : goal.returns-in-End-clause-worker
returns-in-End-clause-worker g c =
    let before = taken_by c.args.self.now.pass in
    let w = c.args.self.now in
    worker-ended g.D.BlockDevice.told g.D.BlockDevice.promised c.args.exchange.now w
    (record w { pass = c.take.new.pass }) c.requires c.take.ensures.pass
    (c.in-Some.ensures.taken ∙ ap (λ (t : WorkerTask g.row.D.Denot). before ++ t ∷ []) c.in-End.is)
    c.take.ensures.given c.take.ensures.room refl refl
