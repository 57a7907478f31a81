use Rattle.std.proofs.Common.{List, ◌++◌, subst}
use Rattle.r6_exchange.specs.declared.task.WorkerTask.{WorkerTask}
use Rattle.r6_exchange.specs.Deliveries.{HasRoom}
use Rattle.r6_exchange.specs.Exchanges.{sent_by, limit_of}
use Rattle.r6_exchange.proofs.Deliveries.{room-front}
use Rattle.r6_exchange.proofs.threads.send_all.Goals as goal

pub send-requires-clause-room : goal.send-requires-clause-room
send-requires-clause-room g c =
    let before = c.loop-task.pass in
    room-front (limit_of before) (sent_by before) c.in-Some.task c.pop_front.new.self.items
    (subst (λ (ts : List (WorkerTask g.row.D.Denot)). HasRoom (limit_of before) (sent_by before ++ ts)) c.in-Some.ensures.items c.loop-task.invariant.room)
