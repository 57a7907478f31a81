use Rattle.r6_exchange.specs.Exchanges.{sent_by, limit_of}
use Rattle.r6_exchange.proofs.Deliveries.{room-end}
use Rattle.r6_exchange.proofs.threads.drive.Goals as goal

pub send-requires-clause-room : goal.send-requires-clause-room
send-requires-clause-room g c =
    room-end (limit_of c.send_all.new.pass) (sent_by c.send_all.new.pass) c.send_all.ensures.collecting.pass.room
