use Rattle.std.proofs.Common.{inr}
use Rattle.r6_shard.proofs.Advances.{advances-on, same-on}
use Rattle.r6_shard.proofs.Driving.{nothing-by, sends-behind}
use Rattle.r6_shard.proofs.shard.Shard.hand_next.Goals as goal

pub returns-clause-advances : goal.returns-clause-advances
returns-clause-advances g c =
    advances-on c.args.self.now c.make_room.new.self c.send_next.new.self c.make_room.ensures.advances c.send_next.ensures.advances

pub returns-clause-passed : goal.returns-clause-passed
returns-clause-passed g c = λ stopped counted rows x. c.send_next.ensures.passed stopped counted rows (c.make_room.ensures.passed stopped counted rows x)

pub returns-clause-ledger : goal.returns-clause-ledger
returns-clause-ledger g c =
    same-on c.args.self.now c.make_room.new.self c.send_next.new.self c.make_room.ensures.ledger c.send_next.ensures.ledger

pub returns-then-not-make_room-clause-sent : goal.returns-then-not-make_room-clause-sent
returns-then-not-make_room-clause-sent g c =
    let made = c.make_room.ensures in (
      nothing-by c.args.self.now c.make_room.new.self made.core made.performer made.pass made.named made.last made.saw_out made.ledger,
      inr (made.full c.if-not-make_room.true),
    )

pub returns-clause-sent : goal.returns-clause-sent
returns-clause-sent g c =
    let old = c.args.self.now in
    let mid = c.make_room.new.self in
    let made = c.make_room.ensures in
    sends-behind c.send_next.result old mid c.send_next.new.self made.core
    (nothing-by old mid made.core made.performer made.pass made.named made.last made.saw_out made.ledger) c.send_next.ensures.sent
