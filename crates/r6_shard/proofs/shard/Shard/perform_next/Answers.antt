use Rattle.std.proofs.Common.{inl, subst}
use Rattle.r6_shard.proofs.Advances.{advances-on, same-on}
use Rattle.r6_shard.specs.Driving.{SendsNext}
use Rattle.r6_shard.proofs.Driving.{performs-by}
use Rattle.r6_shard.proofs.shard.Shard.perform_next.Goals as goal

pub returns-clause-advances : goal.returns-clause-advances
returns-clause-advances g c =
    advances-on c.args.self.now c.hand_next.new.self c.receive_next.new.self c.hand_next.ensures.advances c.receive_next.ensures.advances

pub returns-clause-passed : goal.returns-clause-passed
returns-clause-passed g c = λ stopped counted rows x. c.receive_next.ensures.passed stopped counted rows (c.hand_next.ensures.passed stopped counted rows x)

pub returns-clause-ledger : goal.returns-clause-ledger
returns-clause-ledger g c =
    same-on c.args.self.now c.hand_next.new.self c.receive_next.new.self c.hand_next.ensures.ledger c.receive_next.ensures.ledger

pub returns-then-hand_next-clause-performed : goal.returns-then-hand_next-clause-performed
returns-then-hand_next-clause-performed g c =
    inl (subst (λ sent. SendsNext sent c.args.self.now c.hand_next.new.self) c.if-hand_next.true c.hand_next.ensures.sent)

pub returns-clause-performed : goal.returns-clause-performed
returns-clause-performed g c =
    let old = c.args.self.now in
    let mid = c.hand_next.new.self in
    performs-by c.receive_next.result old mid c.receive_next.new.self c.hand_next.ensures.advances
    (subst (λ sent. SendsNext sent old mid) c.if-hand_next.false c.hand_next.ensures.sent) c.receive_next.ensures.advances
    c.receive_next.ensures.received
