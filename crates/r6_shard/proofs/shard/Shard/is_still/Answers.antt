use Rattle.std.proofs.Common.{◌≡◌, Bool, true, false, not, refl, ap, ◌∙◌}
use Rattle.std.proofs.lemmas.Bool.{false≢true}
use Rattle.r6_core.specs.Shards.{world_shard}
use Rattle.r6_shard.specs.Performing.{Performer}
use Rattle.r6_shard.proofs.Advances.{advances-none, advances-on, same-on}
use Rattle.r6_shard.proofs.Out.{none-out}
use Rattle.r6_shard.proofs.shard.Shard.is_still.Goals as goal

not-was : (b : Bool) → not b ≡ true → b ≡ false
not-was true e = absurd (false≢true e)
not-was false e = refl

pub returns-then-not-is_idle-clause-advances : goal.returns-then-not-is_idle-clause-advances
returns-then-not-is_idle-clause-advances g c = advances-none c.args.self.now

pub returns-clause-advances : goal.returns-clause-advances
returns-clause-advances g c =
    advances-on c.args.self.now c.make_room.new.self c.send_next.new.self c.make_room.ensures.advances c.send_next.ensures.advances

pub returns-clause-passed : goal.returns-clause-passed
returns-clause-passed g c = λ stopped counted rows x. c.send_next.ensures.passed stopped counted rows (c.make_room.ensures.passed stopped counted rows x)

pub returns-clause-ledger : goal.returns-clause-ledger
returns-clause-ledger g c =
    same-on c.args.self.now c.make_room.new.self c.send_next.new.self c.make_room.ensures.ledger c.send_next.ensures.ledger

pub returns-clause-still : goal.returns-clause-still
returns-clause-still g c = λ e.
    let new = c.send_next.new.self in
    let none = c.send_next.ensures.none (not-was c.send_next.result e) in
    let same = none.1 ∙ c.make_room.ensures.performer in
    none-out new.core.shape new.core.shard (g.P.Performs.performer new.parts).out (world_shard new.core) new.kept.3
    (λ token. ap (λ (p : Performer). p.out token) same ∙ c.is_idle.ensures c.if-not-is_idle.false token) none.0
