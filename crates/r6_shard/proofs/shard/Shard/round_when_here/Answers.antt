use Rattle.std.proofs.Common.{◌∙◌}
use Rattle.r6_shard.proofs.Advances.{advances-on}
use Rattle.r6_shard.proofs.Seeing.{in-round}
use Rattle.r6_shard.proofs.Driving.{sends-since}
use Rattle.r6_shard.proofs.shard.Shard.round_when_here.Goals as goal

pub returns-clause-passed : goal.returns-clause-passed
returns-clause-passed g c = λ stopped counted rows x.
    c.collect_all.ensures.passed stopped counted rows (c.look_when_here-looked.ensures.passed stopped counted rows
    (c.tell_all.ensures.passed stopped counted rows (c.perform_all.ensures.passed stopped counted rows x)))

pub returns-clause-advances : goal.returns-clause-advances
returns-clause-advances g c =
    let old = c.args.self.now in
    let performed = c.perform_all.new.self in
    let told = c.tell_all.new.self in
    let looked = c.look_when_here-looked.new.self in
    advances-on old looked c.collect_all.new.self
    (advances-on old told looked (advances-on old performed told c.perform_all.ensures.advances c.tell_all.ensures.advances)
    c.look_when_here-looked.ensures.advances)
    c.collect_all.ensures.advances

pub returns-clause-looked : goal.returns-clause-looked
returns-clause-looked g c =
    in-round c.look_when_here-looked.result c.args.self.now c.perform_all.new.self c.tell_all.new.self c.look_when_here-looked.new.self c.collect_all.new.self
    c.perform_all.ensures.advances.labels_stay c.tell_all.ensures.advances.labels_stay
    (c.tell_all.ensures.last ∙ c.perform_all.ensures.last) c.tell_all.ensures.none c.collect_all.ensures.pass c.collect_all.ensures.last
    c.look_when_here-looked.ensures.looked

pub returns-clause-sent : goal.returns-clause-sent
returns-clause-sent g c =
    let performed = c.perform_all.new.self in
    let told = c.tell_all.new.self in
    let looked = c.look_when_here-looked.new.self in
    let new = c.collect_all.new.self in
    sends-since c.args.self.now performed new c.perform_all.ensures.sent
    (advances-on performed looked new (advances-on performed told looked c.tell_all.ensures.advances c.look_when_here-looked.ensures.advances)
    c.collect_all.ensures.advances)
