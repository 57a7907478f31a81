use Rattle.std.proofs.Common.{length, refl}
use Rattle.r6_engine.proofs.RunnerLemmas.Parts.{still-room}
use Rattle.r6_engine.proofs.runner.runner.Runner.turn_one.Goals as goal

pub returns-clause-parts : goal.returns-clause-parts
returns-clause-parts g c =
    let on = c.turn.ensures.advances in
    record { labels = on.labels_stay; room = on.room_stays; site = on.site_stays; handed = refl; others = refl; here = on.here; window = on.lasts.window }

pub invariant_of-self-clause-parts_room : goal.invariant_of-self-clause-parts_room
invariant_of-self-clause-parts_room g c =
    let old = c.args.self.now in
    let on = c.turn.ensures.advances in
    still-room (g.P.Performs.performer old.shard.parts) (g.P.Performs.performer c.turn.new.self.parts) old.attaches (length old.handed.items) on.labels_stay on.room_stays old.parts_room
