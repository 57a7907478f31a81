use Rattle.std.proofs.Common.{length, refl}
use Rattle.r6_engine.proofs.RunnerLemmas.Awaiting.{alike}
use Rattle.r6_engine.proofs.RunnerLemmas.Done.{has-gone}
use Rattle.r6_engine.proofs.RunnerLemmas.Counting.{keeps-counted}
use Rattle.r6_engine.proofs.RunnerLemmas.Parts.{still-room}
use Rattle.r6_engine.proofs.runner.runner.Runner.round.Goals as goal

pub returns-clause-course : goal.returns-clause-course
returns-clause-course g c = λ shape events number numbers geometry snapshot before x.
    let old = c.args.self.now in
    has-gone shape events geometry number snapshot before numbers old.shard c.round_when_here.new.self old.refused.items old.scrub
    old.scrubs_done.items old.handed.items old.due.items c.round_when_here.ensures.advances.course c.round_when_here.ensures.advances.lasts
    c.round_when_here.ensures.asked x

pub returns-clause-counted : goal.returns-clause-counted
returns-clause-counted g c =
    let old = c.args.self.now in
    keeps-counted old.rows old.shard.core c.round_when_here.new.self.core old.scrub old.scrubs_done.items c.round_when_here.ensures.passed
    c.round_when_here.ensures.advances.lasts

pub returns-clause-awaited : goal.returns-clause-awaited
returns-clause-awaited g c = λ events x.
    let old = c.args.self.now in
    alike events old.waits old.waits old.shard.asked.items c.round_when_here.new.self.asked.items old.due.items old.due.items refl c.round_when_here.ensures.asked refl x

pub returns-clause-parts : goal.returns-clause-parts
returns-clause-parts g c =
    let on = c.round_when_here.ensures.advances in
    record { labels = on.labels_stay; room = on.room_stays; site = on.site_stays; handed = refl; others = refl; here = on.here; window = on.lasts.window }

pub invariant_of-self-clause-parts_room : goal.invariant_of-self-clause-parts_room
invariant_of-self-clause-parts_room g c =
    let old = c.args.self.now in
    let on = c.round_when_here.ensures.advances in
    still-room (g.P.Performs.performer old.shard.parts) (g.P.Performs.performer c.round_when_here.new.self.parts) old.attaches (length old.handed.items) on.labels_stay on.room_stays old.parts_room

pub invariant_of-self-clause-unskipped : goal.invariant_of-self-clause-unskipped
invariant_of-self-clause-unskipped g c = λ clean. c.args.self.now.unskipped (c.round_when_here.ensures.advances.remembers clean)
