use Rattle.std.proofs.Common.{ap, length, refl}
use Rattle.r6_shard.specs.Performing.{Performer}
use Rattle.r6_engine.proofs.RunnerLemmas.Learning.{keeps-else}
use Rattle.r6_engine.proofs.RunnerLemmas.Parts.{still-room}
use Rattle.r6_engine.proofs.runner.runner.Runner.learn.Goals as goal

pub returns-clause-kept : goal.returns-clause-kept
returns-clause-kept g c =
    keeps-else c.args.self.now _ c.learn.ensures.kept c.learn.ensures.advances.course refl refl
    (record { due = refl; scrub = refl; scrubs_done = refl; handed = refl; others = refl; room = refl; rows = refl })

pub invariant_of-self-clause-parts_room : goal.invariant_of-self-clause-parts_room
invariant_of-self-clause-parts_room g c =
    let old = c.args.self.now in
    let performer = ap g.P.Performs.performer c.learn.ensures.kept.parts in
    still-room (g.P.Performs.performer old.shard.parts) (g.P.Performs.performer c.learn.new.self.parts) old.attaches (length old.handed.items)
    (ap (λ (p : Performer). p.labels) performer) (ap (λ (p : Performer). p.part_room) performer) old.parts_room
