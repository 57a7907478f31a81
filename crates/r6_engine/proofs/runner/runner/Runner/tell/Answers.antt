use Rattle.std.proofs.Common.{ap, length, refl, sym, ◌∙◌}
use Rattle.r6_health.specs.Passes.{view_of}
use Rattle.r6_health.specs.Views.{joined}
use Rattle.r6_shard.specs.Performing.{Performer}
use Rattle.r6_engine.proofs.RunnerLemmas.Keeping.{shard-keeps}
use Rattle.r6_engine.proofs.RunnerLemmas.Learning.{keeps-else}
use Rattle.r6_engine.proofs.RunnerLemmas.Parts.{still-room}
use Rattle.r6_engine.proofs.runner.runner.Runner.tell.Goals as goal

pub returns-clause-told : goal.returns-clause-told
returns-clause-told g c =
    c.tell.ensures.told ∙ ap (joined (view_of c.args.pass.now)) (sym c.tell.ensures.kept.view)

pub returns-clause-kept : goal.returns-clause-kept
returns-clause-kept g c =
    let kept = c.tell.ensures.kept in
    record {
      rest = keeps-else c.args.self.now _ kept.rest (shard-keeps c.args.self.now.shard c.tell.new.self kept) refl refl
          (record { due = refl; scrub = refl; scrubs_done = refl; handed = refl; others = refl; room = refl; rows = refl });
      view = kept.view;
    }

pub invariant_of-self-clause-parts_room : goal.invariant_of-self-clause-parts_room
invariant_of-self-clause-parts_room g c =
    let old = c.args.self.now in
    let performer = ap g.P.Performs.performer c.tell.ensures.kept.rest.parts in
    still-room (g.P.Performs.performer old.shard.parts) (g.P.Performs.performer c.tell.new.self.parts) old.attaches (length old.handed.items)
    (ap (λ (p : Performer). p.labels) performer) (ap (λ (p : Performer). p.part_room) performer) old.parts_room
