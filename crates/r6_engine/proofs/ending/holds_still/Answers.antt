use Rattle.std.proofs.Common.{◌∙◌, subst, sym}
use Rattle.r6_health.specs.declared.history.View.{View}
use Rattle.r6_health.specs.Passes.{view_of}
use Rattle.r6_engine.specs.Passes.{TakesBack}
use Rattle.r6_engine.specs.runner.Learning.{KeepsAllElse}
use Rattle.r6_engine.proofs.Alike.{same-snapshots}
use Rattle.r6_engine.proofs.EachShard.{zip-then}
use Rattle.r6_engine.proofs.RunnerLemmas.Learning.{else-then}
use Rattle.r6_engine.proofs.ending.holds_still.Goals as goal

pub returns-clause-back : goal.returns-clause-back
returns-clause-back g c = subst (λ (v : View). TakesBack v (view_of c.look.new.pass)) c.teach_all.ensures.same c.look.ensures.back

pub returns-clause-kept : goal.returns-clause-kept
returns-clause-kept g c =
    zip-then KeepsAllElse KeepsAllElse KeepsAllElse else-then c.args.runners.now c.teach_all.new.runners c.look.new.runners
    c.teach_all.ensures.kept c.look.ensures.kept

pub returns-clause-still : goal.returns-clause-still
returns-clause-still g c = λ yes.
    sym (same-snapshots c.look.result c.args.snapshot.now c.eq.result yes c.eq.ensures) ∙ c.look.ensures.snapshot
