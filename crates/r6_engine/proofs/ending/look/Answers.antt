use Rattle.std.proofs.Common.{slice_index_or}
use Rattle.r6_health.specs.Passes.{view_of}
use Rattle.r6_engine.proofs.Passes.{look_back, seen_before}
use Rattle.r6_engine.proofs.ending.look.Goals as goal

pub returns-clause-runners : goal.returns-clause-runners
returns-clause-runners g c = λ k d below. (c.learn_from_all.ensures.heard k d below).0

pub returns-clause-back : goal.returns-clause-back
returns-clause-back g c =
    look_back (view_of c.args.pass.now) (view_of c.learn_from_all.new.pass) (view_of c.read.new.pass) c.learn_from_all.ensures.back c.read.ensures.looks

pub returns-clause-seen : goal.returns-clause-seen
returns-clause-seen g c = λ k d below.
    seen_before c.args.register.now (view_of c.learn_from_all.new.pass) (view_of c.read.new.pass) (slice_index_or c.learn_from_all.new.runners k d)
    (c.learn_from_all.ensures.heard k d below) c.read.ensures.looks c.read.ensures.pass.same_start

pub returns-clause-has : goal.returns-clause-has
returns-clause-has g c =
    let looks = c.read.ensures.looks in record { legal = looks.legal; own = looks.own; ungiven = looks.ungiven }
