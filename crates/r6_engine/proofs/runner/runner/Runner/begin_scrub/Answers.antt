use Rattle.std.proofs.Common.{false, refl}
use Rattle.r6_engine.specs.declared.runner.scrub.ScrubUnderWay.{ScrubUnderWay}
use Rattle.r6_engine.proofs.RunnerLemmas.Counting.{begun-counted}
use Rattle.r6_engine.proofs.runner.runner.Runner.begin_scrub.Goals as goal

pub returns-clause-counted : goal.returns-clause-counted
returns-clause-counted g c =
    let old = c.args.self.now in
    let p : ScrubUnderWay = record { event = c.args.event; task = c.args.task; left = old.rows; given_up = false; before = c.counts.result } in
    begun-counted old.rows old.shard.core old.scrub old.scrubs_done.items p c.requires.none c.requires.task refl refl c.counts.ensures
