use Rattle.r6_engine.specs.Replies.{said_of_refusal}
use Rattle.r6_engine.proofs.Saying.{next_more}
use Rattle.r6_engine.proofs.replies.Replies.add_refused.Goals as goal

pub loop-event-preserved : goal.loop-event-preserved
loop-event-preserved c =
    next_more said_of_refusal _ _ _ c.args.refused.now c.loop-event.event-index _ c.loop-event-test.true c.loop-event.invariant c.add.ensures
