use Rattle.std.proofs.Common.{ap}
use Rattle.r6_engine.specs.declared.reply.EventReply.TheVariants.{Counted}
use Rattle.r6_engine.specs.Replies.{said_of_scrub}
use Rattle.r6_engine.proofs.Saying.{next_more, said_is}
use Rattle.r6_engine.proofs.replies.Replies.add_scrubs.Goals as goal

pub loop-scrub-preserved : goal.loop-scrub-preserved
loop-scrub-preserved c =
    next_more said_of_scrub _ _ _ c.args.scrubs.now c.loop-scrub.scrub-index _ c.loop-scrub-test.true c.loop-scrub.invariant
    (said_is _ _ _ _ _ c.add.ensures (ap Counted c.of_scrub-found.ensures))
