use Rattle.r6_engine.specs.Replies.{said_of_answer}
use Rattle.r6_engine.proofs.Saying.{next_more, said_is}
use Rattle.r6_engine.proofs.replies.Replies.add_answers.Goals as goal

pub loop-answer-preserved : goal.loop-answer-preserved
loop-answer-preserved c =
    next_more said_of_answer _ _ _ c.args.answers.now c.loop-answer.answer-index _ c.loop-answer-test.true c.loop-answer.invariant
    (said_is _ _ _ _ _ c.add.ensures c.of_answer.ensures)
