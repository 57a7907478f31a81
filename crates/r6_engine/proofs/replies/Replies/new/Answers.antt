use Rattle.std.proofs.Common.{◌++◌, List, [], ◌∷◌, ap, ◌∙◌, arith}
use Rattle.std.proofs.lemmas.List.{replicate_more}
use Rattle.r6_engine.specs.declared.reply.EventReply.{EventReply}
use Rattle.r6_engine.specs.declared.reply.EventReply.TheVariants.{Waited}
use Rattle.r6_engine.proofs.replies.Replies.new.Goals as goal

pub loop-preserved : goal.loop-preserved
loop-preserved c = (
  c.push_reserved.ensures.items ∙ ap (λ (known : List EventReply). known ++ Waited ∷ []) c.loop.invariant.0 ∙ replicate_more c.loop.counter Waited,
  omega (arith, c.loop.invariant.1, c.push_reserved.ensures.capacity),
)
