use Rattle.std.proofs.Common.{ap, ◌∙◌}
use Rattle.r6_engine.specs.Replies.{known_with}
use Rattle.r6_engine.specs.declared.reply.EventReply.{EventReply}
use Rattle.r6_engine.proofs.reply.EventReply.add.Goals as goal

pub returns : goal.returns
returns c = c.with.ensures ∙ ap (λ (known : EventReply). known_with known c.args.said) c.replace-known.ensures.value
