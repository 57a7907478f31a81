use Rattle.std.proofs.Common.{◌≡◌, ◌≤◌, replicate, vec_capacity}
use Rattle.r6_engine.specs.declared.reply.EventReply.TheVariants.{Waited}
use Rattle.r6_engine.proofs.replies.Replies.new.Given as goal

abbrev pub invariant-loop : goal.invariant-loop
invariant-loop l = (l.replies.items ≡ replicate l.counter Waited) × (l.events ≤ vec_capacity l.replies)
