use Rattle.std.proofs.Common.{string_bytes}
use Rattle.r6_simulate.specs.AtShards.{TakesReplies}
use Rattle.r6_simulate.proofs.shard.Shard.put_out_replies.Given as goal

abbrev pub invariant-loop-id : goal.invariant-loop-id
invariant-loop-id l = TakesReplies l.initial.self (string_bytes l.initial.line) l.self (string_bytes l.line)

abbrev pub decreases-loop-id : goal.decreases-loop-id
decreases-loop-id l = l.self.core.unanswered
