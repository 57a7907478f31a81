use Rattle.std.proofs.Common.{◌≡◌, map, take}
use Rattle.r6_engine.specs.Replies.{said_of_refusal, with_all}
use Rattle.r6_engine.proofs.replies.Replies.add_refused.Given as goal

abbrev pub invariant-loop-event : goal.invariant-loop-event
invariant-loop-event l = l.self.replies.items ≡ with_all l.initial.self.replies.items (map said_of_refusal (take l.event-index l.refused))
