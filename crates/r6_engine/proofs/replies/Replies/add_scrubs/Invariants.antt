use Rattle.std.proofs.Common.{◌≡◌, map, take}
use Rattle.r6_engine.specs.Replies.{said_of_scrub, with_all}
use Rattle.r6_engine.proofs.replies.Replies.add_scrubs.Given as goal

abbrev pub invariant-loop-scrub : goal.invariant-loop-scrub
invariant-loop-scrub l = l.self.replies.items ≡ with_all l.initial.self.replies.items (map said_of_scrub (take l.scrub-index l.scrubs))
