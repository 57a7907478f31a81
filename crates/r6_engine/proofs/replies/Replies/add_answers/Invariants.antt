use Rattle.std.proofs.Common.{◌≡◌, map, take}
use Rattle.r6_engine.specs.Replies.{said_of_answer, with_all}
use Rattle.r6_engine.proofs.replies.Replies.add_answers.Given as goal

abbrev pub invariant-loop-answer : goal.invariant-loop-answer
invariant-loop-answer l = l.self.replies.items ≡ with_all l.initial.self.replies.items (map said_of_answer (take l.answer-index l.answers))
