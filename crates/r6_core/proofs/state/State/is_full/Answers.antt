use Rattle.std.proofs.lemmas.Bool.{le-leb, leb-true}
use Rattle.r6_core.proofs.state.State.is_full.Goals as goal

pub returns : goal.returns
returns c = let unanswered = c.args.self.now.unanswered in (leb-true 256 unanswered, le-leb 256 unanswered)
