use Rattle.r6_recover.proofs.PieceLaws.{pieces_consistent}
use Rattle.r6_recover.proofs.laws.piece_law.Goals as goal

pub returns : goal.returns
returns c = pieces_consistent
