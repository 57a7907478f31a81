use Rattle.r6_kernels.proofs.PieceLaws.{piece-p, piece-q}
use Rattle.r6_kernels.proofs.laws.piece_law.Goals as goal

pub returns : goal.returns
returns c = record { p = piece-p; q = piece-q }
