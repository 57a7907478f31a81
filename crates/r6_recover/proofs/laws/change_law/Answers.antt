use Rattle.r6_recover.proofs.ChangeLaws.{changed_row-eq}
use Rattle.r6_recover.proofs.laws.change_law.Goals as goal

pub returns : goal.returns
returns c = λ m len index row block is block_is h. changed_row-eq m len index row block is block_is h
