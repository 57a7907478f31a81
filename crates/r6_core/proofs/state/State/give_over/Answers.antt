use Rattle.r6_core.proofs.GivingOver.{both_over}
use Rattle.r6_core.proofs.state.State.give_over.Goals as goal

pub returns : goal.returns
returns c = both_over c.args.self.now c.move_over.new.self c.lose_over.new.self c.move_over.ensures c.lose_over.ensures
