use Rattle.r6_core.proofs.Commands.{taken_rests, taken_step}
use Rattle.r6_core.proofs.state.State.take_command.Goals as goal

pub returns-clause-core : goal.returns-clause-core
returns-clause-core c =
    taken_rests c.args.self.now c.take_command.new.self c.take_command.result c.requires c.take_command.ensures.sound c.take_command.ensures.holds c.take_command.ensures.same c.take_command.ensures.directs c.take_command.ensures.step

pub returns-clause-step : goal.returns-clause-step
returns-clause-step c = taken_step c.args.self.now c.take_command.new.self c.take_command.result c.take_command.ensures.holds c.take_command.ensures.same c.take_command.ensures.step
