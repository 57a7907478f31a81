use Rattle.std.proofs.Common.{ap}
use Rattle.r6_world.specs.Values.{world_command, given_transfer}
use Rattle.r6_core_runs.proofs.losses.take_read.Goals as goal

pub returns-in-Read : goal.returns-in-Read
returns-in-Read c =
    let step = c.in_ok-command.ensures.step in
    let command = c.in_ok-command.command in
    record {
      command = world_command step.0 step.1 step.2 command;
      taken = step.3;
      is_read = ap (λ kind. given_transfer kind command.buffer) c.in-Read.is;
      of_slot = c.if-command-slot.false;
      of_generation = c.if-command-generation.false;
      of_row = c.if-command-row.false;
    }
