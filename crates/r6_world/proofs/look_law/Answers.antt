use Rattle.r6_world.proofs.Looks.{look_brings_nothing, loss_brings_nothing, same_is_left, look_keeps_no_other, look_keeps_rows, move_loses_nothing, drop_loses_nothing, looks_of_a_replacement}
use Rattle.r6_world.proofs.look_law.Goals as goal

pub returns-clause-look : goal.returns-clause-look
returns-clause-look c = look_brings_nothing

pub returns-clause-loss : goal.returns-clause-loss
returns-clause-loss c = loss_brings_nothing

pub returns-clause-same : goal.returns-clause-same
returns-clause-same c = same_is_left

pub returns-clause-no_other : goal.returns-clause-no_other
returns-clause-no_other c = look_keeps_no_other

pub returns-clause-rows : goal.returns-clause-rows
returns-clause-rows c = look_keeps_rows

pub returns-clause-moves : goal.returns-clause-moves
returns-clause-moves c = move_loses_nothing

pub returns-clause-drops : goal.returns-clause-drops
returns-clause-drops c = drop_loses_nothing

pub returns-clause-examples : goal.returns-clause-examples
returns-clause-examples c = looks_of_a_replacement
