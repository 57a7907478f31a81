use Rattle.std.proofs.Common.{refl, rules}
use Rattle.r6_simulate.proofs.PutOut.{puts_command}
use Rattle.r6_simulate.proofs.Untaken.{hands_one}
use Rattle.r6_simulate.proofs.shard.Shard.put_out_commands.Goals as goal

pub loop-command-smaller-in_ok-insert : goal.loop-command-smaller-in_ok-insert
loop-command-smaller-in_ok-insert c = hands_one _ _ c.in-Some.command c.in-Some.ensures.step (search rules)

pub loop-command-smaller : goal.loop-command-smaller
loop-command-smaller c = hands_one _ _ c.in-Some.command c.in-Some.ensures.step (search rules)

pub loop-command-preserved-in_ok-insert : goal.loop-command-preserved-in_ok-insert
loop-command-preserved-in_ok-insert c =
    puts_command _ _ _ _ _ _ c.in-Some.command c.loop-command.invariant c.in-Some.ensures.step (refl, c.in-Some.ensures.window)
    c.in_ok-insert.ensures.updates (search rules)

pub loop-command-preserved : goal.loop-command-preserved
loop-command-preserved c =
    puts_command _ _ _ _ _ _ c.in-Some.command c.loop-command.invariant c.in-Some.ensures.step (refl, c.in-Some.ensures.window)
    c.in_ok-insert.ensures.updates (search rules)
