use Rattle.std.proofs.Common.{string_bytes}
use Rattle.r6_simulate.specs.AtShards.{TakesCommands}
use Rattle.r6_simulate.proofs.Untaken.{untaken}
use Rattle.r6_simulate.proofs.shard.Shard.put_out_commands.Given as goal

abbrev pub invariant-loop-command : goal.invariant-loop-command
invariant-loop-command l = TakesCommands l.initial.self (string_bytes l.initial.line) l.self (string_bytes l.line)

abbrev pub decreases-loop-command : goal.decreases-loop-command
decreases-loop-command l = untaken l.self.core
