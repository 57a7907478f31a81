use Rattle.std.proofs.Common.{Some}
use Rattle.r6_queues.proofs.relay.Relay.new.Given as goal

abbrev pub ghosts-both_ends : goal.ghosts-both_ends
ghosts-both_ends g a = record { about = Some a.about.now }
