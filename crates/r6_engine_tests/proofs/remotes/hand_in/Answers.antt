use Rattle.std.proofs.Common.{arith}
use Rattle.r6_dev.specs.Memory.{told_by, promised_by}
use Rattle.r6_engine.specs.remote.Remotes.{performer_of}
use Rattle.r6_engine.proofs.RemoteLemmas.Commands.{not-both}
use Rattle.r6_engine.proofs.RemoteLemmas.Unused.{same-unused}
use Rattle.r6_engine_tests.proofs.remotes.hand_in.Goals as goal

pub take_in-requires-clause-apart : goal.take_in-requires-clause-apart
take_in-requires-clause-apart g c token command is =
    absurd (not-both ((performer_of told_by promised_by c.args.remote.now).out token) command (c.requires.fresh token (omega arith)) is)

pub returns-in-Ok-clause-fresh : goal.returns-in-Ok-clause-fresh
returns-in-Ok-clause-fresh g c =
    same-unused (performer_of told_by promised_by c.args.remote.now) (performer_of told_by promised_by c.take_in.new.self) 0
    c.in-Ok.ensures.taken.out c.requires.fresh
