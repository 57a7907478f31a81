use Rattle.std.proofs.Common.{arith}
use Rattle.r6_dev.specs.Memory.{told_by, promised_by}
use Rattle.r6_engine.specs.remote.Remotes.{performer_of}
use Rattle.r6_engine.proofs.RemoteLemmas.Unused.{sent-unused}
use Rattle.r6_engine_tests.proofs.remotes.give.Goals as goal

pub send-requires-clause-new : goal.send-requires-clause-new
send-requires-clause-new g c = c.requires.fresh c.args.command.token (omega arith)

pub returns-clause-fresh : goal.returns-clause-fresh
returns-clause-fresh g c =
    sent-unused (performer_of told_by promised_by c.args.remote.now) (performer_of told_by promised_by c.send.new.self) c.args.command
    c.send.ensures.performer c.requires.fresh
