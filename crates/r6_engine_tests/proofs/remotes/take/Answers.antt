use Rattle.std.proofs.Common.{ap}
use Rattle.r6_dev.specs.Memory.{told_by, promised_by}
use Rattle.r6_shard.specs.Performing.{Performer}
use Rattle.r6_engine.specs.remote.Remotes.{performer_of}
use Rattle.r6_engine.proofs.RemoteLemmas.Unused.{same-unused, received-unused}
use Rattle.r6_engine_tests.proofs.remotes.take.Goals as goal

pub returns-in_err-completion-clause-fresh : goal.returns-in_err-completion-clause-fresh
returns-in_err-completion-clause-fresh g c =
    same-unused (performer_of told_by promised_by c.args.remote.now) (performer_of told_by promised_by c.receive.new.self) c.args.next
    (ap (λ (p : Performer). p.out) c.in_err-completion.ensures.received) c.requires.fresh

pub returns-clause-fresh : goal.returns-clause-fresh
returns-clause-fresh g c =
    received-unused (performer_of told_by promised_by c.args.remote.now) (performer_of told_by promised_by c.receive.new.self)
    c.in_ok-completion.completion c.args.next c.in_ok-completion.ensures.received c.requires.fresh
