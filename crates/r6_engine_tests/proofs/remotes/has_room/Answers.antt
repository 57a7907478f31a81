use Rattle.std.proofs.Common.{ap}
use Rattle.r6_dev.specs.Memory.{told_by, promised_by}
use Rattle.r6_shard.specs.Performing.{Performer}
use Rattle.r6_engine.specs.remote.Remotes.{performer_of}
use Rattle.r6_engine.proofs.RemoteLemmas.Unused.{same-unused}
use Rattle.r6_engine_tests.proofs.remotes.has_room.Goals as goal

pub returns-clause-fresh : goal.returns-clause-fresh
returns-clause-fresh g c =
    same-unused (performer_of told_by promised_by c.args.remote.now) (performer_of told_by promised_by c.make_room.new.self) c.args.next
    (ap (λ (p : Performer). p.out) c.make_room.ensures.performer) c.requires.fresh
