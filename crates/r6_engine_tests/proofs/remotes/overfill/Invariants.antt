use Rattle.r6_dev.specs.Memory.{told_by, promised_by}
use Rattle.r6_engine.specs.remote.Remotes.{IsRemote, performer_of, AreUnused}
use Rattle.r6_engine_tests.proofs.remotes.overfill.Given as goal

abbrev pub invariant-loop-token : goal.invariant-loop-token
invariant-loop-token g l = record {
  remote : IsRemote told_by promised_by l.remote;
  fresh : AreUnused (performer_of told_by promised_by l.remote) l.sent;
}
