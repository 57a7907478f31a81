use Rattle.std.proofs.Common.{◌≡◌}
use Rattle.r6_health.specs.Passes.{IsPassOf}
use Rattle.r6_shard.specs.Shards.{SameLedger}
use Rattle.r6_shard.specs.Counted.{PassesNone}
use Rattle.r6_shard.specs.Advances.{Advances}
use Rattle.r6_shard.proofs.shard.Shard.tell_all.Given as goal

abbrev pub invariant-loop : goal.invariant-loop
invariant-loop g l =
    (goal.iterator-loop g).can_next l.iterator' × (goal.iterator-loop g).is_finite l.iterator' × record {
      pass : IsPassOf l.register l.self.pass;
      advances : Advances l.fn.self l.self;
      passed : PassesNone l.fn.self.core l.self.core;
      ledger : SameLedger l.fn.self l.self;
      last : l.self.last ≡ l.fn.self.last;
    }
