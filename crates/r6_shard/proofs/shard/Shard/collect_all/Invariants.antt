use Rattle.std.proofs.Common.{◌≡◌}
use Rattle.r6_shard.specs.Counted.{PassesNone}
use Rattle.r6_shard.specs.Advances.{Advances}
use Rattle.r6_shard.proofs.shard.Shard.collect_all.Given as goal

abbrev pub invariant-loop : goal.invariant-loop
invariant-loop g l =
    (goal.iterator-loop g).can_next l.iterator' × (goal.iterator-loop g).is_finite l.iterator' × record {
      advances : Advances l.fn.self l.self;
      passed : PassesNone l.fn.self.core l.self.core;
      asked : l.self.asked ≡ l.fn.self.asked;
      room : l.self.room ≡ l.fn.self.room;
      pass : l.self.pass ≡ l.fn.self.pass;
      last : l.self.last ≡ l.fn.self.last;
    }
