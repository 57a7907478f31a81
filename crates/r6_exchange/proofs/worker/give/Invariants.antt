use Rattle.std.proofs.Common.{◌≡◌}
use Rattle.r6_exchange.specs.Exchanges.{IsWorkerPass, taken_by, given_by, room_of}
use Rattle.r6_exchange.proofs.worker.give.Given as goal

abbrev pub invariant-loop : goal.invariant-loop
invariant-loop g l =
    (goal.iterator-loop g).can_next l.iterator' × (goal.iterator-loop g).is_finite l.iterator'
    × record {
      pass : IsWorkerPass g.D.BlockDevice.told g.D.BlockDevice.promised l.exchange l.pass;
      given : given_by l.pass ≡ given_by l.fn.pass;
      taken : taken_by l.pass ≡ taken_by l.fn.pass;
      room : room_of l.pass ≡ room_of l.fn.pass;
      same : l.completion ≡ l.fn.completion;
    }
