use Rattle.std.proofs.Common.{◌≡◌, ◌≤◌, map, vec_capacity}
use Rattle.r6_engine.proofs.settling.settle.Given as goal

abbrev pub invariant-loop-taking : goal.invariant-loop-taking
invariant-loop-taking g l =
    (goal.iterator-loop-taking g).can_next l.taking-iterator × (goal.iterator-loop-taking g).is_finite l.taking-iterator × record {
      runners : l.runners.items ≡ map (λ taking. taking.runner) l.yielded;
      room : g.L.Events.shape.shards ≤ vec_capacity l.runners;
    }
