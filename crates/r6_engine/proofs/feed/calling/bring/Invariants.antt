use Rattle.std.proofs.Common.{◌≡◌}
use Rattle.r6_health.specs.Passes.{IsPassOf, view_of}
use Rattle.r6_health.specs.Views.{Grows}
use Rattle.r6_engine.proofs.feed.calling.bring.Given as goal

abbrev pub invariant-loop : goal.invariant-loop
invariant-loop g l =
    (goal.iterator-loop g).can_next l.iterator' × (goal.iterator-loop g).is_finite l.iterator'
    × IsPassOf l.fn.register l.pass × ((view_of l.pass).mine ≡ (view_of l.fn.pass).mine)
    × Grows (view_of l.fn.pass) (view_of l.pass)
