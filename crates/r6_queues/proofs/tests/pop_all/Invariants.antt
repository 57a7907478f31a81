use Rattle.std.proofs.Common.{◌≡◌, true}
use Rattle.crossbeam_queue.specs.Passes.{view}
use Rattle.r6_queues.specs.Relays.{IsEndOf}
use Rattle.r6_queues.proofs.tests.pop_all.Given as goal

abbrev pub invariant-loop : goal.invariant-loop
invariant-loop g l =
    (goal.iterator-loop g).can_next l.iterator' × (goal.iterator-loop g).is_finite l.iterator'
    × record { at : IsEndOf l.line l.reader; may : (view l.reader).pops ≡ true }

abbrev pub invariant-loop-number : goal.invariant-loop-number
invariant-loop-number g l = record { at : IsEndOf l.line l.reader; may : (view l.reader).pops ≡ true }
