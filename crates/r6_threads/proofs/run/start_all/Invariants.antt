use Rattle.std.proofs.Common.{◌≡◌, ◌+◌, ◌≤◌, ◌++◌, All, length, vec_capacity}
use Rattle.r6_threads.specs.Works.{in_order}
use Rattle.r6_threads.proofs.run.start_all.Given as goal

abbrev pub invariant-loop-work : goal.invariant-loop-work
invariant-loop-work g l = record {
  ready : All (g.W.Work.ready l.station) l.works.items;
  gate : All (λ handle. handle.promise.gate.now ≡ l.gate) l.handles.items;
  station : All (λ handle. handle.promise.station.now ≡ l.station) l.handles.items;
  works : l.fn.works.items ≡ l.works.items ++ in_order (λ handle. handle.promise.work.value) l.handles.items;
  capacity : vec_capacity l.works ≡ vec_capacity l.fn.works;
  room : length l.works.items + length l.handles.items ≤ vec_capacity l.handles;
}

abbrev pub decreases-loop-work : goal.decreases-loop-work
decreases-loop-work g l = length l.works.items
