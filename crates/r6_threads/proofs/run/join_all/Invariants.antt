use Rattle.std.proofs.Common.{◌≡◌, ◌+◌, ◌≤◌, ◌++◌, [], All, length, vec_capacity, true, false}
use Rattle.r6_threads.specs.Works.{in_order}
use Rattle.r6_threads.proofs.Handles.{IsJoined}
use Rattle.r6_threads.proofs.run.join_all.Given as goal

abbrev pub invariant-loop-handle : goal.invariant-loop-handle
invariant-loop-handle g l = record {
  gate : All (λ handle. handle.promise.gate.now ≡ l.gate) l.handles.items;
  station : All (λ handle. handle.promise.station.now ≡ l.station) l.handles.items;
  room : length l.works.items + length l.handles.items ≤ vec_capacity l.works;
  back : l.decision.value ≡ false
      → l.fn.works.items ++ in_order (λ handle. handle.promise.work.value) l.fn.handles.items
      ≡ l.works.items ++ in_order (λ handle. handle.promise.work.value) l.handles.items;
  done : l.decision.value ≡ true → l.fn.works.items ≡ []
      → IsJoined (g.W.Work.done l.station) (in_order (λ handle. handle.promise.work.value) l.fn.handles.items) l.works.items
      (in_order (λ handle. handle.promise.work.value) l.handles.items);
}

abbrev pub decreases-loop-handle : goal.decreases-loop-handle
decreases-loop-handle g l = length l.handles.items
