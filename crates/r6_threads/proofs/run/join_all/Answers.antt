use Rattle.std.proofs.Common.{◌≡◌, [], ◌∷◌, length, sym, ap, subst, ◌∙◌, arith, IfSome}
use Rattle.std.proofs.lemmas.List.{length-append}
use Rattle.std.proofs.lemmas.List.Elements.{All-pop}
use Rattle.r6_threads.proofs.Handles.{back_one, ended_back, ended_done, join_one, popped}
use Rattle.r6_threads.proofs.run.join_all.Goals as goal

pub loop-handle-preserved : goal.loop-handle-preserved
loop-handle-preserved g c =
    let so_far = c.loop-handle.invariant in
    let works = c.loop-handle.works.items in
    let handles = c.loop-handle.handles.items in
    let rest = c.pop.new.self.items in
    let handle = c.in-Some.handle in
    let ended = c.join-other.result in
    let kept = c.join-other.ensures.1 in
    let agrees = c.agrees.ensures in
    let pushed = c.push_reserved.ensures.items in
    let last = popped handles rest c.pop.result handle c.pop.ensures.items c.in-Some.is in
    let shorter = ap length last ∙ length-append rest (handle ∷ []) in
    let longer = ap length pushed ∙ length-append works (ended.work ∷ []) in
    let stations = All-pop (λ h. h.promise.station.now ≡ c.args.station.now) handles rest c.pop.result c.pop.ensures.items so_far.station in
    let here = subst (λ o. IfSome o (λ h. h.promise.station.now ≡ c.args.station.now)) c.in-Some.is stations.1 in
    record {
      gate = (All-pop (λ h. h.promise.gate.now ≡ c.args.gate.now) handles rest c.pop.result c.pop.ensures.items so_far.gate).0;
      station = stations.0;
      room = omega (arith, so_far.room, shorter, longer, c.push_reserved.ensures.capacity);
      back = λ none. rw pushed
          (back_one (λ h. h.promise.work.value) _ works handles rest handle ended.work (so_far.back none) last
          (ended_back (g.W.Work.done handle.promise.station.now) ended.decision.value handle.promise.work.value ended.work (sym agrees ∙ none) kept));
      done = λ begun empty. rw pushed
          (join_one (g.W.Work.done c.args.station.now) (λ h. h.promise.work.value) _ works handles rest handle ended.work (so_far.done begun empty) last
          (subst (λ t. g.W.Work.done t handle.promise.work.value ended.work) here
          (ended_done (g.W.Work.done handle.promise.station.now) ended.decision.value handle.promise.work.value ended.work (sym agrees ∙ begun) kept)));
    }
