use Rattle.r6_threads.proofs.run.fn.run_or_return.scope.Goals as goal
use Rattle.std.proofs.Common.{◌∙◌, refl, sym}
use Rattle.r6_threads.specs.Works.{in_order}
use Rattle.r6_threads.proofs.Handles.{room_to_join, all_done}

pub join_all-requires : goal.join_all-requires
join_all-requires g c = record {
  decision = c.start_all-decision.ensures.decision;
  gate = c.start_all-decision.ensures.gate;
  station = c.start_all-decision.ensures.station;
  room = room_to_join (λ handle. handle.promise.work.value) c.captures.works.items c.start_all-decision.new.works.items
      c.start_all-decision.new.handles.items _ _ _ c.start_all-decision.ensures.works c.captures.works.ok.0
      c.captures.works.ok.1 c.start_all-decision.ensures.capacity;
}

pub returns-in-Some : goal.returns-in-Some
returns-in-Some g c =
    let begun = sym c.value.ensures ∙ sym c.in-Some.ensures.begun in
    let all = c.start_all-decision.ensures.all begun in
    record {
      call = c.in-Some.ensures.answer;
      done = all_done (g.W.Work.done c.captures.station.now) c.captures.works.items c.start_all-decision.new.works.items
          (in_order (λ handle. handle.promise.work.value) c.start_all-decision.new.handles.items)
          c.join_all.new.works.items c.start_all-decision.ensures.works all (c.join_all.ensures.done begun all);
      back = tt;
    }

pub returns-in_default : goal.returns-in_default
returns-in_default g c = record { call = tt; done = tt; back = refl }

pub returns : goal.returns
returns g c =
    let held = sym c.value.ensures ∙ sym c.in-None.ensures.begun in
    record {
      call = tt;
      done = tt;
      back = c.join_all.ensures.back held ∙ sym c.start_all-decision.ensures.works;
    }
