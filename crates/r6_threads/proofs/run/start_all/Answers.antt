use Rattle.std.proofs.Common.{◌≡◌, [], ◌∷◌, length, ap, ◌∙◌, refl, arith}
use Rattle.std.proofs.lemmas.List.{length-append}
use Rattle.std.proofs.lemmas.List.Elements.{All-pop, All-push}
use Rattle.r6_threads.proofs.Handles.{popped, start_one, room_for_one, all_of_none, none_started, room_at_first, emptied, put_back, none_begun, none_of_length}
use Rattle.r6_threads.proofs.run.start_all.Goals as goal

pub loop-work-preserved : goal.loop-work-preserved
loop-work-preserved g c =
    let so_far = c.loop-work.invariant in
    let works = c.loop-work.works.items in
    let rest = c.pop.new.self.items in
    let work = c.in-Some.work in
    let handles = c.loop-work.handles.items in
    let handle = c.in-Ok.handle in
    let pushed = c.push_reserved.ensures.items in
    let last = popped works rest c.pop.result work c.pop.ensures.items c.in-Some.is in
    let shorter = ap length last ∙ length-append rest (work ∷ []) in
    let longer = ap length pushed ∙ length-append handles (handle ∷ []) in
    record {
      ready = (All-pop (g.W.Work.ready c.args.station.now) works rest c.pop.result c.pop.ensures.items so_far.ready).0;
      gate = rw pushed (All-push (λ h. h.promise.gate.now ≡ c.args.gate.now) handles handle so_far.gate c.in-Ok.ensures.gate);
      station = rw pushed (All-push (λ h. h.promise.station.now ≡ c.args.station.now) handles handle so_far.station c.in-Ok.ensures.station);
      works = rw pushed (start_one (λ h. h.promise.work.value) c.args.works.now.items works rest work handles handle so_far.works last c.in-Ok.ensures.work);
      capacity = c.pop.ensures.capacity ∙ so_far.capacity;
      room = omega (arith, so_far.room, shorter, longer, c.push_reserved.ensures.capacity);
    }

pub push_reserved-requires : goal.push_reserved-requires
push_reserved-requires g c =
    let last = popped c.loop-work.works.items c.pop.new.self.items c.pop.result c.in-Some.work c.pop.ensures.items c.in-Some.is in
    room_for_one (λ h. h.promise.work.value) c.loop-work.works.items c.pop.new.self.items c.in-Some.work c.loop-work.handles.items
    _ _ last c.loop-work.handles.ok.0 c.loop-work.invariant.room

pub loop-work-init : goal.loop-work-init
loop-work-init g c = record {
  ready = c.requires.ready;
  gate = all_of_none (λ h. h.promise.gate.now ≡ c.args.gate.now) c.args.handles.now.items c.requires.room.0;
  station = all_of_none (λ h. h.promise.station.now ≡ c.args.station.now) c.args.handles.now.items c.requires.room.0;
  works = none_started (λ h. h.promise.work.value) c.args.works.now.items c.args.handles.now.items c.requires.room.0;
  capacity = refl;
  room = room_at_first _ _ c.args.handles.now.items c.requires.room.0 c.requires.room.1;
}

pub returns : goal.returns
returns g c = record {
  gate = c.loop-work.invariant.gate;
  station = c.loop-work.invariant.station;
  works = emptied (λ h. h.promise.work.value) c.args.works.now.items c.loop-work.works.items c.pop.new.self.items
      c.pop.result c.loop-work.handles.items c.loop-work.invariant.works c.pop.ensures.items c.in_default.is;
  capacity = c.pop.ensures.capacity ∙ c.loop-work.invariant.capacity;
  all = λ _. none_of_length c.pop.new.self.items _ c.pop.new.self.ok.0 c.in_default.ensures.cases.1;
  decision = c.decide.ensures.of;
}

pub returns-in-Err : goal.returns-in-Err
returns-in-Err g c =
    let last = popped c.loop-work.works.items c.pop.new.self.items c.pop.result c.in-Some.work c.pop.ensures.items c.in-Some.is in
    record {
      gate = c.loop-work.invariant.gate;
      station = c.loop-work.invariant.station;
      works = put_back (λ h. h.promise.work.value) c.args.works.now.items c.loop-work.works.items c.pop.new.self.items
          c.push_reserved-in-Err.new.self.items c.in-Some.work c.in-Err.field-0.work c.loop-work.handles.items
          c.loop-work.invariant.works last c.push_reserved-in-Err.ensures.items c.in-Err.ensures.back;
      capacity = c.push_reserved-in-Err.ensures.capacity ∙ c.pop.ensures.capacity ∙ c.loop-work.invariant.capacity;
      all = none_begun _ c.in-Err.field-0.decision.value c.in-Err.ensures.decision.1;
      decision = c.in-Err.ensures.decision.0;
    }
