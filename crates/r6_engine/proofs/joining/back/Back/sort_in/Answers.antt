use Rattle.std.proofs.Common.{append_assoc, ◌++◌, ◌∷◌, [], length, sym, ap, ◌∙◌, arith}
use Rattle.std.proofs.lemmas.Iterator.Adapters.{YieldsList-from_vec}
use Rattle.std.proofs.lemmas.Iterator.Consumers.{YieldsList-turn}
use Rattle.std.proofs.lemmas.List.{length-append}
use Rattle.std.specs.Prelude.{not}
use Rattle.r6_engine.specs.joining.Crews.{is_own, own_parts, stray_parts}
use Rattle.r6_engine.proofs.JoiningLemmas.Backs.{where-more, where-same, where-few, own-yes, own-no, stray-no, stray-yes}
use Rattle.r6_engine.proofs.joining.back.Back.sort_in.Goals as goal

pub push_reserved-requires : goal.push_reserved-requires
push_reserved-requires g c =
    let turn = YieldsList-turn
    (YieldsList-from_vec {s = c.into_iter-served-iterator.result} c.args.parts.items c.into_iter-served-iterator.ensures.into_iter_gives.0
    (c.into_iter-served-iterator.ensures.into_iter_gives.1 ∙ c.args.parts.ok.0))
    c.loop-served.yielded c.loop-served.served-iterator c.loop-served.yielded_by c.next.result c.next.new.self c.in-Some.served
    c.in-Some.is c.next.ensures.steps in
    let kept = c.loop-served.invariant.2 in
    let long = ap length kept.parts ∙ length-append c.args.self.now.parts.items (own_parts c.args.workers c.args.worker c.loop-served.yielded) in
    let few = where-few (is_own c.args.workers c.args.worker) c.loop-served.yielded in
    let room = c.requires.room.0 in
    let same = kept.parts_room in
    let len = c.loop-served.self.parts.ok.0 in
    omega (arith, turn.0, long, few, room, same, len)

pub push_reserved-requires-else-served-workers : goal.push_reserved-requires-else-served-workers
push_reserved-requires-else-served-workers g c =
    let turn = YieldsList-turn
    (YieldsList-from_vec {s = c.into_iter-served-iterator.result} c.args.parts.items c.into_iter-served-iterator.ensures.into_iter_gives.0
    (c.into_iter-served-iterator.ensures.into_iter_gives.1 ∙ c.args.parts.ok.0))
    c.loop-served.yielded c.loop-served.served-iterator c.loop-served.yielded_by c.next.result c.next.new.self c.in-Some.served
    c.in-Some.is c.next.ensures.steps in
    let kept = c.loop-served.invariant.2 in
    let long = ap length kept.others ∙ length-append c.args.self.now.others.items (stray_parts c.args.workers c.args.worker c.loop-served.yielded) in
    let few = where-few (λ s. not (is_own c.args.workers c.args.worker s)) c.loop-served.yielded in
    let room = c.requires.room.1 in
    let same = kept.others_room in
    let len = c.loop-served.self.others.ok.0 in
    omega (arith, turn.0, long, few, room, same, len)

pub loop-served-preserved-then-served-workers : goal.loop-served-preserved-then-served-workers
loop-served-preserved-then-served-workers g c =
    let kept = c.loop-served.invariant.2 in
    let served = c.in-Some.served in
    let before = c.loop-served.yielded in
    let own = c.if-served-workers.true in (
      tt,
      tt,
      record {
        parts = c.push_reserved.ensures.items ∙ ap (λ y. y ++ served.part ∷ []) kept.parts
            ∙ append_assoc c.args.self.now.parts.items (own_parts c.args.workers c.args.worker before) (served.part ∷ [])
            ∙ ap (λ y. c.args.self.now.parts.items ++ y) (sym (where-more (is_own c.args.workers c.args.worker) before served (own-yes c.args.workers c.args.worker served own)));
        others = kept.others
            ∙ ap (λ y. c.args.self.now.others.items ++ y) (sym (where-same (λ s. not (is_own c.args.workers c.args.worker s)) before served (stray-no c.args.workers c.args.worker served own)));
        parts_room = c.push_reserved.ensures.capacity ∙ kept.parts_room;
        others_room = kept.others_room;
      },
    )

pub loop-served-preserved : goal.loop-served-preserved
loop-served-preserved g c =
    let kept = c.loop-served.invariant.2 in
    let served = c.in-Some.served in
    let before = c.loop-served.yielded in
    let other = c.if-served-workers.false in (
      tt,
      tt,
      record {
        parts = kept.parts
            ∙ ap (λ y. c.args.self.now.parts.items ++ y) (sym (where-same (is_own c.args.workers c.args.worker) before served (own-no c.args.workers c.args.worker served other)));
        others = c.push_reserved-else-served-workers.ensures.items ∙ ap (λ y. y ++ served.part ∷ []) kept.others
            ∙ append_assoc c.args.self.now.others.items (stray_parts c.args.workers c.args.worker before) (served.part ∷ [])
            ∙ ap (λ y. c.args.self.now.others.items ++ y) (sym (where-more (λ s. not (is_own c.args.workers c.args.worker s)) before served (stray-yes c.args.workers c.args.worker served other)));
        parts_room = kept.parts_room;
        others_room = c.push_reserved-else-served-workers.ensures.capacity ∙ kept.others_room;
      },
    )
