use Rattle.std.proofs.Common.{◌≤◌, ◌++◌, ◌∷◌, [], ℕ, ap, arith, length, map, subst, sym, ◌∙◌}
use Rattle.std.proofs.lemmas.Iterator.Adapters.{YieldsList-from_vec}
use Rattle.std.proofs.lemmas.Iterator.Consumers.{YieldsList-turn, YieldsList-end}
use Rattle.std.proofs.lemmas.List.{length-map, map-id, map_push}
use Rattle.r6_verify.specs.Heard.{below}
use Rattle.r6_verify.proofs.heard.with_ear.Goals as goal

pub push_reserved-requires : goal.push_reserved-requires
push_reserved-requires g c =
    let turn = YieldsList-turn
    (YieldsList-from_vec {s = c.into_iter-part-iterator.result} c.args.parts.items c.into_iter-part-iterator.ensures.into_iter_gives.0
    (c.into_iter-part-iterator.ensures.into_iter_gives.1 ∙ c.args.parts.ok.0))
    c.loop-part.yielded c.loop-part.part-iterator c.loop-part.yielded_by c.next.result c.next.new.self c.in-Some.part c.in-Some.is
    c.next.ensures.steps in
    let kept = c.loop-part.invariant.2 in
    let more = turn.0 in
    let many = ap length kept.parts in
    let same = length-map c.loop-part.heard.items below in
    let len = c.loop-part.heard.ok.0 in
    let room = kept.room in
    omega (arith, more, many, same, len, room)

pub loop-part-init : goal.loop-part-init
loop-part-init g c =
    let len = c.args.parts.ok.0 in
    let capacity = c.in_ok-heard.ensures.capacity in
    (tt, tt, record { parts = ap (map below) c.in_ok-heard.ensures.items; room = omega (arith, len, capacity) })

pub loop-part-preserved : goal.loop-part-preserved
loop-part-preserved g c =
    let kept = c.loop-part.invariant.2 in
    let heard = c.loop-part.heard.items in (
      tt,
      tt,
      record {
        parts = ap (map below) c.push_reserved.ensures.items ∙ map_push below heard c.hear.result
            ∙ (λ i. kept.parts i ++ c.hear.ensures i ∷ []);
        room = subst (λ (n : ℕ). length c.args.parts.items ≤ n) (sym c.push_reserved.ensures.capacity) kept.room;
      },
    )

pub returns-clause-below : goal.returns-clause-below
returns-clause-below g c =
    let end = YieldsList-end
    (YieldsList-from_vec {s = c.into_iter-part-iterator.result} c.args.parts.items c.into_iter-part-iterator.ensures.into_iter_gives.0
    (c.into_iter-part-iterator.ensures.into_iter_gives.1 ∙ c.args.parts.ok.0))
    c.loop-part.yielded c.loop-part.part-iterator c.loop-part.yielded_by c.next.result c.next.new.self c.in-None.is
    c.next.ensures.steps in
    c.loop-part.invariant.2.parts ∙ sym (map-id c.loop-part.yielded) ∙ end.0

pub returns-clause-count : goal.returns-clause-count
returns-clause-count g c = sym (length-map c.loop-part.heard.items below) ∙ ap length (returns-clause-below g c)
