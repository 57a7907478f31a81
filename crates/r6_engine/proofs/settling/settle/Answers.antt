use Rattle.std.proofs.Common.{arith, ◌≡◌, ◌∙◌, ◌≤◌, ◌<◌, ◌++◌, ◌∷◌, [], List, ℕ, length, map, true, ap, sym, subst, vec_capacity}
use Rattle.std.proofs.lemmas.Iterator.Adapters.{YieldsList-from_vec}
use Rattle.std.proofs.lemmas.Iterator.Consumers.{YieldsList-turn, YieldsList-end}
use Rattle.std.proofs.lemmas.List.{length-map, map_push}
use Rattle.std.proofs.lemmas.Option.{get_or_from_slice_get, slice_get_within}
use Rattle.r6_engine.specs.lists.Events.{numbers_of, tasks_of}
use Rattle.r6_engine.proofs.Numbers.{unchanged}
use Rattle.r6_engine.proofs.settling.settle.Goals as goal

-- one of the shards is to come, so there is room
below-room : {A B : Type 0} (len : ℕ) (runners : List A) (yielded takings : List B) (capacity shards : ℕ) → len ≡ length runners
    → length runners ≡ length yielded → length yielded < length takings → length takings ≡ shards → shards ≤ capacity → len < capacity
below-room len runners yielded takings capacity shards is long turned whole room = omega (arith, is, long, turned, whole, room)

pub push_reserved-requires : goal.push_reserved-requires
push_reserved-requires g c =
    let turn = YieldsList-turn
    (YieldsList-from_vec {s = c.into_iter-taking-iterator.result} c.args.takings.items c.into_iter-taking-iterator.ensures.into_iter_gives.0
    (c.into_iter-taking-iterator.ensures.into_iter_gives.1 ∙ c.args.takings.ok.0))
    c.loop-taking.yielded c.loop-taking.taking-iterator c.loop-taking.yielded_by c.next.result c.next.new.self c.in-Some.taking
    c.in-Some.is c.next.ensures.steps in
    let kept = c.loop-taking.invariant.2 in
    below-room c.loop-taking.runners.len c.loop-taking.runners.items c.loop-taking.yielded c.args.takings.items (vec_capacity c.loop-taking.runners)
    g.L.Events.shape.shards c.loop-taking.runners.ok.0
    (ap length kept.runners ∙ length-map c.loop-taking.yielded (λ taking. taking.runner)) turn.0 c.requires.shards kept.room

pub loop-taking-init : goal.loop-taking-init
loop-taking-init g c = (tt, tt, record { runners = c.requires.room.0; room = c.requires.room.1 })

pub loop-taking-preserved : goal.loop-taking-preserved
loop-taking-preserved g c =
    let kept = c.loop-taking.invariant.2 in
    let taking = c.in-Some.taking in (
      tt,
      tt,
      record {
        runners = c.push_reserved.ensures.items ∙ ap (λ all. all ++ taking.runner ∷ []) kept.runners
            ∙ sym (map_push (λ taking. taking.runner) c.loop-taking.yielded taking);
        room = subst (λ (room : ℕ). g.L.Events.shape.shards ≤ room) (sym c.push_reserved.ensures.capacity) kept.room;
      },
    )

pub returns-clause-runners : goal.returns-clause-runners
returns-clause-runners g c =
    let end = YieldsList-end
    (YieldsList-from_vec {s = c.into_iter-taking-iterator.result} c.args.takings.items c.into_iter-taking-iterator.ensures.into_iter_gives.0
    (c.into_iter-taking-iterator.ensures.into_iter_gives.1 ∙ c.args.takings.ok.0))
    c.loop-taking.yielded c.loop-taking.taking-iterator c.loop-taking.yielded_by c.next.result c.next.new.self c.in-None.is
    c.next.ensures.steps in
    c.loop-taking.invariant.2.runners ∙ ap (map (λ t. t.runner)) (sym (unchanged c.loop-taking.yielded) ∙ end.0)

pub returns-clause-taken : goal.returns-clause-taken
returns-clause-taken g c shard taking at =
    let takings = c.args.takings.items in
    let within = slice_get_within takings shard taking at in
    let is = get_or_from_slice_get takings shard taking taking at in
    let finished : taking.consumer.finished ≡ true = subst (λ t. t.consumer.finished ≡ true) is (c.requires.finished shard taking within) in
    let number : taking.consumer.shard ≡ shard = ap (λ t. t.consumer.shard) (sym is) ∙ c.requires.numbered shard taking within in
    taking.consumer.whole finished ∙ ap (λ s. numbers_of (tasks_of g.L.Events.shape s g.L.Events.events)) number
