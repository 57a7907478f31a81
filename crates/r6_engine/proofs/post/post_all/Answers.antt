use Rattle.std.proofs.Common.{◌≡◌, ◌<◌, ◌∙◌, ◌++◌, ◌∷◌, [], suc, ap, append_assoc, arith, get_or, length, refl, subst, sym, take}
use Rattle.std.specs.Prelude.{◌-◌}
use Rattle.std.specs.List.{AllZip}
use Rattle.std.proofs.Math.Seq.{take-suc}
use Rattle.std.proofs.lemmas.Iterator.Adapters.{YieldsList-from_vec}
use Rattle.std.proofs.lemmas.Iterator.Consumers.{YieldsList-turn, YieldsList-end}
use Rattle.std.proofs.lemmas.List.{length_push, take_all}
use Rattle.std.proofs.lemmas.Slice.Zip.{AllZip-long, all_zipped_more}
use Rattle.r6_exchange.specs.Workers.{IsWorker}
use Rattle.r6_engine.specs.declared.post.Post.{Post}
use Rattle.r6_engine.specs.Crews.{StandsAt}
use Rattle.r6_engine.proofs.Crews.{zip-at}
use Rattle.r6_engine.proofs.post.post_all.Goals as goal

pub index-requires : goal.index-requires
index-requires g c =
    let turn = YieldsList-turn
    (YieldsList-from_vec {s = c.into_iter-worker-iterator.result} c.args.workers.items c.into_iter-worker-iterator.ensures.into_iter_gives.0
    (c.into_iter-worker-iterator.ensures.into_iter_gives.1 ∙ c.args.workers.ok.0))
    c.loop-worker.yielded c.loop-worker.worker-iterator c.loop-worker.yielded_by c.next.result c.next.new.self c.in-Some.worker c.in-Some.is
    c.next.ensures.steps in
    let kept = c.loop-worker.invariant.2 in
    let below = turn.0 in
    let many = kept.many in
    let long = AllZip-long (IsWorker g.D.BlockDevice.told g.D.BlockDevice.promised) c.args.site.now.exchanges.items c.args.workers.items c.requires.workers in
    let first = c.len-first.ensures ∙ c.args.posts.now.ok.0 in
    let now = c.len.ensures ∙ c.loop-worker.posts.ok.0 in
    let len = c.args.site.now.exchanges.ok.0 in
    omega (arith, below, many, long, first, now, len)

pub loop-worker-preserved : goal.loop-worker-preserved
loop-worker-preserved g c =
    let told = g.D.BlockDevice.told in
    let promised = g.D.BlockDevice.promised in
    let turn = YieldsList-turn
    (YieldsList-from_vec {s = c.into_iter-worker-iterator.result} c.args.workers.items c.into_iter-worker-iterator.ensures.into_iter_gives.0
    (c.into_iter-worker-iterator.ensures.into_iter_gives.1 ∙ c.args.workers.ok.0))
    c.loop-worker.yielded c.loop-worker.worker-iterator c.loop-worker.yielded_by c.next.result c.next.new.self c.in-Some.worker c.in-Some.is
    c.next.ensures.steps in
    let kept = c.loop-worker.invariant.2 in
    let exchanges = c.args.site.now.exchanges.items in
    let posts = c.loop-worker.posts.items in
    let n = length c.loop-worker.yielded in
    let worker = c.in-Some.worker in
    let e = c.index.result.now in
    let post : Post _ = record { exchange = c.index.result; worker = worker } in
    let long = AllZip-long (IsWorker told promised) exchanges c.args.workers.items c.requires.workers in
    let turned = turn.0 in
    let below : n < length exchanges = omega (arith, turned, long) in
    let many = kept.many in
    let first = c.len-first.ensures ∙ c.args.posts.now.ok.0 in
    let now = c.len.ensures ∙ c.loop-worker.posts.ok.0 in
    let at : c.len.result - c.len-first.result ≡ n = omega (arith, many, first, now) in
    let is : e ≡ get_or exchanges n e = c.index.ensures ∙ ap (λ k. get_or exchanges k e) at in
    let works : IsWorker told promised e worker =
    subst (λ x. IsWorker told promised x worker) (sym is)
    (subst (IsWorker told promised (get_or exchanges n e)) (sym turn.1)
    (zip-at (IsWorker told promised) exchanges c.args.workers.items n e worker c.requires.workers below)) in
    let yielded = length_push c.loop-worker.yielded worker in
    let size : length (c.loop-worker.yielded ++ worker ∷ []) ≡ suc n = omega (arith, yielded) in
    let grow : take (length (c.loop-worker.yielded ++ worker ∷ [])) exchanges ≡ take n exchanges ++ e ∷ [] =
    ap (λ k. take k exchanges) size ∙ take-suc exchanges n e below ∙ ap (λ x. take n exchanges ++ x ∷ []) (sym is) in
    let pushed = c.push_reserved.ensures.items in
    let grown = ap length pushed ∙ length_push posts post in (
      tt,
      tt,
      record {
        posts = λ before zip. subst (λ es. AllZip (StandsAt told promised) (before ++ es) c.push_reserved.new.self.items) (sym grow)
            (subst (λ es. AllZip (StandsAt told promised) es c.push_reserved.new.self.items) (append_assoc before (take n exchanges) (e ∷ []))
            (subst (AllZip (StandsAt told promised) ((before ++ take n exchanges) ++ e ∷ [])) (sym pushed)
            (all_zipped_more (StandsAt told promised) (before ++ take n exchanges) posts e post (kept.posts before zip) (refl, works))));
        many = omega (arith, grown, many, yielded);
        room = c.push_reserved.ensures.capacity ∙ kept.room;
      },
    )

pub returns-clause-posts : goal.returns-clause-posts
returns-clause-posts g c = λ before zip.
    let end = YieldsList-end
    (YieldsList-from_vec {s = c.into_iter-worker-iterator.result} c.args.workers.items c.into_iter-worker-iterator.ensures.into_iter_gives.0
    (c.into_iter-worker-iterator.ensures.into_iter_gives.1 ∙ c.args.workers.ok.0))
    c.loop-worker.yielded c.loop-worker.worker-iterator c.loop-worker.yielded_by c.next.result c.next.new.self c.in-None.is
    c.next.ensures.steps in
    let exchanges = c.args.site.now.exchanges.items in
    let long = AllZip-long (IsWorker g.D.BlockDevice.told g.D.BlockDevice.promised) exchanges c.args.workers.items c.requires.workers in
    let all = end.1 in
    subst (λ es. AllZip (StandsAt g.D.BlockDevice.told g.D.BlockDevice.promised) (before ++ es) c.loop-worker.posts.items)
    (take_all (length c.loop-worker.yielded) exchanges (omega (arith, long, all))) (c.loop-worker.invariant.2.posts before zip)
