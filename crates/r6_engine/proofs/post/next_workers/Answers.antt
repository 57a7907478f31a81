use Rattle.std.proofs.Common.{◌≡◌, ◌+◌, ◌<◌, ◌≤◌, ◌∷◌, ℕ, ap, arith, drop, get_or, length, subst, sym, ◌∙◌}
use Rattle.std.proofs.lemmas.List.{drop_more, length_push}
use Rattle.r6_engine.specs.joining.Crews.{AreWorkers}
use Rattle.r6_engine.proofs.JoiningLemmas.Collected.{no-more}
use Rattle.r6_exchange.specs.Workers.{IsWorker}
use Rattle.r6_exchange.specs.declared.exchange.Exchange.{Exchange}
use Rattle.r6_engine.proofs.Crews.{next-post, some-exchange, some-post, workers-more}
use Rattle.r6_engine.proofs.post.next_workers.Goals as goal

pub unreachable-requires : goal.unreachable-requires
unreachable-requires g c =
    let posts = c.loop.posts in
    let exchanges = c.args.site.now.exchanges.items in
    let none = no-more c.pop.result posts.len c.pop.ensures.variant c.in_default.not-Some in
    let len = posts.ok.0 in
    let below = c.loop-test.true in
    let many = c.len-end.ensures in
    some-post g.D.BlockDevice.told g.D.BlockDevice.promised exchanges c.requires.posts.0 c.loop.counter posts.items
    (some-exchange exchanges c.loop.counter (omega (arith, below, many))) (omega (arith, below, many))
    (c.loop.invariant.posts c.requires.posts.0 c.requires.posts.1) (omega (arith, none, len))

pub run-requires : goal.run-requires
run-requires g c =
    let told = g.D.BlockDevice.told in
    let promised = g.D.BlockDevice.promised in
    let post = c.in-Some.field-0 in
    let below = c.loop-test.true in
    let many = c.len-end.ensures in
    let one = next-post told promised c.args.site.now.exchanges.items c.requires.posts.0 c.loop.counter c.loop.posts.items c.pop.new.self.items
    post (omega (arith, below, many)) c.in-Some.ensures.items (c.loop.invariant.posts c.requires.posts.0 c.requires.posts.1) in
    subst (λ (e : Exchange _). IsWorker told promised e post.worker) (sym one.0.0) one.0.1

pub loop-preserved : goal.loop-preserved
loop-preserved g c =
    let told = g.D.BlockDevice.told in
    let promised = g.D.BlockDevice.promised in
    let exchanges = c.args.site.now.exchanges.items in
    let kept = c.loop.invariant in
    let k = c.loop.counter in
    let post = c.in-Some.field-0 in
    let workers = c.loop.workers.items in
    let worker = c.run.new.self in
    let test = c.loop-test.true in
    let all = c.len-end.ensures in
    let below : k < length exchanges = omega (arith, test, all) in
    let one = next-post told promised exchanges c.requires.posts.0 k c.loop.posts.items c.pop.new.self.items
    post below c.in-Some.ensures.items (kept.posts c.requires.posts.0 c.requires.posts.1) in
    let at : drop (length workers) exchanges ≡ get_or exchanges k post.exchange.now ∷ drop (k + 1) exchanges =
    ap (λ n. drop n exchanges) kept.many ∙ drop_more exchanges k post.exchange.now below in
    let pushed = c.push_reserved.ensures.items in
    let long = ap length pushed ∙ length_push workers worker in
    let many = kept.many in
    record {
      posts = λ others zip. (next-post told promised exchanges others k c.loop.posts.items c.pop.new.self.items post below
          c.in-Some.ensures.items (kept.posts others zip)).1;
      workers = subst (AreWorkers told promised exchanges) (sym pushed)
          (workers-more told promised exchanges workers (get_or exchanges k post.exchange.now) (drop (k + 1) exchanges) worker kept.workers at
          (subst (λ (e : Exchange _). IsWorker told promised e worker) one.0.0 c.run.ensures.worker, c.run.ensures.over));
      many = omega (arith, long, many);
      room = subst (λ (n : ℕ). length exchanges ≤ n) (sym c.push_reserved.ensures.capacity) kept.room;
    }
