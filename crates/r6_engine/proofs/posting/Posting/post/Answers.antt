use Rattle.std.proofs.Common.{◌≡◌, ◌≤◌, ◌+◌, ◌∙◌, ℕ, suc, ap, arith, length, subst, sym, take}
use Rattle.std.specs.List.{AllZip}
use Rattle.std.proofs.lemmas.List.{length-append}
use Rattle.std.proofs.lemmas.Option.{get_or_from_slice_get, slice_get_within}
use Rattle.std.proofs.lemmas.Slice.Zip.{AllZip-long}
use Rattle.r6_exchange.specs.Workers.{IsWorker}
use Rattle.r6_engine.specs.declared.crew.Site.{Site}
use Rattle.r6_engine.specs.Crews.{ArePosted, StandsAt, exchanges_at}
use Rattle.r6_engine.proofs.Crews.{at-more, fewer-at}
use Rattle.r6_engine.proofs.posting.Posting.post.Goals as goal

pub post_all-requires-clause-room : goal.post_all-requires-clause-room
post_all-requires-clause-room g c =
    let told = g.D.BlockDevice.told in
    let promised = g.D.BlockDevice.promised in
    let sites = c.args.self.now.sites.now in
    let shard = c.args.shard in
    let site = c.index-sites-shard.result in
    let within = slice_get_within sites shard c.requires.crew.0 c.requires.crew.2 in
    let posts = AllZip-long (StandsAt told promised) (exchanges_at (take shard sites)) c.args.self.now.posts.items c.requires.posts.posted in
    let workers = AllZip-long (IsWorker told promised) site.exchanges.items c.in_ok-remote.workers.items c.in_ok-remote.ensures.workers in
    let more = ap length (at-more sites shard site within (sym c.index-sites-shard.is)) in
    let both = length-append (exchanges_at (take shard sites)) site.exchanges.items in
    let fewer = fewer-at sites (suc shard) in
    let room = c.requires.posts.room in
    omega (arith, posts, workers, more, both, fewer, room)

pub returns-clause-site : goal.returns-clause-site
returns-clause-site g c = λ site at.
    c.in_ok-remote.ensures.site
    ∙ ap (λ (s : Site _). s.exchanges.items)
    (c.index-sites-shard.is ∙ get_or_from_slice_get c.args.self.now.sites.now c.args.shard site c.index-sites-shard.result at)

pub returns-clause-posts : goal.returns-clause-posts
returns-clause-posts g c =
    let told = g.D.BlockDevice.told in
    let promised = g.D.BlockDevice.promised in
    let sites = c.args.self.now.sites.now in
    let shard = c.args.shard in
    let site = c.index-sites-shard.result in
    let within = slice_get_within sites shard c.requires.crew.0 c.requires.crew.2 in
    let more : suc shard ≡ shard + 1 = omega arith in
    record {
      posted = subst (λ n. ArePosted told promised sites n c.post_all.new.posts.items) more
          (subst (λ es. AllZip (StandsAt told promised) es c.post_all.new.posts.items)
          (sym (at-more sites shard site within (sym c.index-sites-shard.is)))
          (c.post_all.ensures.posts (exchanges_at (take shard sites)) c.requires.posts.posted));
      room = subst (λ (n : ℕ). length (exchanges_at sites) ≤ n) (sym c.post_all.ensures.room) c.requires.posts.room;
    }
