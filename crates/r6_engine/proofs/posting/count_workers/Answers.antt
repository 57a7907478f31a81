use Rattle.std.proofs.Common.{◌≡◌, ◌+◌, suc, ap, arith, length, subst, sym, take}
use Rattle.std.proofs.lemmas.List.{length-append}
use Rattle.r6_engine.specs.Crews.{exchanges_at}
use Rattle.r6_engine.proofs.Crews.{at-more}
use Rattle.r6_engine.proofs.posting.count_workers.Goals as goal

pub loop-site-preserved : goal.loop-site-preserved
loop-site-preserved g c =
    let sites = c.args.sites.now in
    let k = c.loop-site.site-index in
    let site = c.site-item.result in
    let test = c.loop-site-test.true in
    let is = ap length (at-more sites k site (omega (arith, test)) (sym c.site-item.is)) in
    let both = length-append (exchanges_at (take k sites)) site.exchanges.items in
    let more = c.in-Some.ensures.1 in
    let before = c.loop-site.invariant in
    let len = c.len.ensures in
    let whole : c.in-Some.more ≡ length (exchanges_at (take (suc k) sites)) = omega (arith, is, both, more, before, len) in
    let same : suc k ≡ k + 1 = omega arith in
    subst (λ n. c.in-Some.more ≡ length (exchanges_at (take n sites))) same whole
