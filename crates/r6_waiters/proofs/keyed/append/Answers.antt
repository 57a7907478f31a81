use Rattle.std.proofs.Common.{◌≡◌, ◌<◌, ◌∙◌, length, get_or, set, sym, ap, subst}
use Rattle.r6_waiters.specs.Keys.{class_of, AreClassed}
use Rattle.r6_waiters.proofs.ByKey.{classed-appended}
use Rattle.r6_waiters.proofs.keyed.append.Goals as goal

pub returns-clause-classed : goal.returns-clause-classed
returns-clause-classed g c =
    let keyed = c.args.keyed.now in
    let places = c.args.places.now.items in
    let class = c.set_for-class.result in
    let within : class < length keyed = subst (λ n. class < n) (sym c.requires.classed.many) c.set_for-class.ensures.within in
    let last : c.len.result ≡ length places = c.len.ensures ∙ c.args.places.now.ok.0 in
    let old = get_or keyed class c.index-keyed-class.result in
    let is = ap (λ l. get_or keyed class l) c.index-keyed-class.is in
    let after = classed-appended g.K.KeyOf.key_of keyed places c.args.cause class c.len.result c.args.value c.insert.new.self old c.requires.classed (c.set_for-class.ensures.class ∙ ap (λ k. class_of k) c.key.ensures) within last is c.insert.ensures.has in
    subst (λ ps. AreClassed g.K.KeyOf.key_of (set keyed class c.insert.new.self) ps) (sym c.push_reserved.ensures.items) after
