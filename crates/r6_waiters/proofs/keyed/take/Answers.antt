use Rattle.std.proofs.Common.{◌∙◌, None, [], get_or, set, sym, ap, subst, ◌<◌, length}
use Rattle.std.proofs.lemmas.List.{get_or_read}
use Rattle.r6_waiters.specs.Keys.{class_at, AreClassed}
use Rattle.r6_waiters.specs.Positions.{has}
use Rattle.r6_waiters.proofs.ByKey.{classed-marked, classed-taken}
use Rattle.r6_waiters.proofs.Marks.{mark-within, there-within, wide-set}
use Rattle.r6_waiters.proofs.keyed.take.Goals as goal

pub remove-requires : goal.remove-requires
remove-requires g c =
    let keyed = c.args.keyed.now in
    let places = c.args.places.now.items in
    let class = c.set_at-class.result in
    let is = c.set_at-class.ensures ∙ ap (λ ps. class_at g.K.KeyOf.key_of ps c.args.position) c.deref.ensures.value in
    let mark = classed-marked g.K.KeyOf.key_of keyed places class c.args.position c.requires.classed c.requires.there is in
    let old = get_or keyed class c.index-keyed-class.result in
    ap (λ l. has l c.args.position) (get_or_read keyed class old (mark-within keyed class c.args.position mark) (ap (λ l. get_or keyed class l) c.index-keyed-class.is) []) ∙ mark

pub returns-clause-classed : goal.returns-clause-classed
returns-clause-classed g c =
    let keyed = c.args.keyed.now in
    let places = c.args.places.now.items in
    let class = c.set_at-class.result in
    let is = c.set_at-class.ensures ∙ ap (λ ps. class_at g.K.KeyOf.key_of ps c.args.position) c.deref.ensures.value in
    let old = get_or keyed class c.index-keyed-class.result in
    let after = classed-taken g.K.KeyOf.key_of keyed places class c.args.position c.index_mut.result.now.0 c.remove.new.self old c.requires.classed c.requires.there is (ap (λ l. get_or keyed class l) c.index-keyed-class.is) c.remove.ensures.has in
    subst (λ o. AreClassed g.K.KeyOf.key_of (set keyed class c.remove.new.self) (set places c.args.position (c.index_mut.result.now.0, o))) (sym c.take.ensures.after) after

pub set_at-class-requires : goal.set_at-class-requires
set_at-class-requires g c = subst (λ ps. c.args.position < length ps) (sym c.deref.ensures.value) (there-within c.args.places.now.items c.args.position c.requires.there)

pub bounds-keyed-class : goal.bounds-keyed-class
bounds-keyed-class g c =
    let is = c.set_at-class.ensures ∙ ap (λ ps. class_at g.K.KeyOf.key_of ps c.args.position) c.deref.ensures.value in
    subst (λ n. n < length c.args.keyed.now) (sym is) (c.requires.classed.marked.within c.args.position c.requires.there)

pub index_mut-requires : goal.index_mut-requires
index_mut-requires g c = subst (λ n. c.args.position < n) (sym c.args.places.now.ok.0) (there-within c.args.places.now.items c.args.position c.requires.there)

pub returns-clause-sets : goal.returns-clause-sets
returns-clause-sets g c =
    let keyed = c.args.keyed.now in
    let class = c.set_at-class.result in
    let is = c.set_at-class.ensures ∙ ap (λ ps. class_at g.K.KeyOf.key_of ps c.args.position) c.deref.ensures.value in
    let within = subst (λ n. n < length keyed) (sym is) (c.requires.classed.marked.within c.args.position c.requires.there) in
    wide-set keyed c.remove.new.self (get_or keyed class c.index-keyed-class.result) class within (ap (λ l. get_or keyed class l) c.index-keyed-class.is) c.remove.ensures.room

pub returns-clause-value : goal.returns-clause-value
returns-clause-value g c =
    let places = c.args.places.now.items in
    c.take.ensures.value ∙ ap (λ p. p.1) (get_or_read places c.args.position c.index_mut.result.now (there-within places c.args.position c.requires.there) c.index_mut.ensures.value (0, None))

pub returns-clause-places : goal.returns-clause-places
returns-clause-places g c =
    let places = c.args.places.now.items in
    let was = get_or_read places c.args.position c.index_mut.result.now (there-within places c.args.position c.requires.there) c.index_mut.ensures.value (0, None) in
    ap (λ o. set places c.args.position (c.index_mut.result.now.0, o)) c.take.ensures.after ∙ ap (λ p. set places c.args.position (p.0, None)) was
