use Rattle.std.proofs.Common.{◌∙◌, None, get_or, sym, ap}
use Rattle.std.proofs.lemmas.List.{get_or_read}
use Rattle.r6_waiters.specs.Keys.{class_of, class_in}
use Rattle.r6_waiters.proofs.keyed.set_at.Goals as goal

pub bounds-places-position : goal.bounds-places-position
bounds-places-position g c = c.requires

pub returns-in-Some : goal.returns-in-Some
returns-in-Some g c =
    let places = c.args.places.now in
    let read = get_or_read places c.args.position (get_or places c.args.position c.index-places-position.result) c.requires (ap (λ p. get_or places c.args.position p) c.index-places-position.is) (0, None) in
    c.set_for.ensures.class ∙ ap (λ k. class_of k) c.key.ensures ∙ ap (λ o. class_in g.K.KeyOf.key_of o) (sym c.in-Some.is ∙ ap (λ p. p.1) read)

pub returns-in-None : goal.returns-in-None
returns-in-None g c =
    let places = c.args.places.now in
    let read = get_or_read places c.args.position (get_or places c.args.position c.index-places-position.result) c.requires (ap (λ p. get_or places c.args.position p) c.index-places-position.is) (0, None) in
    ap (λ o. class_in g.K.KeyOf.key_of o) (sym c.in-None.is ∙ ap (λ p. p.1) read)
