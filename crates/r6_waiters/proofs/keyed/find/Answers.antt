use Rattle.std.proofs.Common.{◌∙◌, None, get_or, sym, ap, arith, length}
use Rattle.std.proofs.lemmas.List.{get_or_read}
use Rattle.r6_waiters.specs.Keys.{has_key}
use Rattle.r6_waiters.proofs.Found.{none-before, none-left, none-more}
use Rattle.r6_waiters.proofs.Rooms.{up-to}
use Rattle.r6_waiters.proofs.keyed.find.Goals as goal

pub loop-position-init : goal.loop-position-init
loop-position-init g c = record { below = omega arith; none = λ i early. absurd (omega (arith, early)) }

pub bounds-places-position : goal.bounds-places-position
bounds-places-position g c = c.requires.within c.in-Some.position c.in-Some.ensures.1

pub returns-then-matches_key : goal.returns-then-matches_key
returns-then-matches_key g c =
    let places = c.args.places.now in
    let position = c.in-Some.position in
    let inside = c.requires.within position c.in-Some.ensures.1 in
    let read = get_or_read places position (get_or places position c.index-places-position.result) inside (ap (λ p. get_or places position p) c.index-places-position.is) (0, None) in (
      ap (λ p. has_key g.K.KeyOf.key_of c.args.key p.1) (sym read) ∙ sym c.if-matches_key.ensures,
      none-before g.K.KeyOf.key_of c.args.key places c.args.set.now c.loop-position.from position c.requires.all c.in-Some.ensures c.loop-position.invariant.none,
    )

pub loop-position-smaller : goal.loop-position-smaller
loop-position-smaller g c =
    let inside = c.requires.within c.in-Some.position c.in-Some.ensures.1 in
    omega (arith, inside, c.in-Some.ensures.0)

pub loop-position-preserved : goal.loop-position-preserved
loop-position-preserved g c =
    let places = c.args.places.now in
    let position = c.in-Some.position in
    let inside = c.requires.within position c.in-Some.ensures.1 in
    let read = get_or_read places position (get_or places position c.index-places-position.result) inside (ap (λ p. get_or places position p) c.index-places-position.is) (0, None) in
    let last = ap (λ p. has_key g.K.KeyOf.key_of c.args.key p.1) (sym read) ∙ sym c.if-matches_key.ensures in
    record {
      below = omega (arith, inside);
      none = none-more g.K.KeyOf.key_of c.args.key places position
          (none-before g.K.KeyOf.key_of c.args.key places c.args.set.now c.loop-position.from position c.requires.all c.in-Some.ensures c.loop-position.invariant.none)
          last;
    }

pub returns : goal.returns
returns g c = none-left g.K.KeyOf.key_of c.args.key c.args.places.now c.args.set.now c.loop-position.from c.requires.all c.in_default.ensures c.loop-position.invariant.none

pub offset_bounds-places-position : goal.offset_bounds-places-position
offset_bounds-places-position g c = up-to c.in-Some.position (length c.args.places.now) (c.requires.within c.in-Some.position c.in-Some.ensures.1)

pub overflow_add-from : goal.overflow_add-from
overflow_add-from g c = let inside = c.requires.within c.in-Some.position c.in-Some.ensures.1 in omega (arith, inside)
